-- What the test programs promise of their helpers.
pub mod Forms
