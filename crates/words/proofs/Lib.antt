-- The laws of what specs/ defines.
pub mod Tests
pub mod ListLaws
pub mod CountedLaws
pub mod SumLaws
pub mod ByPlace
pub mod PlaceLaws
pub mod SignedLaws
