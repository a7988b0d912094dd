-- What requests on a sound segment pool hand back and leave.
pub mod Outcomes
pub mod Granting
