-- The laws of what specs/ defines.
pub mod RecordLaws
pub mod UnitLaws
pub mod RunLaws
pub mod FitLaws
