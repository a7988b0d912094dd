-- Laws of the text program.
pub mod RequestLaws
pub mod RowLaws
pub mod FrontLaws
pub mod OpenLaws
pub mod StandLaws
pub mod BurstLaws
