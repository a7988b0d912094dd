-- Laws of the map of an arena's cells.
pub mod MapLaws
