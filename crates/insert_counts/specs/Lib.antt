-- The map of an arena's cells.
pub mod Map
