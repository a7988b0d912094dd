-- The blocks of an arena, and the upkeep of the index.
pub mod Blocks
pub mod Upkeep
