-- Blocks taken from the free tree and given back to it.
pub mod Blocks
pub mod Giving
