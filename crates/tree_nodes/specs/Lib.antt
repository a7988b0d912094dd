-- Nodes of the free tree in an arena, one by one.
pub mod Nodes
