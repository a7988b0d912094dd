-- What the check of the segment pool compares, blocks that lie side by side in its arena, and the pool that is lent.
pub mod Right
pub mod BitMaps
pub mod Adjoining
pub mod Gate
