-- What a copy of an old table answers and leaves.
pub mod Copies
