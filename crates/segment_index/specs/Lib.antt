-- What code reads off a control word; the segment tree of the index, and the index over any control words.
pub mod Control
pub mod Tree
pub mod Climb
pub mod Index
