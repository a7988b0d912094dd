-- What the tree pool's cores hand back and leave.
pub mod Outcomes
pub mod Sizes
pub mod Granting
