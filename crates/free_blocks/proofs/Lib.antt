-- Laws of the free blocks.
pub mod BlockLaws
pub mod TakeLaws
pub mod GiveLaws
