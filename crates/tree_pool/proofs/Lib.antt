-- The laws behind the tree pool's calls.
pub mod FormatLaws
pub mod StopLaws
