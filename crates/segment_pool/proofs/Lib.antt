-- The laws behind the segment pool's promises.
pub mod FormatLaws
pub mod GateLaws
