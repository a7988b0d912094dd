-- What the shared parts of the calls decide, and what a call hands back and leaves.
pub mod Parts
pub mod Results
