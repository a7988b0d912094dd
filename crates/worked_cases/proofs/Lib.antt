-- The worked cases hold.
pub mod BenchSheet
pub mod FormThree
pub mod FreerPools
pub mod Sequences
pub mod Restarts
pub mod SharedPool
