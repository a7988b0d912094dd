-- What the worked cases are: calls and what each leaves.
pub mod BenchSheet
pub mod FormThree
pub mod FreerPools
pub mod Sequences
pub mod Restarts
pub mod SharedPool
