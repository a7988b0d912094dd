-- What the structs that cross to C stand for.
pub mod Structs
