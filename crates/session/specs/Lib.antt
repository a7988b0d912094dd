-- The text program: what its lines ask, what its bytes are answered, and a session of it in bursts.
pub mod Meaning
pub mod State
pub mod Calls
pub mod Bursts
