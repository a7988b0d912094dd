-- The laws over any engine, the three demands, the claims on restarts, on freeing early and on parties, and their
-- instances.
pub mod RefusalLaws
pub mod StoreLaws
pub mod ActLaws
pub mod GateLaws
pub mod RowLaws
pub mod GrantLaws
pub mod HeldLaws
pub mod Demand1
pub mod TrimLaws
pub mod Demand2
pub mod Monotone
pub mod LentLaws
pub mod CallLaws
pub mod ProgressLaws
pub mod Strays
pub mod WholeCalls
pub mod Demand3
pub mod Restart
pub mod AnyOrder
pub mod Private
pub mod Engines
