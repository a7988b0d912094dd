-- The pool as a machine, and stated over it: the three demands, the claims on restarts, on freeing early and on parties,
-- and the places of a search.
pub mod Pool
pub mod Step
pub mod Refusals
pub mod Engines
pub mod Search
pub mod Lent
pub mod Demand1
pub mod Demand2
pub mod Monotone
pub mod Demand3
pub mod Restart
pub mod Private
pub mod Computing
