-- The ledger: what a pool holds, said once for both engines, over the unit rule.
pub mod Records
pub mod Units
pub mod Runs
