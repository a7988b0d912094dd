-- The laws of the check.
pub mod BitLaws
pub mod AdjoiningLaws
pub mod KeptLaws
pub mod ArenaLaws
pub mod IndexLaws
pub mod MatchLaws
pub mod HeadLaws
pub mod GateLaws
