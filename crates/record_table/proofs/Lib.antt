-- The laws of what specs/ defines.
pub mod SlotLaws
pub mod PairLaws
pub mod CheckLaws
pub mod BesideLaws
pub mod PartitionLaws
pub mod EnterLaws
pub mod LeadLaws
