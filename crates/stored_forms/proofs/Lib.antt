-- Laws of what each engine stores of a ledger.
pub mod TreeLaws
pub mod SegmentLaws
pub mod NodeLaws
pub mod FreeTreeLaws
pub mod ScaledLaws
pub mod SearchLaws
