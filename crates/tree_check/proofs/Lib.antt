-- The laws of the gate, of the map of the records, of the walk of the free tree, and of what both say together.
pub mod GateLaws
pub mod LeadLaws
pub mod SpanLaws
pub mod MapLaws
pub mod GapLaws
pub mod LimitLaws
pub mod WalkLaws
pub mod ApartLaws
pub mod ScaleLaws
pub mod StoredLaws
