-- The laws of requests on a sound segment pool.
pub mod StoredLaws
pub mod RefusedLaws
pub mod GrantLaws
pub mod PlanLaws
pub mod PlacesCounted
