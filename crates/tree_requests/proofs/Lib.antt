-- The laws behind the tree pool's cores.
pub mod SizeLaws
pub mod StoredLaws
pub mod SoundLaws
pub mod RefusedLaws
pub mod GrantLaws
pub mod PlanLaws
