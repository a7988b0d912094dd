-- The readings of a ledger, one block more, what is stored, and what the search and the release look at.
pub mod Views
pub mod Stores
pub mod Cores
