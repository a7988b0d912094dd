-- What the tests before every call decide, and what the map of the records and the walk of the free tree say.
pub mod Gate
pub mod Maps
pub mod Walk
