-- Words as little-endian bytes.
pub mod Little
