-- Numbers, fields and lines as bytes, with nothing of pools in it.
pub mod Numbers
pub mod Fields
pub mod Lines
pub mod Rooms
