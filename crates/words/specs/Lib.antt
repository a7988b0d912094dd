-- What is said of words and lists, with nothing of pools in it.
pub mod Flags
pub mod Lists
pub mod Counted
pub mod Places
pub mod Signed
