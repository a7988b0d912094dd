-- A session's state as code tests it, and what code hands back of a call.
pub mod Layout
pub mod Calls
pub mod Inside
