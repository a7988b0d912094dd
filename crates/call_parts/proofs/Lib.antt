-- Laws of the shared parts of the calls.
pub mod NamedLaws
pub mod ListLaws
pub mod FindLaws
pub mod AskLaws
pub mod WholeLists
pub mod ResultLaws
pub mod LookLaws
pub mod FormatLaws
