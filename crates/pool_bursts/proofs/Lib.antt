-- Laws of a session's state as code tests, reads and writes it.
pub mod LayoutLaws
pub mod StateIs
pub mod FormedLaws
pub mod LoadLaws
pub mod ClearLaws
pub mod StoreLaws
pub mod CallLaws
