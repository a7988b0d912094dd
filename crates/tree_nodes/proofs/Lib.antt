-- Laws of nodes by their words.
pub mod FormLaws
pub mod LinkLaws
pub mod FormOne
pub mod FormTwo
