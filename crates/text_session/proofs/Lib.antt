-- Laws of bytes handed over.
pub mod HandingLaws
