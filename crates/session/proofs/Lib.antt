-- The text program's answers are short, its states are had back from their bytes, and the promise over bursts.
pub mod LineLaws
pub mod StateLaws
pub mod GoodLaws
pub mod Bursts
