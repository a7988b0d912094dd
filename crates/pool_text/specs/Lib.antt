-- A session of the text program in lent memory.
pub mod Session
pub mod Answers
