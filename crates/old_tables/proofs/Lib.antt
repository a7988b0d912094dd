-- Laws of a copy of an old table.
pub mod CopyLaws
