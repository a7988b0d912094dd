-- Laws of numbers, fields and lines.
pub mod WriteLaws
pub mod NumberLaws
pub mod RoundTrip
pub mod FieldLaws
pub mod LineLaws
pub mod CutLaw
pub mod RoomLaws
pub mod WholeLines
