-- Laws of the readings of a ledger, of one block more, of what is stored, of the search, and of the blocks beside a
-- block.
pub mod WordLaws
pub mod WholeLaws
pub mod PlaceLaws
pub mod FitWords
pub mod ViewLaws
pub mod AddLaws
pub mod StoreLaws
pub mod CutLaws
pub mod ChangeLaws
pub mod BlankLaws
pub mod BitLaws
pub mod UnitLaws
pub mod CallLaws
pub mod SearchLaws
pub mod NearLaws
