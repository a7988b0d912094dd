-- Laws of control words, of the number of segments, of the segment tree and of the index.
pub mod SignLaws
pub mod PowerLaws
pub mod WayLaws
pub mod BranchLaws
pub mod ClimbLaws
pub mod SizeLaws
pub mod RangeLaws
pub mod IndexLaws
