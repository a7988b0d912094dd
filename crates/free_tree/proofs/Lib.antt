-- Laws of the free tree's steps.
pub mod RunOrder
pub mod JoinLaws
pub mod PartLaws
pub mod LinkLaws
pub mod ChangeLaws
pub mod CellLaws
pub mod StepLaws
pub mod JoinSteps
pub mod PartSteps
pub mod PlaceSteps
pub mod ChangeSteps
pub mod ShrinkLaws
pub mod ShrinkSteps
pub mod Numbers
pub mod SeekSteps
pub mod TouchSteps
