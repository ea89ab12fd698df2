pub mod WordSplitting
pub mod Plain
pub mod Joining
pub mod Numbers
pub mod Hex
pub mod Values
pub mod WordSpaces
pub mod Tables
pub mod PlanParts
pub mod PlanSeries
pub mod PlanSteps
pub mod PlanLaws
mod Splitting
mod KindWords
pub mod Arity
pub mod Complete
pub mod Sound
pub mod Spaces
pub mod ReadLines
pub mod PlanText
mod LentWords
mod KindReading
mod TableLines
mod TableReading
mod SettingSteps
mod Beginnings
mod OneLine
pub mod Pieces
mod WholeTexts
mod EventFaults
mod NextLines
mod TextFaults
