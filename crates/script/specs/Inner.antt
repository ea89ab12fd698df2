pub mod WordReading
pub mod LineFaults
pub mod Lines
pub mod PlanReading
pub mod PlanParts
pub mod Reading
pub mod SettingWords
pub mod OneLine
