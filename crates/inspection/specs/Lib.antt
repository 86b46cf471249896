pub mod Surveys
pub mod Inspections
