pub mod Filled
pub mod Back
pub mod Fields
pub mod Answers
pub mod Checked
pub mod Printing
pub mod Letters
pub mod Columns
