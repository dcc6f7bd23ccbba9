pub mod Run
pub mod Outcome
pub mod Lent
