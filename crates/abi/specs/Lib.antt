pub mod Answer
pub mod Captures
pub mod Records
