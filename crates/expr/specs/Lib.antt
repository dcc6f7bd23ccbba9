pub mod Grammar
pub mod Evaluate
pub mod Scan
pub mod Digits
pub mod Reads
