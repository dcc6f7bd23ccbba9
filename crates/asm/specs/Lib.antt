pub mod Answer
pub mod Operands
pub mod Inside
pub mod Listing
