pub mod Hex
pub mod Record
pub mod File
pub mod Write
pub mod Found
pub mod Named
pub mod Judged
