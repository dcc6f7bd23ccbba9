pub mod Fault
pub mod Uses
pub mod Told
