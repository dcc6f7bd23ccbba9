pub mod Fault
pub mod Reach
pub mod Told
pub mod Growth
pub mod Same
pub mod Stopped
