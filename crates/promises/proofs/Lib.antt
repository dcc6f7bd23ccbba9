-- The demands as theorems.
pub mod Grow
pub mod Faults
pub mod Reaches
pub mod Demands
pub mod Clean
pub mod Sound
pub mod Accepted
pub mod Told
pub mod Determined
pub mod Lent
pub mod Worked
pub mod Cut
pub mod Inside
pub mod Until
pub mod Lines
pub mod Files
pub mod Same
