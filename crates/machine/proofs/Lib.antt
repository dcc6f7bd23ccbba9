-- What the proofs of several functions share, and what the crates above cite.
pub mod Refusals
pub mod Registers
pub mod Quiet
pub mod Frames
pub mod Halts
pub mod Interrupts
