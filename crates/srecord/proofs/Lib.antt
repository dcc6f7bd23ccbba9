-- What the proofs of several functions share, and the theorems of reading and writing.
pub mod Spelt
pub mod Formed
pub mod Naming
pub mod Lines
pub mod Judge
pub mod Answer
pub mod Text
pub mod Meaning
pub mod Grow
pub mod RoundTrip
