-- What the proofs of several functions share, and the theorems on captures.
pub mod Laws
pub mod Checks
pub mod Codec
pub mod RoundTrip
pub mod Worked
