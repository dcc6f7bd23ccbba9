-- What the proofs of several functions share, and the theorems that tie the definitions to the manual's meaning.
pub mod Truth
pub mod Laws
pub mod Below
pub mod ByBits
pub mod Masks
pub mod Rotations
pub mod Doubles
pub mod Order
pub mod Sums
pub mod Products
pub mod Meanings
pub mod Worked
pub mod Signs
