pub mod Fields
pub mod Codes
pub mod Valid
pub mod Profile
pub mod Write
pub mod Read
