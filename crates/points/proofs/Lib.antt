-- Laws that the functions' proofs cite.
pub mod Back
pub mod Bits
pub mod Members
pub mod Unique
pub mod Words
