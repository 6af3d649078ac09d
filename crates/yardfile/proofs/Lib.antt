-- The laws that the proofs of this crate's functions share, and that what the reader answers is determined.
pub mod BigEndian
pub mod Finding
pub mod Following
pub mod Writing
pub mod Places
pub mod Faults
pub mod Surveying
pub mod Tables
pub mod Reading
pub mod Unique
