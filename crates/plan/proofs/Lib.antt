-- The laws that the proofs of this crate's functions share, and those that its callers' proofs cite.
pub mod Finding
pub mod Looking
pub mod Counting
pub mod Touching
pub mod Counts
pub mod SlotTable
pub mod Nearby
pub mod PointMarks
pub mod Rows
pub mod Known
