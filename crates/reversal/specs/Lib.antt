-- What this crate says: whether a train can reverse, what a glance at a section tells, what a guess tells, and what points a run has passed.
pub mod Reverses
pub mod Glanced
pub mod Guessed
pub mod Passed
