-- What this crate says: which points are in a set.
pub mod Points
