-- What this crate says beyond the rules: the query that is asked.
pub mod Asked
