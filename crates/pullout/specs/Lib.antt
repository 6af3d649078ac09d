-- What this crate says beyond the rules: what is asked, and its answer as numbers.
pub mod Asked
pub mod Answer
