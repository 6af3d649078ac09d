-- What this crate says beyond the rules: the tags, one field, runs of fields, a file as runs, and the answer's numbers.
pub mod Widths
pub mod Tags
pub mod Field
pub mod Runs
pub mod Parts
pub mod Answer
