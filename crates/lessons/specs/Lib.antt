-- What this crate says beyond the rules: limits, and the table that holds them.
pub mod Limit
pub mod Table
