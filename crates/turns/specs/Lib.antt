-- What this crate says beyond the rules: the tables that a search for a pull-out reads, and which section it may enter.
pub mod Tables
pub mod Enters
