-- What this crate says beyond the rules: what a lent plan stands for and the first number at which a test holds, tables of the sections at each
-- point, and a turn's rule in two halves.
pub mod Lent
pub mod Ends
pub mod Turns
