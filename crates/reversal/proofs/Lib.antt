-- Laws that the functions' proofs cite, and those by which a caller reads the answer.
pub mod Reversing
pub mod Glancing
pub mod Guessing
pub mod Running
