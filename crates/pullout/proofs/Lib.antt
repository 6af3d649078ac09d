-- Laws that the functions' proofs cite.
pub mod Asking
pub mod Answering
