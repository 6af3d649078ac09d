-- Laws that the functions' proofs cite.
pub mod Marking
pub mod Looking
pub mod Trying
pub mod Going
pub mod Failing
pub mod Finding
