-- Laws that the functions' proofs cite, and those by which a search uses its lessons.
pub mod Limits
pub mod Remembering
