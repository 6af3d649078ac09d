-- What this crate says beyond the rules: a sheet as it is lent, the rows that it reads, what it finds of a list and of labels, and what its
-- answer means.
pub mod Lent
pub mod Laid
pub mod Following
pub mod Keeping
pub mod Checking
pub mod Answer
