-- The laws that the proofs of this crate's functions share, and those that its callers' proofs cite.
pub mod Sums
pub mod Offers
pub mod Lowering
pub mod TableNet
pub mod TightNet
pub mod Exactness
pub mod Fronts
pub mod Following
pub mod Unique
pub mod Every
