-- Laws that the functions' proofs cite.
pub mod Arrivals
pub mod ArrivalOver
pub mod Stepping
pub mod TwoOthers
pub mod Rows
pub mod Filling
pub mod Marking
pub mod NoEnds
pub mod Serving
pub mod Reversing
pub mod Routing
pub mod AnyQuery
