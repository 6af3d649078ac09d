-- Laws that the functions' proofs cite.
pub mod TurnsByPoint
pub mod Entering
pub mod ThreeSlots
