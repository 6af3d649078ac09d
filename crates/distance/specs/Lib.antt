-- What this crate says: a table of steps, the net that it is, what is answered over it, and the labels on the way there.
pub mod Table
pub mod Answer
pub mod Labels
pub mod Picked
pub mod Queue
