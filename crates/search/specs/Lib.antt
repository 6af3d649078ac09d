-- What the search's inner functions hand on, and what its answer means.
pub mod Solved
pub mod Answer
