-- Laws of the search: its table as a net, what solves it, and its answers.
pub mod StepNet
pub mod Solving
pub mod Answering
