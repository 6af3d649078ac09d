-- Laws of the sheet checker: of lists that are followed, of labels, of refusals 17 to 19, of its answers, and demand 3.
pub mod Following
pub mod Keeping
pub mod Checking
pub mod Answering
pub mod Demand
pub mod Silent
