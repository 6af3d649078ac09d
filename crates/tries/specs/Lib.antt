-- What this crate says beyond the rules: the marks of a try, what a look at a section tells, what a try in vain tells, the same
-- of a search by the turn that it serves, and what a search answers.
pub mod Marks
pub mod Tried
pub mod Looked
pub mod Fails
pub mod Serves
pub mod Searched
