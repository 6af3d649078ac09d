-- What this crate says beyond the rules: the steps of a trip as rows, which turns a pull-out serves, the step over one section, the mark of
-- an end, lists of arrivals each of which begins where the one before has come, and all the rows of a query.
pub mod StepTable
pub mod Served
pub mod StepOver
pub mod Ending
pub mod Linked
pub mod Listing
