-- Laws of all the checks of a query.
pub mod Refusing
