-- What the structs of the C ABI mean.
pub mod Numbers
pub mod Version
