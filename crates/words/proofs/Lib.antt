-- The laws that belong to no one function; `pub` are those that crates above cite.
pub mod Refusing
mod Determined
