-- The laws that belong to no one function; `pub` are those that crates above cite.
mod Determined
mod RefusedKeeps
