-- The laws that belong to no one function.
pub mod Places
pub mod Pieces
pub mod Spelling
mod Determined
