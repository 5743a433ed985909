-- The laws that belong to no one function.
mod Printed
pub mod Cutting
pub mod Counting
mod Going
pub mod Kept
mod Determined
mod RefusedKeeps
