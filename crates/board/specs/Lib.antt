-- The month ledger in place.
pub mod Board
pub mod Inner
pub mod Calls
