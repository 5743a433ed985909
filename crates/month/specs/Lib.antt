-- The month ledger.
pub mod Month
pub mod Inner
