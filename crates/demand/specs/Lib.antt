-- The month ledger as demand 3 sees it.
pub mod Ledger
