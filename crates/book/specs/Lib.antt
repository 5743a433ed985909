-- One line taken to the ledger.
pub mod Book
pub mod Inner
