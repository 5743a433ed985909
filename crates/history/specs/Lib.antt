-- Any ledger whose places are the hours of a month's days: its rules, its board, and its history.
pub mod Rules
pub mod Board
pub mod Inner
pub mod History
pub mod Demand
