-- The theory of any ledger: days and places, the board, one call, the read-outs, demand 3, and refusal 22.
pub mod Orders
pub mod Days
pub mod Board
pub mod Steps
pub mod Readouts
pub mod Demand
pub mod Front
pub mod Reach
pub mod Model
