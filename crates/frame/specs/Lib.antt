-- A line of 24 digits and the entry that it holds.
pub mod Digits
pub mod Numbers
pub mod Kinds
pub mod Frame
