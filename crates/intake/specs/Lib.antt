-- What the program does with its input.
pub mod Text
pub mod Answers
pub mod Inner
pub mod Calls
