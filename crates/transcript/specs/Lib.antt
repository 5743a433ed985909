-- The program `desk`: the questions of an input, what they print, and the calls that print it.
pub mod Questions
pub mod Written
pub mod Transcript
pub mod Calls
pub mod Posts
