-- From an input's bytes to the history of its frames, and to what is printed.
pub mod Account
pub mod Prints
pub mod Earlier
