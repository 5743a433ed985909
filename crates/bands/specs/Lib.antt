-- The quality bands, on two lists of numbers.
pub mod Bands
pub mod Accepted
