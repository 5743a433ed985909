-- Tokens: the bytes of an input, and what they come to.
pub mod Bytes
pub mod Tokens
