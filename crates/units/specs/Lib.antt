-- The refusal numbers and limits of document 01, its quantities, and the one conversion between them.
pub mod Refusals
pub mod Limits
pub mod Units
