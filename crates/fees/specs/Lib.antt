-- The fees of one hour.
pub mod Fees
pub mod Accepted
