-- The sReg hour.
pub mod Hour
pub mod Accepted
pub mod Hours
pub mod Calls
pub mod Inner
