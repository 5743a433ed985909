-- The month's rules, and a month without its places.
pub mod Rules
pub mod Inner
