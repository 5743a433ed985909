-- The questions about one rule.
pub mod Rules
pub mod Inner
