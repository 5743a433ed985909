-- Reading questions: from the bytes of an input to the questions that it holds.
pub mod Asking
pub mod Inner
