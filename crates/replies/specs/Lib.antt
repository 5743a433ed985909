-- What the program `desk` does with a chunk, and at the input's end.
pub mod Inner
