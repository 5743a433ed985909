-- What an hour comes to, whatever it was awarded for.
pub mod Settlement
