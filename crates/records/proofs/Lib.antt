-- What belongs to no one function.
mod Gathering
mod Determined
mod RefusedKeeps
