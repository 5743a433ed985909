-- The laws that belong to no one function.
mod Boxes
mod Telling
mod LineLaws
mod Determined
mod RefusedKeeps
