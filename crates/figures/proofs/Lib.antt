-- What belongs to no one function.
mod Figures
mod Parts
