-- The slack calls. gmf's specs/Lib.antt says how to read these files, and slack's has the numbers below 0. `Slacks` is the struct of src/lib.rt.
pub mod Slacks
pub mod Claims
