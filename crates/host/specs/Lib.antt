-- The host's sheets, and what a C host is answered. gmf's specs/Lib.antt says how to read these files. `RefusedLine` is the struct of src/lib.rt.
pub mod Host
pub mod Replies
pub mod Imports
pub mod Claims
