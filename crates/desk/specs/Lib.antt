-- The desk's sheets. gmf's specs/Lib.antt says how to read these files. `Desk` and `Filled` are the structs of src/lib.rt.
pub mod Pages
pub mod Claims
