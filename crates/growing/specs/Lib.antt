-- The plan that is returned. gmf's specs/Lib.antt says how to read these files. `Plan` is the struct of src/lib.rt.
pub mod Plan
pub mod Claims
