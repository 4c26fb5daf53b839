-- What the desk writes for a sheet. gmf's specs/Lib.antt says how to read these files.
pub mod Sheets
pub mod Claims
