pub mod Filling
pub mod Pages
pub mod Blank
pub mod Pieces
pub mod Results
