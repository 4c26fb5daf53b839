pub mod Levels
pub mod Raises
pub mod Works
pub mod Shares
pub mod Loops
pub mod Results
