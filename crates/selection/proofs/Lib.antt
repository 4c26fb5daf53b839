pub mod Examples
pub mod Next
pub mod Order
pub mod Shares
pub mod Sorted
pub mod Turns
pub mod Results
