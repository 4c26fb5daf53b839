pub mod Asking
pub mod Standing
pub mod Following
pub mod Demand
pub mod Held
pub mod Results
