pub mod AcceptanceTrials
pub mod Between
pub mod Walk
pub mod Offered
pub mod Filed
pub mod Rules
pub mod With
pub mod Results
