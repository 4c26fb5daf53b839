pub mod AcceptanceTrials
pub mod Outcomes
pub mod Rules
pub mod Results
