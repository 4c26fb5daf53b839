pub mod AcceptanceTrials
pub mod Cutting
pub mod Walking
pub mod Turns
pub mod Hosting
pub mod Ending
pub mod Importing
pub mod Results
