pub mod AcceptanceTrials
pub mod Written
pub mod Sound
pub mod Replies
pub mod Results
