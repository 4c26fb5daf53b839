pub mod AcceptanceTrials
