pub mod Moves
pub mod Kept
pub mod Places
pub mod Views
pub mod Levels
pub mod Fills
