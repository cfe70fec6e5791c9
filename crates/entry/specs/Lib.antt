pub mod Entries
pub mod Fields
pub mod Phrases
pub mod Shown
pub mod Values
