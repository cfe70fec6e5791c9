pub mod Spelling
pub mod Taking
