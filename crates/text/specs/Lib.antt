pub mod Hex
pub mod Number
pub mod Price
pub mod Symbol
pub mod Word
