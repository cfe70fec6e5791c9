pub mod Market
pub mod Refusals
pub mod Live
pub mod Fits
