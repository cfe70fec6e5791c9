pub mod Away
pub mod Board
pub mod View
pub mod Fits
