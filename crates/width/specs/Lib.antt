pub mod Refusals
pub mod Widths
