pub mod Lining
pub mod Showing
