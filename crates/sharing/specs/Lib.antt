pub mod Shares
pub mod Asking
pub mod Laws
pub mod Samples
