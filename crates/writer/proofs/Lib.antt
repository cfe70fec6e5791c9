pub mod Extends
pub mod Holding
