pub mod Totals
pub mod Order
pub mod Level
pub mod Refusals
pub mod View
