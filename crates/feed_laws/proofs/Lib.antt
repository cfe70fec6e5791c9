pub mod Numbers
pub mod Forms
pub mod Trips
pub mod Moves
pub mod Walks
