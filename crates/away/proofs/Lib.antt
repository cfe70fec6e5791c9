pub mod Finding
pub mod Tidying
pub mod Boards
