pub mod Bytes
pub mod Faults
pub mod Layouts
pub mod Frames
pub mod Sending
pub mod Shown
