pub mod Facts
pub mod Messages
pub mod Recorders
pub mod Rows
