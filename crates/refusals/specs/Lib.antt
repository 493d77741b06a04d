pub mod Heard
pub mod Order
pub mod Once
