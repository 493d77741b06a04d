pub mod Views
pub mod References
pub mod Heads
