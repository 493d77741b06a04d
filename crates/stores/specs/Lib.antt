pub mod Views
pub mod Rules
pub mod Facts
pub mod Kept
pub mod Writings
