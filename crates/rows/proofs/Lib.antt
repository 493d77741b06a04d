pub mod Facts
pub mod Kept
