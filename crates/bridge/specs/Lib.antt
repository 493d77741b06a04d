pub mod Seen
pub mod Refines
