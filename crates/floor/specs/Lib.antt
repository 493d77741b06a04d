pub mod Worlds
pub mod Tasks
pub mod Parts
pub mod Cuts
pub mod Memory
pub mod Ran
pub mod Led
