pub mod Founding
pub mod World
pub mod Steps
pub mod Runs
pub mod Findings
pub mod Orderly
