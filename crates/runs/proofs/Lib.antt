mod Answered
pub mod Ruled
mod Accepted
mod Posts
mod Seen
mod Taken
mod Started
pub mod Founded
pub mod Runs
pub mod Orderly
mod Carried
pub mod Findings
