pub mod Lists
pub mod Marks
mod History
mod Worlds
mod Fate
mod Promises
mod Invariant
mod Stays
mod Quiet
mod Rows
mod Pages
mod Reports
mod Records
mod Rooted
mod Installs
mod Decisions
mod Settles
mod Back
mod Chains
mod Tells
mod Calls
mod Runs
pub mod Findings
mod Example
