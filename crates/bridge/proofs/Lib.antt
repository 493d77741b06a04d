mod Options
mod Bits
mod Reports
mod Decided
mod Chains
mod Judged
mod Recorded
mod Heard
mod Accepted
mod TakenUp
pub mod Down
pub mod Calls
