pub mod Verdicts
pub mod Effects
pub mod Hearing
pub mod Calls
pub mod Requests
