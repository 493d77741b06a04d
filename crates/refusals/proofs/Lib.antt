pub mod Found
pub mod Hearing
pub mod Noted
pub mod Once
pub mod Ordered
pub mod Stages
pub mod Turns
