pub mod Highest
pub mod Membership
pub mod Grounds
