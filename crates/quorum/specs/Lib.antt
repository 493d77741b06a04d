pub mod Members
pub mod Sets
pub mod Below
pub mod Laws
pub mod Faults
pub mod Choices
pub mod Majority
pub mod Tallies
