pub mod Bits
pub mod Sets
pub mod Below
pub mod Refused
pub mod Chains
