pub mod Accepted
pub mod Posted
pub mod Refusing
pub mod Turns
