pub mod Pages
pub mod Ruled
pub mod Making
pub mod Memory
