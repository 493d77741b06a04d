pub mod Numerals
pub mod Sets
