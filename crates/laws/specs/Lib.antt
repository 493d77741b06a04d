pub mod Known
pub mod Grounds
pub mod Laws
pub mod Standing
