pub mod Same
pub mod Kept
pub mod Pages
pub mod Reading
