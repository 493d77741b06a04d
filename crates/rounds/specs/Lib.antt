pub mod Outcomes
pub mod Reports
pub mod Presumed
pub mod Members
pub mod Decision
pub mod Grounds
