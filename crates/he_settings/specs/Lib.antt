pub mod Faults
pub mod Known
pub mod Meant
pub mod Plans
pub mod Scopes
