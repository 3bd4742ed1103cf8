pub mod FaultSearch
pub mod Faults
pub mod Forms
pub mod Left
pub mod Parts
pub mod Reading
pub mod Said
pub mod Text
