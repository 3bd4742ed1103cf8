pub mod Registries
pub mod Table
pub mod Reaching
pub mod Tests
pub mod Rules
