pub mod Cutting
pub mod HexBounds
pub mod Kept
pub mod KnownSources
pub mod OwnInterfaces
