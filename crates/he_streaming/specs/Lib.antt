pub mod Known
pub mod Output
pub mod Pieces
pub mod Rounds
pub mod Stream
