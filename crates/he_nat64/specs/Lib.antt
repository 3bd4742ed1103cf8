pub mod Embedding
pub mod Discovery
pub mod Laws
pub mod Synthesis
