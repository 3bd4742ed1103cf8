pub mod Failures
pub mod Forwarded
pub mod Going
pub mod Stages
pub mod Talking
pub mod Unlike
