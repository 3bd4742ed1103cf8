pub mod Ends
pub mod Further
pub mod Joining
pub mod Known
pub mod OneOutput
mod Printed
pub mod RaceTexts
pub mod RoundEnd
pub mod Workers
