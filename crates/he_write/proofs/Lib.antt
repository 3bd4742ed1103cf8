mod LineTexts
pub mod LoopLaws
mod OrderTexts
mod WrittenLines
