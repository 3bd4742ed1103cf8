mod Beginnings
mod EndLines
mod FirstFaults
mod FormKinds
mod GroupFaults
pub mod HeldInputLaws
mod Mending
mod OneInput
mod OneRaceLaws
mod OpenLines
mod PlainTexts
pub mod RaceReadingLaws
pub mod RaceStreamLaws
mod RecordedFaults
pub mod RecordedTexts
