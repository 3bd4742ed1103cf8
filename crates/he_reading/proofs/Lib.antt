mod Agreement
mod AllAddresses
mod Checks
mod CompleteChecks
mod CompleteFaults
pub mod CompleteForms
pub mod CompleteGroups
pub mod CompleteLines
mod CompleteLists
mod CompletePlaces
pub mod CompleteRaces
pub mod CompleteTexts
pub mod FaultTexts
pub mod FormFacts
mod FormLaws
mod FormReads
mod GivenLaws
mod HeadLaws
mod HostLaws
pub mod LineReads
pub mod NextLines
mod OrderLaws
pub mod PartLaws
mod PlaceLaws
pub mod RaceTexts
mod ReadRaces
mod ReadingLaws
pub mod Results
mod SaidLaws
pub mod SaysLaws
pub mod SelectionFacts
mod Tables
mod ToldLaws
pub mod Versions
mod WordLines
