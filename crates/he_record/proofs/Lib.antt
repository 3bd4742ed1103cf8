pub mod Closed
pub mod FitLaws
mod FormReads
mod FormSays
pub mod FrontLaws
pub mod GoesOn
pub mod LineSays
mod Lines
mod MomentLaws
mod Rereading
pub mod Stands
mod TakenLines
mod Values
mod WholeLines
mod WordReads
mod WrittenLines
