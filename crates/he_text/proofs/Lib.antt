mod LineLaws
mod RereadLines
mod RereadRaces
mod RereadRanges
mod RereadSaid
mod RereadTexts
