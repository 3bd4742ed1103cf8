mod AddressLaws
mod Explained
mod LineLaws
mod OneMore
mod RecordLaws
