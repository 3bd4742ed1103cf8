mod AddressBytes
mod AddressTexts
mod Between
mod Bounds
pub mod Common_bits
pub mod Cuts
mod HexDigits
mod JoinedTexts
mod NetTexts
mod Numbers
mod OctetTexts
mod Options
pub mod Prepended
mod PrintedTexts
pub mod ReadLaws
mod Runs
mod SideTexts
pub mod TextLaws
