mod AddressOctets
mod Appended
mod Authorities
mod Begun
mod GivenPasswords
mod Named
mod OldMessages
