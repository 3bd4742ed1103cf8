mod Asking
mod Beginning
mod Faithful
mod Owned
mod Waits
