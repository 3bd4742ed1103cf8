mod Named
mod Ports
mod Refusing
mod Ruled
