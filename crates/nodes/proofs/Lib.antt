mod Naming
mod Telling
mod Choosing
mod Crews
