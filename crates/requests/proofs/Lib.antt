mod Bytes
mod FirstWords
mod Handing
mod Taking
mod Reading
pub mod Telling
