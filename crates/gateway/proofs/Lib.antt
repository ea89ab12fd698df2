mod Seats
mod Stamped
mod Standing
mod Turns
