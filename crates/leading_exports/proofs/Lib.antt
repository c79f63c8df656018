mod Drawn
mod Numbered
mod Reached
mod Spreading
mod Stepped
