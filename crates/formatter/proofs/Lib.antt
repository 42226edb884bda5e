-- Laws of the walk, and of what is made of its text.
mod Words
mod Spelt
mod Inversion
mod Climbing
mod Primaries
mod Steps
mod Pieces
mod Lists
mod Infixes
mod Depths
mod Whole
