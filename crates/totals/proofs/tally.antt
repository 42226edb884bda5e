-- Laws of the module tally.
mod Reals
