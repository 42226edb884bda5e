-- Laws of the module neighbours.
mod Enclosing
