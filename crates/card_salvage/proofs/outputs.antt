mod Taken
mod Rooms
mod Writing
