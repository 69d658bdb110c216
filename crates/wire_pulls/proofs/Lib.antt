mod Coded
mod Meets
mod Pulled
mod Requested
mod Sounds
mod Unions
mod Wholes
