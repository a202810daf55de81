mod Allowed
mod Steps
