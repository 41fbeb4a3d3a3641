mod Accepting
mod Reading
