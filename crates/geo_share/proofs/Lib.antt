mod Correct
mod Listed
