mod Cuts
mod Joining
mod Spellings
mod Numerals
