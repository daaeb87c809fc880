mod Digits
mod Parts
