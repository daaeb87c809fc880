mod Named
mod Buffers
mod AllowedLengths
