mod Left
mod Texts
