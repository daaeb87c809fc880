pub mod SpelledNumbers
