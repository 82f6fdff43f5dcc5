pub mod ReadingFacts
