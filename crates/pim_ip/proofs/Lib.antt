pub mod ChecksumLemmas
pub mod ReadingLemmas
pub mod ViewLemmas
pub mod WritingLemmas
