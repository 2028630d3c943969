pub mod LendingLaws
pub mod OpeningLaws
pub mod ReadingLaws
