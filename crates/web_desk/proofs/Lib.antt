pub mod AnswerLemmas
pub mod CallLemmas
pub mod CourseLemmas
pub mod FewEntries
pub mod MakerLemmas
pub mod ServeLemmas
