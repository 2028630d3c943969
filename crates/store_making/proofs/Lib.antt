pub mod FileLaws
pub mod MakingLaws
