pub mod AskingLaws
pub mod EditLaws
pub mod NoticeLaws
pub mod PreviewLaws
pub mod ReplyLaws
pub mod StandingLaws
