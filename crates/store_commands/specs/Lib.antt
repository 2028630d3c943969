pub mod Asking
pub mod Notices
pub mod Previews
pub mod Replacing
pub mod Replies
