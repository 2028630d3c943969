pub mod ItemBytes
