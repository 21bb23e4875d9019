pub mod Block
pub mod BufLends
pub mod Follows
pub mod IsBuf
pub mod Places
