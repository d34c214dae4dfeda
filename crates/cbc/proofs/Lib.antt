mod Names
pub mod InWords
pub mod Blocks
pub mod Opens
pub mod RoundTrip
pub mod SealsBack
pub mod Goes
pub mod Batches
