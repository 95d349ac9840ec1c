pub mod Grammar
pub mod Line
pub mod Steps
pub mod Spelling
