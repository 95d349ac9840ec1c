pub mod Desk
pub mod DeskParts
pub mod Fields
pub mod Refusal
pub mod Station
pub mod States
