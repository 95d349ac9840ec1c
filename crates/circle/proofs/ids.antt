pub mod Bits
pub mod Laws
pub mod Lists
pub mod Masks
pub mod On
