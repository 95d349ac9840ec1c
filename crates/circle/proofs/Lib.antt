pub mod rounds
pub mod Lists
pub mod Tests
