pub mod Laws
pub mod Answers
pub mod Accepted
pub mod RoundTrip
pub mod Refusals
