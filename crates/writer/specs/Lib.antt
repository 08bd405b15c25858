-- What the contract of the plan's writer cites, and the round trip.
pub mod Written
pub mod RoundTrip
