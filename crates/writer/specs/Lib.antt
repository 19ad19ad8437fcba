pub mod RoundTrip
pub mod Writer
