pub mod Replay
pub mod Replayed
pub mod Asked
