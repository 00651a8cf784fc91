pub mod Given
pub mod Rooms
pub mod Comes
pub mod Turns
pub mod Loop
