pub mod Put
pub mod Bytes
pub mod Heads
pub mod Sections
pub mod Ids
pub mod Opcodes
pub mod Decorations
pub mod Images
