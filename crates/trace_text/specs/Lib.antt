pub mod Scalars
pub mod Composites
pub mod Values
pub mod Line
pub mod Head
pub mod Effects
pub mod Table
