pub mod Growth
pub mod Openings
pub mod Rings
pub mod Shifts
pub mod Slides
pub mod Turns
