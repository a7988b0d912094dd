-- The free tree's steps, as trees and in an arena.
pub mod Shapes
pub mod Links
pub mod Held
pub mod Readings
