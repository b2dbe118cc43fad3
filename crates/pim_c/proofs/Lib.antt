pub mod Bits
pub mod PlaceWords
pub mod PointedWords
