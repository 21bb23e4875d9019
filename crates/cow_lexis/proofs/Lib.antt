pub mod Digits
pub mod FrontIntegers
pub mod LineTexts
pub mod TokenIntegers
pub mod FirstPlaces
pub mod FrontTexts
pub mod TokenTexts
