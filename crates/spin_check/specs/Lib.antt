pub mod RunTexts
pub mod Inner
