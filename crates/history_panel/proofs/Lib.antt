-- The theorem of specs/Panel.antt.
pub mod Panel
