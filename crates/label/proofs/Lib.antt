pub mod LabelTells
