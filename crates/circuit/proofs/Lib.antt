pub mod Gates
pub mod Circuit
