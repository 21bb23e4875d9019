pub mod DictCosts
pub mod Dicts
pub mod PairUnits
