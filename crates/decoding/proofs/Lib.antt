pub mod ChargeLaws
