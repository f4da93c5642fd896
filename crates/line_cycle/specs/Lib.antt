pub mod LineCycle
