pub mod Contents
pub mod Handoffs
