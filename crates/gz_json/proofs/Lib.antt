pub mod Known
