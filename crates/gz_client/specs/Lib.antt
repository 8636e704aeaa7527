pub mod Contents
pub mod Requests
pub mod Answers
