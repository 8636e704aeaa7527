mod Waiting
mod Found
mod Ruled
mod Parts
mod Ruling
