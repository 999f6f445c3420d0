pub mod Leaf
pub mod TakesItem
pub mod ShrinksRoot
