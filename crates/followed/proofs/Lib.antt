pub mod Ascending
pub mod Leads
pub mod Words
pub mod Following
pub mod Laying
