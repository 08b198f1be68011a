mod Alone
mod Early
mod Growing
