mod InOrder
mod Adding
