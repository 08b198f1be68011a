pub mod Netlists
pub use Rattle.lexing.specs.Bytes
pub use Rattle.lexing.specs.Laws
pub use Rattle.lexing.specs.Numbers
pub use Rattle.lexing.specs.Table
pub use Rattle.lexing.specs.Tokens
