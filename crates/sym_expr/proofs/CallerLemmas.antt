-- What a caller cites of a pool that grows.
pub use Rattle.sym_expr.proofs.Growth.{grows_refl, grows_trans, same_expr}
