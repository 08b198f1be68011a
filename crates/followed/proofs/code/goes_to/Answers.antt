use Rattle.std.proofs.Common.{◌∙◌, sym, ap, slice_get}
use Rattle.sym_run.specs.declared.moves.Move.TheVariants.{Write}
use Rattle.followed.proofs.code.goes_to.Goals as goal

pub goes-requires : goal.goes-requires
goes-requires c value e = c.requires c.args.counter (Write value) (ap (λ xs. slice_get xs c.args.counter) (sym c.as_slice.ensures) ∙ sym c.move_at.ensures ∙ e)
