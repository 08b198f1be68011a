use Rattle.std.proofs.Common.{◌≡◌, ◌∙◌, List, ℕ, Option, ap, slice_get, sym}
use Rattle.std.proofs.lemmas.Result.{on_ok_weaker}
use Rattle.sym_expr.specs.Pools.{expr_of_id}
use Rattle.transfer_set.specs.Entries.{ids_transfer}
use Rattle.asm_words.specs.Inner.Given.{row_slices, with_slices}
use Rattle.asm_words.specs.Slices.{transfer_slices, slices}
use Rattle.asm_words.specs.declared.slices.Slice.{Slice}
use Rattle.asm_words.proofs.Fitting.{expr_told}
use Rattle.asm_words.proofs.Found.{found_two}
use Rattle.asm_words.proofs.showing.add_transfer.Goals as goal
use Rattle.asm_words.proofs.showing.add_transfer.Goals.{in-Some-addr+in_ok-add_slices, in_default-addr}

pub returns : goal.returns
returns c =
    let pool = c.args.pool.now in
    let found = c.args.found.now in
    let told = expr_told pool c.args.patterns.now c.requires c.args.number c.in-Some.addr c.in-Some.value c.in-Some.ensures in
    let row = row_slices pool (slice_get c.args.patterns.now.rows c.args.number) in
    on_ok_weaker c.add_slices-2.result
    (λ e. (elim c.match-addr.branch as (λ _. c.add_slices-2.new.found ≡ with_slices found row) [
      | in-Some-addr+in_ok-add_slices w ↦
          found_two found c.match-addr.found c.add_slices-2.new.found (slices (expr_of_id pool w.in-Some-addr.addr)) (slices (expr_of_id pool c.in-Some.value)) row
          (w.found-is ∙ w.in_ok-add_slices.ensures) e (told.2 ∙ ap (λ (o : Option ℕ). transfer_slices (ids_transfer pool o c.in-Some.value)) w.in-Some-addr.is)
      | in_default-addr w ↦
          e ∙ ap (λ (f : List Slice). with_slices f (slices (expr_of_id pool c.in-Some.value))) w.found-is
          ∙ ap (with_slices found) (sym (told.2 ∙ ap (λ (o : Option ℕ). transfer_slices (ids_transfer pool o c.in-Some.value)) w.in_default-addr.is))
    ]))
    c.add_slices-2.ensures
