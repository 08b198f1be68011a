use Rattle.std.proofs.lemmas.Result.{IfOk-from_err}
use Rattle.std.proofs.Common.{◌≡◌, ℕ, ◌==◌, ◌-◌, ◌<◌, ◌^◌, ◌∙◌, suc, cond, length, get_or, sym, ap, arith}
use Rattle.std.proofs.lemmas.List.{drop_all}
use Rattle.net_model.specs.Value.{case_value}
use Rattle.bit_bdd.proofs.CallerLemmas.{extends_refl, extends_trans}
use Rattle.ctl_bdd.specs.Bits.{number_at}
use Rattle.ctl_bdd.specs.Tables.{numbers_at, sets_at}
use Rattle.ctl_bdd.proofs.Sets.{sets_later, number_later}
use Rattle.ctl_bdd.proofs.Rows.{row_at, case_step}
use Rattle.ctl_bdd.proofs.gates.case_bits.Goals as goal

pub returns-in_err-out-2-clause-grows : goal.returns-in_err-out-2-clause-grows
returns-in_err-out-2-clause-grows c = extends_trans c.args.book.now c.loop-left.book c.row_bits.new.book c.loop-left.invariant.grows c.in_err-out-2.ensures.grows

pub loop-left-init : goal.loop-left-init
loop-left-init c = record {
  below = omega arith;
  grows = extends_refl c.args.book.now;
  sets = c.in_ok-out.ensures.sets;
  long = c.in_ok-out.ensures.long;
  number = λ word.
      c.in_ok-out.ensures.number (number_at c.args.book.now c.args.sel.now word) word
      ∙ ap (λ rows. case_value (numbers_at c.args.book.now c.args.table.now word) (number_at c.args.book.now c.args.sel.now word) rows c.args.case.now.rest) (sym (drop_all (length c.args.case.now.rows.now) c.args.case.now.rows.now (omega arith)));
}

pub row_bits-requires-clause-sel : goal.row_bits-requires-clause-sel
row_bits-requires-clause-sel c = sets_later c.args.book.now c.loop-left.book c.loop-left.invariant.grows c.args.sel.now c.requires.sel

pub row_bits-requires-clause-key : goal.row_bits-requires-clause-key
row_bits-requires-clause-key c =
    let lt : c.loop-left.left - 1 < length c.args.case.now.rows.now = omega (arith, c.loop-left-test.true, c.loop-left.invariant.below) in
    (row_at (λ (row : ℕ × ℕ). (row.0 < 2 ^ length c.args.sel.now) × (length (sets_at c.args.table.now row.1) ≡ c.args.case.now.width)) c.args.case.now.rows.now _ (0, 0) lt c.requires.rows).0

pub row_bits-requires-clause-on : goal.row_bits-requires-clause-on
row_bits-requires-clause-on c =
    rw c.sets_of.ensures (sets_later c.args.book.now c.loop-left.book c.loop-left.invariant.grows _ (c.requires.table.sets _))

pub row_bits-requires-clause-long : goal.row_bits-requires-clause-long
row_bits-requires-clause-long c =
    let lt : c.loop-left.left - 1 < length c.args.case.now.rows.now = omega (arith, c.loop-left-test.true, c.loop-left.invariant.below) in
    let row = row_at (λ (row : ℕ × ℕ). (row.0 < 2 ^ length c.args.sel.now) × (length (sets_at c.args.table.now row.1) ≡ c.args.case.now.width)) c.args.case.now.rows.now _ (0, 0) lt c.requires.rows in
    rw (c.sets_of.ensures, c.as_slice.ensures) (row.1 ∙ sym c.loop-left.invariant.long)

pub loop-left-preserved : goal.loop-left-preserved
loop-left-preserved c =
    let lt : c.loop-left.left - 1 < length c.args.case.now.rows.now = omega (arith, c.loop-left-test.true, c.loop-left.invariant.below) in
    let row = row_at (λ (row : ℕ × ℕ). (row.0 < 2 ^ length c.args.sel.now) × (length (sets_at c.args.table.now row.1) ≡ c.args.case.now.width)) c.args.case.now.rows.now _ (0, 0) lt c.requires.rows in
    let more : suc (c.loop-left.left - 1) ≡ c.loop-left.left = omega (arith, c.loop-left-test.true) in
    record {
      below = omega (arith, c.loop-left.invariant.below);
      grows = extends_trans c.args.book.now c.loop-left.book c.row_bits.new.book c.loop-left.invariant.grows c.in_ok-out-2.ensures.grows;
      sets = c.in_ok-out-2.ensures.sets;
      long = c.in_ok-out-2.ensures.long ∙ rw c.sets_of.ensures row.1;
      number = λ word.
          let sel = number_later c.args.book.now c.loop-left.book c.loop-left.invariant.grows c.args.sel.now c.requires.sel word in
          let on = ap (λ sets. number_at c.loop-left.book sets word) c.sets_of.ensures ∙ number_later c.args.book.now c.loop-left.book c.loop-left.invariant.grows _ (c.requires.table.sets (get_or c.args.case.now.rows.now (c.loop-left.left - 1) (0, 0)).1) word in
          let off = ap (λ sets. number_at c.loop-left.book sets word) c.as_slice.ensures ∙ c.loop-left.invariant.number word in
          c.in_ok-out-2.ensures.number word
          ∙ (λ j. cond ((get_or c.args.case.now.rows.now (c.loop-left.left - 1) (0, 0)).0 == sel j) (on j) (off j))
          ∙ case_step (numbers_at c.args.book.now c.args.table.now word) (number_at c.args.book.now c.args.sel.now word) c.args.case.now.rows.now c.args.case.now.rest (c.loop-left.left - 1) c.loop-left.left (0, 0) more lt;
    }

pub returns-in_err-out-clause-sets : goal.returns-in_err-out-clause-sets
returns-in_err-out-clause-sets c = IfOk-from_err c.from_residual.result _ c.from_residual.ensures.0

pub returns-in_err-out-clause-long : goal.returns-in_err-out-clause-long
returns-in_err-out-clause-long c = IfOk-from_err c.from_residual.result _ c.from_residual.ensures.0

pub returns-in_err-out-clause-number : goal.returns-in_err-out-clause-number
returns-in_err-out-clause-number c = IfOk-from_err c.from_residual.result _ c.from_residual.ensures.0

pub returns-in_err-out-2-clause-sets : goal.returns-in_err-out-2-clause-sets
returns-in_err-out-2-clause-sets c = IfOk-from_err c.from_residual-in_err-out-2.result _ c.from_residual-in_err-out-2.ensures.0

pub returns-in_err-out-2-clause-long : goal.returns-in_err-out-2-clause-long
returns-in_err-out-2-clause-long c = IfOk-from_err c.from_residual-in_err-out-2.result _ c.from_residual-in_err-out-2.ensures.0

pub returns-in_err-out-2-clause-number : goal.returns-in_err-out-2-clause-number
returns-in_err-out-2-clause-number c = IfOk-from_err c.from_residual-in_err-out-2.result _ c.from_residual-in_err-out-2.ensures.0
