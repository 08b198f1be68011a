use Rattle.std.proofs.lemmas.Result.{IfOk-from_err}
use Rattle.std.proofs.Common.{◌≡◌, ℕ, ◌<◌, ◌++◌, ◌∷◌, [], nat_eq, length, sym, ◌∙◌}
use Rattle.std.specs.List.{list_any}
use Rattle.net_model.specs.Flags.{flag_at}
use Rattle.ctl_bdd.specs.Places.{is_static_control}
use Rattle.ctl_bdd.specs.Tables.{sets_at}
use Rattle.ctl_bdd.proofs.Placed.{static_any}
use Rattle.ctl_bdd.proofs.Listing.{listed_more, listed_same}
use Rattle.ctl_bdd.proofs.control.listed_bits.Goals as goal

pub loop-at-preserved-then-not-is_set : goal.loop-at-preserved-then-not-is_set
loop-at-preserved-then-not-is_set c =
    let lt : c.loop-at.at < length c.args.netlist.now.nets = rw c.len-at-end.ensures at c.loop-at-test.true in
    let any : list_any (nat_eq c.loop-at.at) c.args.places.now ≡ is_static_control c.args.netlist.now c.loop-at.at = rw c.requires.places (static_any c.args.netlist.now c.loop-at.at) in
    let flags : flag_at c.in_ok-flags.flags c.loop-at.at ≡ list_any (nat_eq c.loop-at.at) c.args.places.now = c.in_ok-flags.ensures.flags c.loop-at.at (rw c.len.ensures lt) in
    let set : c.is_set.result ≡ flag_at c.in_ok-flags.flags c.loop-at.at = rw c.as_slice.ensures at c.is_set.ensures in
    c.loop-at.invariant ∙ listed_same (is_static_control c.args.netlist.now) (λ (n : ℕ). (n, sets_at c.args.table.now n)) c.loop-at.at (sym (set ∙ flags ∙ any) ∙ c.if-not-is_set.true)

pub loop-at-preserved : goal.loop-at-preserved
loop-at-preserved c =
    let lt : c.loop-at.at < length c.args.netlist.now.nets = rw c.len-at-end.ensures at c.loop-at-test.true in
    let any : list_any (nat_eq c.loop-at.at) c.args.places.now ≡ is_static_control c.args.netlist.now c.loop-at.at = rw c.requires.places (static_any c.args.netlist.now c.loop-at.at) in
    let flags : flag_at c.in_ok-flags.flags c.loop-at.at ≡ list_any (nat_eq c.loop-at.at) c.args.places.now = c.in_ok-flags.ensures.flags c.loop-at.at (rw c.len.ensures lt) in
    let set : c.is_set.result ≡ flag_at c.in_ok-flags.flags c.loop-at.at = rw c.as_slice.ensures at c.is_set.ensures in
    let sets : c.in_ok-sets.sets ≡ sets_at c.args.table.now c.loop-at.at = c.in_ok-sets.ensures ∙ c.sets_of.ensures in
    c.in_ok-push.ensures.pushed
    ∙ (λ j. c.loop-at.invariant j ++ (c.loop-at.at, sets j) ∷ [])
    ∙ listed_more (is_static_control c.args.netlist.now) (λ (n : ℕ). (n, sets_at c.args.table.now n)) c.loop-at.at (sym (set ∙ flags ∙ any) ∙ c.if-not-is_set.false)

pub returns-in_err-flags : goal.returns-in_err-flags
returns-in_err-flags c = IfOk-from_err c.from_residual.result _ c.from_residual.ensures.0

pub returns-in_err-push : goal.returns-in_err-push
returns-in_err-push c = IfOk-from_err c.from_residual-in_err-push.result _ c.from_residual-in_err-push.ensures.0

pub returns-in_err-sets : goal.returns-in_err-sets
returns-in_err-sets c = IfOk-from_err c.from_residual-in_err-sets.result _ c.from_residual-in_err-sets.ensures.0
