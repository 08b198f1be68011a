use Rattle.std.proofs.Common.{◌≡◌, ◌∙◌, Bool, MatchResult, false, subst, sym, true}
use Rattle.net_model.specs.Editions.{is_banked}
use Rattle.net_front.specs.Fronts.{IsTakenAs, RefusesIf}
use Rattle.net_front.proofs.front.seen.Goals as goal

pub viewed-requires-clause-banked : goal.viewed-requires-clause-banked
viewed-requires-clause-banked c = sym c.is_banked.ensures ∙ c.if-is_banked.true

pub returns-then-is_banked : goal.returns-then-is_banked
returns-then-is_banked c =
    let banked : is_banked c.args.netlist.edition ≡ true = sym c.is_banked.ensures ∙ c.if-is_banked.true in
    subst (λ (b : Bool). MatchResult c.viewed.result (IsTakenAs b c.args.netlist) (RefusesIf b c.args.netlist)) (sym banked) c.viewed.ensures

pub check_modes-requires-clause-plain : goal.check_modes-requires-clause-plain
check_modes-requires-clause-plain c = sym c.is_banked.ensures ∙ c.if-is_banked.false

pub returns : goal.returns
returns c =
    let plain : is_banked c.args.netlist.edition ≡ false = sym c.is_banked.ensures ∙ c.if-is_banked.false in
    subst (λ (b : Bool). MatchResult c.check_modes.result (IsTakenAs b c.args.netlist) (RefusesIf b c.args.netlist)) (sym plain) c.check_modes.ensures.found
