use Rattle.std.proofs.Common.{◌≡◌, ◌∙◌, ◌+◌, ◌++◌, ◌∷◌, [], ◌≤◌, ◌<◌, ℕ, List, None, ap, arith, length, map, refl, subst, sym, take}
use Rattle.std.proofs.lemmas.List.{map-append, take_all, take_more}
use Rattle.std.specs.List.{AllByRecursion}
use Rattle.rec_bits.proofs.Lists.{all_append}
use Rattle.net_model.specs.declared.hardware.Netlist.{Netlist}
use Rattle.net_model.specs.CheckedRules.{Ordered}
use Rattle.net_model.specs.ModeRules.{base_at}
use Rattle.net_model.specs.Widths.{WordFits}
use Rattle.cycle_sim.specs.Shown.{Shown}
use Rattle.cycle_sim.proofs.Sims.{base_read, words_at_base}
use Rattle.cycle_sim.proofs.modes.blank_sims.Goals as goal

pub loop-base-init : goal.loop-base-init
loop-base-init c = record {
  bases = rw c.new-sims.ensures.items refl;
  words = rw c.new-sims.ensures.items tt;
  unwritten = rw c.new-sims.ensures.items tt;
}

pub blank_sim-requires : goal.blank_sim-requires
blank_sim-requires c =
    let netlist = c.args.modes.now.netlist in
    let same : c.base-item.result.netlist ≡ base_at netlist c.loop-base.base-index =
    base_read netlist c.args.modes.now.bases c.bases-base-items.result.now c.bases-base-items.ensures.kept c.bases-base-items.ensures.value
    c.loop-base.base-index c.base-item.result (omega (arith, c.loop-base-test.true)) c.base-item.is in
    subst (λ (n : Netlist). AllByRecursion (WordFits n) c.args.words.now) (sym same) (words_at_base netlist c.loop-base.base-index c.args.words.now c.requires)

pub loop-base-preserved : goal.loop-base-preserved
loop-base-preserved c =
    let index = c.loop-base.base-index in
    let items = c.bases-base-items.result.now in
    let sim = c.in_ok-blank_sim.field-0 in
    let own : Shown → Netlist = λ s. s.netlist in
    let base : Ordered → Netlist = λ b. b.netlist in
    let more : take (index + 1) items ≡ take index items ++ c.base-item.result ∷ [] =
    take_more items index c.base-item.result (omega (arith, c.loop-base-test.true)) ∙ ap (λ (b : Ordered). take index items ++ b ∷ []) (sym c.base-item.is) in
    let same : sim.netlist ≡ c.base-item.result.netlist = ap own c.in_ok-blank_sim.ensures in
    record {
      bases =
          rw c.in_ok-push.ensures.items (
          map-append own c.loop-base.sims.items (sim ∷ [])
          ∙ (λ i. c.loop-base.invariant.bases i ++ same i ∷ [])
          ∙ sym (ap (map base) more ∙ map-append base (take index items) (c.base-item.result ∷ []))
          );
      words =
          rw c.in_ok-push.ensures.items (
          all_append (λ (s : Shown). s.words ≡ c.args.words.now) c.loop-base.sims.items (sim ∷ []) c.loop-base.invariant.words
          (ap (λ (s : Shown). s.words) c.in_ok-blank_sim.ensures, tt)
          );
      unwritten =
          rw c.in_ok-push.ensures.items (
          all_append (λ (s : Shown). s.last_write ≡ None) c.loop-base.sims.items (sim ∷ []) c.loop-base.invariant.unwritten
          (ap (λ (s : Shown). s.last_write) c.in_ok-blank_sim.ensures, tt)
          );
    }

pub returns-clause-bases : goal.returns-clause-bases
returns-clause-bases c =
    let items = c.bases-base-items.result.now in
    let past : length items ≤ c.loop-base.base-index = omega (arith, c.loop-base-test.false) in
    c.loop-base.invariant.bases
    ∙ ap (map (λ (base : Ordered). base.netlist)) (take_all c.loop-base.base-index items past ∙ c.bases-base-items.ensures.value)
    ∙ c.bases-base-items.ensures.kept.are

pub returns-clause-words : goal.returns-clause-words
returns-clause-words c = c.loop-base.invariant.words

pub returns-clause-unwritten : goal.returns-clause-unwritten
returns-clause-unwritten c = c.loop-base.invariant.unwritten
