use Rattle.std.proofs.Common.{ℕ, List, Bor, true, false, subst, sym, refl}
use Rattle.asm_text.proofs.Storages.{HasNames, all_apart, none_yet, one_more, turned, twice}
use Rattle.asm_text.proofs.apart.are_apart.Goals as goal

pub loop-pattern-init : goal.loop-pattern-init
loop-pattern-init c =
    subst (λ (keys : List (Bor (List ℕ))). HasNames keys c.args.texts.now c.args.patterns.now 0) (sym c.new-storages.ensures.empty) (none_yet c.args.texts.now c.args.patterns.now)

pub loop-pattern-preserved : goal.loop-pattern-preserved
loop-pattern-preserved c =
    one_more c.loop-pattern.storages.keys c.args.texts.now c.args.patterns.now c.loop-pattern.pattern-index c.storage_of.result.now c.storage_of.ensures c.loop-pattern.invariant c.insert.new.self.keys
    (λ name. c.in_ok-insert.ensures.updates.0 (record c.storage_of.result { now = name }))
    (turned _ c.in_ok-insert.field-0 true c.in_ok-insert.ensures.added c.if-not-branch.false)

pub returns-then-not-branch : goal.returns-then-not-branch
returns-then-not-branch c = (
  λ t. absurd cc,
  λ pairs.
      absurd (twice c.loop-pattern.storages.keys c.args.texts.now c.args.patterns.now c.loop-pattern.pattern-index c.storage_of.result.now c.storage_of.ensures c.loop-pattern.invariant
      (turned _ c.in_ok-insert.field-0 false c.in_ok-insert.ensures.added c.if-not-branch.true) c.loop-pattern-test.true pairs),
)

pub returns : goal.returns
returns c = (
  λ t. all_apart c.loop-pattern.storages.keys c.args.texts.now c.args.patterns.now c.loop-pattern.pattern-index c.loop-pattern-test.false c.loop-pattern.invariant,
  λ pairs. refl,
)
