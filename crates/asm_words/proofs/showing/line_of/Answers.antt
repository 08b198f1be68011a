use Rattle.std.proofs.Common.{◌∙◌, List, ℕ, ap, map, refl, slice_get, sym}
use Rattle.std.specs.List.{flat_map}
use Rattle.asm_words.specs.Shown.{item_of}
use Rattle.asm_words.specs.Slices.{once}
use Rattle.asm_words.specs.Inner.Given.{row_slices}
use Rattle.asm_words.specs.declared.slices.Slice.{Slice}
use Rattle.asm_words.proofs.Numbered.{shows}
use Rattle.asm_words.proofs.showing.line_of.Goals as goal

pub returns-then-not-holds : goal.returns-then-not-holds
returns-then-not-holds c = λ netlist ready lt legal. record { clashes = λ clean. (let t = legal.1 clean in absurd cc); is = refl }

pub returns : goal.returns
returns c = λ netlist ready lt legal.
    shows netlist c.args.book.now c.args.pool.now c.args.patterns.now ready c.args.word lt (legal.0 (sym c.holds.ensures ∙ c.if-not-holds.false))
    c.in_ok-numbers.numbers c.in_ok-found.found c.in_ok-items.items c.in_ok-numbers.ensures
    (c.in_ok-found.ensures.found ∙ ap (λ (ns : List ℕ). once (flat_map (λ n. row_slices c.args.pool.now (slice_get c.args.patterns.now.rows n)) ns)) c.as_slice.ensures)
    (c.in_ok-items.ensures ∙ ap (λ (ss : List Slice). map (item_of c.args.word) ss) c.as_slice-2.ensures)
