-- The words that keep a storage, and those that step.
use Rattle.std.proofs.Common.{◌≡◌, ◌⊎◌, ◌↔◌, ℕ, ◌^◌, ◌<◌, ◌&&◌, Bool, true, List, length, slice_index, sym, ap, subst, ◌∙◌, arith}
use Rattle.bit_bdd.specs.Diagrams.{Diagrams, Extends, has_word}
use Rattle.bit_bdd.proofs.CallerLemmas.{same_words}
use Rattle.net_model.specs.declared.hardware.Netlist.{Netlist}
use Rattle.net_model.specs.Nets.{counter_of, counter_width}
use Rattle.net_model.specs.Exprs.{write, next_of, swapped_next_of}
use Rattle.net_model.specs.Transfers.{IsClean, Keeps, StepsOn, transfer_at}
use Rattle.sym_expr.specs.declared.pool.Node.{Node}
use Rattle.transfer_set.specs.declared.entries.Entry.{Entry}
use Rattle.transfer_set.specs.declared.stepping.Counter.{Counter}
use Rattle.transfer_set.specs.Inner.Entries.{AreLeft, list_if, keeps_all, transfers_under}
use Rattle.transfer_set.specs.Sets.{IsKeepSet, IsStepSet}
use Rattle.transfer_set.specs.Inner.Sources.{changes}
use Rattle.transfer_set.specs.Inner.Stepping.{any_step}
use Rattle.transfer_set.proofs.KeptWords.{keeps_when, none_held}
use Rattle.transfer_set.proofs.Stepped.{any_moves, steps_when}

-- in a book that holds what was collected from a netlist
module _ (netlist : Netlist) (book : Diagrams) (pool : List Node) (entries : List Entry) (legal : ℕ → Bool)
    (clean : (word : ℕ) → word < 2 ^ book.bits → (legal word ≡ true) ↔ IsClean netlist word)
    (moves : (n word : ℕ) → word < 2 ^ book.bits → transfers_under book pool entries n word ≡ list_if (legal word) (changes (transfer_at netlist word n))) where
  pub keep_found : (new last : Diagrams) → Extends book new → Extends new last → (set : ℕ) → ((word : ℕ) → has_word book set word ≡ legal word)
      → (count : ℕ) (sets : List ℕ) → AreLeft book new set entries count sets → (storage : ℕ) → storage < count → IsKeepSet netlist last storage (slice_index sets storage)
  keep_found new last first then set is count sets left storage lt = record {
    within = omega (arith, left.within storage lt, then.longer);
    words = λ word fits.
        let old : word < 2 ^ book.bits = subst (λ b. word < 2 ^ b) (then.bits ∙ first.bits) fits in
        let w = keeps_when (transfer_at netlist word storage) (legal word) _ (transfers_under book pool entries storage word) (moves storage word old) (none_held book pool entries storage word) in
        let e = same_words new last then (slice_index sets storage) (left.within storage lt) word ∙ left.words storage word lt ∙ ap (λ b. b && keeps_all book entries storage word) (is word) in (
          (λ h. let k = w.0 (sym e ∙ h) in record { clean = (clean word old).0 k.0; keeps = k.1 }),
          (λ (k : Keeps netlist storage word). e ∙ w.1 ((clean word old).1 k.clean, k.keeps)),
        );
  }

  -- the program counter becomes itself plus 1
  abbrev Nexts : ℕ → ℕ → ℕ → Type 0
  Nexts word storage width =
      (transfer_at netlist word storage ≡ write (next_of storage width)) ⊎ (transfer_at netlist word storage ≡ write (swapped_next_of storage width))

  pub step_found : (last : Diagrams) → last.bits ≡ book.bits → (counter : Counter) → counter.storage ≡ counter_of netlist.codes → counter.width ≡ counter_width netlist
      → (set : ℕ) → set < length last.nodes → ((word : ℕ) → has_word last set word ≡ any_step book pool counter entries word) → IsStepSet netlist last set
  step_found last bits counter storage width set within is = record {
    within = within;
    words = λ word fits.
        let old : word < 2 ^ book.bits = subst (λ b. word < 2 ^ b) bits fits in
        let w = steps_when counter (transfer_at netlist word counter.storage) (legal word) (has_word last set word) (transfers_under book pool entries counter.storage word) (moves counter.storage word old) (is word ∙ any_moves book pool counter word entries) in
        let same : Nexts word counter.storage counter.width ≡ Nexts word (counter_of netlist.codes) (counter_width netlist) = (λ j. Nexts word (storage j) (width j)) in (
          (λ h. let k = w.0 h in record { clean = (clean word old).0 k.0; steps = record { step = subst (λ (t : Type 0). t) same k.1 } }),
          (λ (k : StepsOn netlist word). w.1 ((clean word old).1 k.clean, subst (λ (t : Type 0). t) (sym same) k.steps.step)),
        );
  }
