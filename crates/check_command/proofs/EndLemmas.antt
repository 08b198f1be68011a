-- What is found of a word's storages is what the netlist does.
use Rattle.std.proofs.Common.{◌≡◌, ℕ, true, List, Option, Some, None, refl, sym, ap, ◌∙◌, arith, inl, inr, slice_get}
use Rattle.std.proofs.lemmas.Option.{slice_get_cases, slice_get_past}
use Rattle.net_model.specs.declared.hardware.Netlist.{Netlist}
use Rattle.net_model.specs.Exprs.{ExprModel, keep, write}
use Rattle.net_model.specs.Nets.{counter_of, memory_id}
use Rattle.net_model.specs.Transfers.{transfer_at, transfer_of}
use Rattle.net_model.specs.Widths.{WordFits}
use Rattle.sym_expr.specs.declared.pool.Node.{Node}
use Rattle.sym_expr.specs.Pools.{expr_of_id}
use Rattle.word_moves.specs.Moves.{IsWordMoves}
use Rattle.word_moves.specs.declared.moves.StorageMove.{StorageMove}
use Rattle.word_moves.specs.declared.moves.StorageMove.TheVariants.{Keep, Write, WriteAt}
use Rattle.word_moves.specs.declared.moves.WordMoves.{WordMoves}
use Rattle.check_command.specs.EndWords.{IsEndWord, plain_address}
use Rattle.check_command.specs.Inner.Moves.{AreEnding, is_kept, told_address, transfer_found}

module _ (nodes : List Node) (word : ℕ) where
  told_goes : (m : Option StorageMove) (address : ℕ) → told_address nodes word m ≡ Some address → (to : ExprModel) × (transfer_found nodes m ≡ write to) × (plain_address word to ≡ Some address)
  told_goes None address e = absurd cc
  told_goes (Some Keep) address e = absurd cc
  told_goes (Some (Write value)) address e = (expr_of_id nodes value, refl, e)
  told_goes (Some (WriteAt addr value)) address e = absurd cc

  goes_told : (m : Option StorageMove) (address : ℕ) (to : ExprModel) → transfer_found nodes m ≡ write to → plain_address word to ≡ Some address → told_address nodes word m ≡ Some address
  goes_told None address to e there = absurd cc
  goes_told (Some Keep) address to e there = absurd cc
  goes_told (Some (Write value)) address to e there = let same : expr_of_id nodes value ≡ to = cc in ap (plain_address word) same ∙ there
  goes_told (Some (WriteAt addr value)) address to e there = absurd cc

  kept_keeps : (m : Option StorageMove) → is_kept m ≡ true → transfer_found nodes m ≡ keep
  kept_keeps None e = refl
  kept_keeps (Some Keep) e = refl
  kept_keeps (Some (Write value)) e = absurd cc
  kept_keeps (Some (WriteAt addr value)) e = absurd cc

  keeps_kept : (m : Option StorageMove) → transfer_found nodes m ≡ keep → is_kept m ≡ true
  keeps_kept None e = refl
  keeps_kept (Some Keep) e = refl
  keeps_kept (Some (Write value)) e = absurd cc
  keeps_kept (Some (WriteAt addr value)) e = absurd cc

module _ (netlist : Netlist) (word : ℕ) (nodes : List Node) (found : WordMoves) (h : IsWordMoves netlist word nodes found) where
  moved : (id : ℕ) → transfer_found nodes (slice_get found.moves id) ≡ transfer_at netlist word id
  moved id = elim (slice_get_cases found.moves id).1 [
    | inl w ↦ rw w.2 (h.moves.are id w.0 w.2)
    | inr w ↦
        let far = w.0 in
        let long = h.moves.long in
        rw w.1 (sym (ap (transfer_of netlist word id) (slice_get_past netlist.storages id (omega (arith, far, long)))))
  ]

  pub ending_ends : WordFits netlist word → (address : ℕ) → AreEnding nodes word address found.clash (slice_get found.moves (counter_of netlist.codes)) (slice_get found.moves (memory_id netlist.storages)) → IsEndWord netlist word address
  ending_ends fits address e =
      let told = told_goes nodes word (slice_get found.moves (counter_of netlist.codes)) address e.goes in
      record {
        clean = record { fits = fits; clean = sym h.clash ∙ e.clean };
        goes = record { to = told.0; move = sym (moved (counter_of netlist.codes)) ∙ told.1; there = told.2 };
        keeps = record { move = sym (moved (memory_id netlist.storages)) ∙ kept_keeps nodes word (slice_get found.moves (memory_id netlist.storages)) e.keeps };
      }

  pub ends_ending : (address : ℕ) → IsEndWord netlist word address → AreEnding nodes word address found.clash (slice_get found.moves (counter_of netlist.codes)) (slice_get found.moves (memory_id netlist.storages))
  ends_ending address w = record {
    clean = h.clash ∙ w.clean.clean;
    goes = goes_told nodes word (slice_get found.moves (counter_of netlist.codes)) address w.goes.to (moved (counter_of netlist.codes) ∙ w.goes.move) w.goes.there;
    keeps = keeps_kept nodes word (slice_get found.moves (memory_id netlist.storages)) (moved (memory_id netlist.storages) ∙ w.keeps.move);
  }
