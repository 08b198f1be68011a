-- The texts of a netlist's patterns: each is a transfer's, no two are equal, and two of different
-- storages name different ones.
use Rattle.std.proofs.Common.{◌≡◌, ◌≢◌, inl, inr, ℕ, ◌<◌, List, length, Option, Some, slice_get, slice_index_or, sym, ap, subst, ◌∙◌, arith}
use Rattle.std.specs.Prelude.{AllPairs, option_map}
use Rattle.std.proofs.lemmas.List.Elements.{All-map, All-weaker}
use Rattle.std.proofs.lemmas.Option.{slice_get-map, slice_get_cases}
use Rattle.net_model.specs.declared.hardware.Netlist.{Netlist}
use Rattle.net_model.specs.CheckedRules.{KeepsRules}
use Rattle.net_model.specs.Patterns.{ArePatterns, IsPattern, IsPatternBefore, Pattern}
use Rattle.net_model.specs.Texts.{text_of_transfer, name_of}
use Rattle.net_model.specs.Transfers.{transfer_of}
use Rattle.transfer_set.specs.TextMarks.{HasPlainNames, IsTransferOf}
use Rattle.transfer_set.proofs.Moved.{pairs_map}
use Rattle.transfer_set.proofs.OnePatterns.{one_way}
use Rattle.transfer_set.proofs.TermsOf.{move_exprs}
use Rattle.transfer_set.proofs.TextsDiffer.{same_register}
use Rattle.transfer_set.proofs.TransfersDiffer.{same_transfer}
use Rattle.isa_extract.proofs.PlainNames.{HasSpelledNames}
use Rattle.asm_text.specs.Lines.{AreTransferTexts, IsTransferText, storage_in, text_in, text_of}
use Rattle.asm_command.specs.Machines.{move_texts}
use Rattle.asm_command.proofs.TransferTexts.{names_storage, transfer_text}

module _ (netlist : Netlist) (order : List ℕ) (rules : KeepsRules netlist order) (names : HasSpelledNames netlist) (plain : HasPlainNames netlist) where
  abbrev pub pattern_text : Pattern → List ℕ
  pattern_text p = text_of_transfer netlist p.storage p.move

  module _ (p : Pattern) (is : IsPattern netlist p) where
    -- the storage is one of the netlist's
    pub storage_within : p.storage < length netlist.storages
    storage_within =
        elim (slice_get_cases netlist.storages p.storage).1 as (λ _. p.storage < length netlist.storages) [
          | inl found ↦ found.1
          | inr past ↦ absurd (is.changes (sym is.given.gives ∙ ap (transfer_of netlist is.word p.storage) past.1))
        ]

    move_is : IsTransferOf netlist p.move
    move_is = subst (IsTransferOf netlist) is.given.gives (move_exprs netlist order rules is.word p.storage)

    is_transfer : IsTransferText (pattern_text p)
    is_transfer = transfer_text netlist names p.storage p.move is.changes move_is

    pub names_own : storage_in (pattern_text p) ≡ name_of netlist p.storage
    names_own = names_storage netlist p.storage p.move (plain.storages p.storage) is.changes

  -- texts that name one storage are of one
  pub same_storage : (p q : Pattern) → IsPattern netlist p → IsPattern netlist q → storage_in (pattern_text p) ≡ storage_in (pattern_text q) → p.storage ≡ q.storage
  same_storage p q a b e =
      same_register netlist rules.formed.names rules.roles.code p.storage q.storage (storage_within p a) (storage_within q b)
      (sym (names_own p a) ∙ e ∙ names_own q b)

  -- patterns of one text are one
  same_pattern : (p q : Pattern) → IsPattern netlist p → IsPattern netlist q → pattern_text p ≡ pattern_text q → p ≡ q
  same_pattern p q a b e =
      let s = same_storage p q a b (ap storage_in e) in
      let m = same_transfer netlist order rules plain p.storage p.move q.move a.changes b.changes (move_is p a) (move_is q b) (e ∙ ap (λ (id : ℕ). text_of_transfer netlist id q.move) (sym s)) in
      (λ k. record { storage = s k; move = m k })

  module _ (patterns : List Pattern) (are : ArePatterns netlist patterns) where
    pub transfer_texts : AreTransferTexts (move_texts netlist patterns)
    transfer_texts = record {
      each = All-map IsTransferText pattern_text patterns (All-weaker (IsPattern netlist) (λ p. IsTransferText (pattern_text p)) is_transfer patterns are.each);
      once = pairs_map pattern_text (λ x y. x ≢ y) patterns apart;
    }
      where
        apart : AllPairs (λ p q. pattern_text p ≢ pattern_text q) patterns
        apart i j d less lt e =
            let a = are.each i d (omega (arith, less, lt)) in
            let b = are.each j d lt in
            let before = are.ordered i j d less lt in
            let same = same_pattern (slice_index_or patterns i d) (slice_index_or patterns j d) a b e in
            let back = subst (λ (x : Pattern). IsPatternBefore netlist x (slice_index_or patterns i d)) same (subst (IsPatternBefore netlist (slice_index_or patterns i d)) (sym same) before) in
            one_way netlist (slice_index_or patterns i d) (slice_index_or patterns j d) before back

    -- the text of a number
    pub text_at : (n : ℕ) (p : Pattern) → slice_get patterns n ≡ Some p → text_of (move_texts netlist patterns) n ≡ pattern_text p
    text_at n p e = ap text_in (slice_get-map pattern_text patterns n ∙ ap (λ (o : Option Pattern). option_map pattern_text o) e)
