-- The least word that is found is the least that fits.
use Rattle.std.proofs.Common.{◌≡◌, ℕ, ◌<◌, ◌≤◌, ◌^◌, ◌&&◌, true, false, List, [], ◌∷◌, map, Option, Some, None, IfSome, IfNone, MatchOption, sym, ◌∙◌, subst}
use Rattle.std.proofs.lemmas.Bool.{true≢false, and_parts, and_from}
use Rattle.bit_bdd.specs.Diagrams.{Diagrams, Extends, has_word}
use Rattle.net_model.specs.declared.hardware.Netlist.{Netlist}
use Rattle.net_model.specs.declared.hardware.Space.TheVariants.{Memory as InMemory}
use Rattle.net_model.specs.CheckedRules.{KeepsRules}
use Rattle.sym_expr.specs.declared.pool.Node.{Node}
use Rattle.transfer_set.specs.Tables.{PatternTable}
use Rattle.form_model.specs.declared.forms.Step.{Step}
use Rattle.form_model.specs.Live.{Regs, group_writes}
use Rattle.word_fit.specs.Fits.{FitsGroup, FitsTurning, IsLeastFit, group_stores}
use Rattle.transfer_set.specs.Ready.{IsReady}
use Rattle.word_fit.specs.Steps.{step_operation}
use Rattle.net_model.proofs.WordWidths.{clean_below}
use Rattle.nop_synth.specs.declared.meet.FieldValue.{FieldValue}
use Rattle.nop_synth.specs.Wanted.{all_hold, has_fields, group_sets, jump_sets, step_field, step_set}
use Rattle.nop_synth.proofs.Asked.{held_fits, fits_held, held_jumps, jumps_held}

-- what is told of the least word of a set
pub record IsLeastOf (book : Diagrams) (id : ℕ) (o : Option ℕ) : Type 0 where
  pub within : IfSome o (λ word. word < 2 ^ book.bits)
  pub some : IfSome o (λ word. has_word book id word ≡ true)
  pub least : IfSome o (λ word. (other : ℕ) → has_word book id other ≡ true → word ≤ other)
  pub none : IfNone o ((word : ℕ) → has_word book id word ≡ false)

least_of : (P : ℕ → Type 0) (book : Diagrams) (id : ℕ) (o : Option ℕ) → IsLeastOf book id o → ((word : ℕ) → word < 2 ^ book.bits → has_word book id word ≡ true → P word) → ((word : ℕ) → P word → has_word book id word ≡ true) → MatchOption o ((word : ℕ) → P word → ⊥) (IsLeastFit P)
least_of P book id None l f g = λ word p. true≢false (sym (g word p) ∙ l.none word)
least_of P book id (Some word) l f g = record { is = f word l.within l.some; least = λ other p. l.least other (g other p) }

module _ (netlist : Netlist) (order : List ℕ) (keeps : KeepsRules netlist order) (old new : Diagrams) (pool : List Node) (table : PatternTable) (ready : IsReady netlist old pool table) (empty : (word : ℕ) → has_word old 0 word ≡ false) (grows : Extends old new) where
  fits_old : (word : ℕ) → word < 2 ^ new.bits → word < 2 ^ old.bits
  fits_old word h = subst (λ n. word < 2 ^ n) grows.bits h

  -- the least word of the set of those that are held is the least that fits the group
  pub group_found : (g : List Step) (live : Regs) (start id width : ℕ) (sets : List ℕ) (fields : List FieldValue) (o : Option ℕ)
      → old.bits ≡ width → start ≡ table.step → sets ≡ group_sets table g live (λ space. group_stores space (step_operation pool table) g) (group_writes (step_operation pool table) g) → fields ≡ map (step_field table) g
      → ((word : ℕ) → word < 2 ^ width → has_word new id word ≡ (has_word old start word && (all_hold old sets word && has_fields fields word)))
      → IsLeastOf new id o
      → MatchOption o ((word : ℕ) → FitsGroup netlist (step_operation pool table) word g live → ⊥) (IsLeastFit (λ word. FitsGroup netlist (step_operation pool table) word g live))
  group_found g live start id width sets fields o ew es el ef words l = least_of (λ word. FitsGroup netlist (step_operation pool table) word g live) new id o l there back
    where
      there : (word : ℕ) → word < 2 ^ new.bits → has_word new id word ≡ true → FitsGroup netlist (step_operation pool table) word g live
      there word lt h =
          let p = and_parts (has_word old start word) (all_hold old sets word && has_fields fields word) (sym (words word (subst (λ n. word < 2 ^ n) ew (fits_old word lt))) ∙ h) in
          let q = and_parts (all_hold old sets word) (has_fields fields word) p.1 in
          held_fits netlist order keeps old pool table ready empty g live word (fits_old word lt)
          (subst (λ k. has_word old k word ≡ true) es p.0) (subst (λ k. all_hold old k word ≡ true) el q.0) (subst (λ k. has_fields k word ≡ true) ef q.1)

      back : (word : ℕ) → FitsGroup netlist (step_operation pool table) word g live → has_word new id word ≡ true
      back word f =
          let lt : word < 2 ^ old.bits = subst (λ n. word < 2 ^ n) (sym ready.bits) (clean_below netlist order keeps word f.clean) in
          let p = fits_held netlist order keeps old pool table ready empty g live word lt f in
          words word (subst (λ n. word < 2 ^ n) ew lt)
          ∙ and_from _ _ (subst (λ k. has_word old k word ≡ true) (sym es) p.0)
          (and_from _ _ (subst (λ k. all_hold old k word ≡ true) (sym el) p.1) (subst (λ k. has_fields k word ≡ true) (sym ef) p.2))

  pub jump_found : (step : Step) (kept : Regs) (start id width : ℕ) (sets : List ℕ) (fields : List FieldValue) (o : Option ℕ)
      → old.bits ≡ width → start ≡ step_set table step → sets ≡ jump_sets table kept → fields ≡ step_field table step ∷ []
      → ((word : ℕ) → word < 2 ^ width → has_word new id word ≡ (has_word old start word && (all_hold old sets word && has_fields fields word)))
      → IsLeastOf new id o
      → MatchOption o ((word : ℕ) → FitsTurning netlist word (step_operation pool table step) kept → ⊥) (IsLeastFit (λ word. FitsTurning netlist word (step_operation pool table step) kept))
  jump_found step kept start id width sets fields o ew es el ef words l = least_of (λ word. FitsTurning netlist word (step_operation pool table step) kept) new id o l there back
    where
      there : (word : ℕ) → word < 2 ^ new.bits → has_word new id word ≡ true → FitsTurning netlist word (step_operation pool table step) kept
      there word lt h =
          let p = and_parts (has_word old start word) (all_hold old sets word && has_fields fields word) (sym (words word (subst (λ n. word < 2 ^ n) ew (fits_old word lt))) ∙ h) in
          let q = and_parts (all_hold old sets word) (has_fields fields word) p.1 in
          held_jumps netlist order keeps old pool table ready empty step kept word (fits_old word lt)
          (subst (λ k. has_word old k word ≡ true) es p.0) (subst (λ k. all_hold old k word ≡ true) el q.0) (subst (λ k. has_fields k word ≡ true) ef q.1)

      back : (word : ℕ) → FitsTurning netlist word (step_operation pool table step) kept → has_word new id word ≡ true
      back word f =
          let lt : word < 2 ^ old.bits = subst (λ n. word < 2 ^ n) (sym ready.bits) (clean_below netlist order keeps word f.jump.clean) in
          let p = jumps_held netlist order keeps old pool table ready empty step kept word lt f in
          words word (subst (λ n. word < 2 ^ n) ew lt)
          ∙ and_from _ _ (subst (λ k. has_word old k word ≡ true) (sym es) p.0)
          (and_from _ _ (subst (λ k. all_hold old k word ≡ true) (sym el) p.1) (subst (λ k. has_fields k word ≡ true) (sym ef) p.2))
