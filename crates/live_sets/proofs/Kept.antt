-- The registers that are live before a group.
use Rattle.std.proofs.Common.{◌≡◌, ℕ, ◌<◌, ◌≤◌, ◌^◌, ◌||◌, ◌&&◌, not, inl, inr, Bool, false, List, [], ◌∷◌, Option, Some, None, refl, sym, ◌∙◌, ap, arith, subst}
use Rattle.std.specs.List.{slice_get}
use Rattle.std.proofs.lemmas.Bool.{cases_lt, or_from, and_left}
use Rattle.std.proofs.lemmas.Option.{slice_get_within, get_or_from_slice_get, slice_get-map}
use Rattle.bit_bdd.specs.Diagrams.{Diagrams}
use Rattle.net_model.specs.declared.hardware.Netlist.{Netlist}
use Rattle.net_model.specs.CheckedRules.{KeepsRules}
use Rattle.net_model.specs.Patterns.{Pattern, IsPattern}
use Rattle.net_model.proofs.KeptRules.{few_storages, sound_of}
use Rattle.net_model.specs.Transfers.{transfer_at}
use Rattle.sym_expr.specs.declared.pool.Node.{Node}
use Rattle.transfer_set.specs.Rows.{row_pattern, row_patterns}
use Rattle.transfer_set.specs.Ready.{IsReady}
use Rattle.transfer_set.specs.Tables.{PatternTable, IsRow}
use Rattle.transfer_set.specs.declared.row.Row.{Row}
use Rattle.form_model.specs.declared.forms.Step.{Step}
use Rattle.form_model.specs.Effects.{LocationModel, register, reads, transfer_reads}
use Rattle.form_model.specs.Live.{group_reads, group_writes, live_before, regs_of}
use Rattle.word_fit.specs.Steps.{step_operation}
use Rattle.word_fit.proofs.StepRows.{row_operation, operation_is}
use Rattle.live_sets.specs.Listed.{IsListed, HasRowIds}
use Rattle.live_sets.proofs.Bits.{regs_of_past}
use Rattle.net_model.proofs.Far.{reads_far}
use Rattle.word_fit.proofs.Occurring.{transfer_reads_occurs}
use Rattle.std.proofs.lemmas.List.Elements.{All-weaker}

module _ (netlist : Netlist) (order : List ℕ) (keeps : KeepsRules netlist order) (pool : List Node) (table : PatternTable) (listed : IsListed netlist pool table) where
  pattern_at : (i : ℕ) (row : Row) → slice_get table.rows i ≡ Some row → IsPattern netlist (row_pattern pool row)
  pattern_at i row e =
      let at : slice_get (row_patterns pool table.rows) i ≡ Some (row_pattern pool row) = slice_get-map (row_pattern pool) table.rows i ∙ some (slice_get table.rows i) e in
      subst (λ x. IsPattern netlist x) (get_or_from_slice_get (row_patterns pool table.rows) i (row_pattern pool row) (row_pattern pool row) at)
      (listed.each i (row_pattern pool row) (slice_get_within (row_patterns pool table.rows) i (row_pattern pool row) at))
    where
      some : (o : Option Row) → o ≡ Some row → elim o as (λ _. Option Pattern) [ None ↦ None | Some x ↦ Some (row_pattern pool x) ] ≡ Some (row_pattern pool row)
      some o h = ap (λ (z : Option Row). elim z as (λ _. Option Pattern) [ None ↦ None | Some x ↦ Some (row_pattern pool x) ]) h

  row_far : (i setting r : ℕ) (o : Option Row) → slice_get table.rows i ≡ o → 16 ≤ r → reads (row_operation table.file pool o setting) (register r) ≡ false
  row_far i setting r None e h = refl
  row_far i setting r (Some row) e h =
      let p : IsPattern netlist (row_pattern pool row) = pattern_at i row e in
      subst (λ m. transfer_reads setting m (register r) ≡ false) p.given.gives
      (transfer_reads_occurs (transfer_at netlist p.word row.storage) setting r
      ∙ reads_far r netlist (omega (arith, few_storages netlist order keeps, h)) (sound_of netlist order keeps).typed p.word row.storage)

  -- a step reads no register from 16 on
  pub step_far : (step : Step) (r : ℕ) → 16 ≤ r → reads (step_operation pool table step) (register r) ≡ false
  step_far step r h = subst (λ d. reads d (register r) ≡ false) (sym (operation_is pool table step)) (row_far step.pattern step.setting r (slice_get table.rows step.pattern) refl h)

  group_far : (g : List Step) (r : ℕ) → 16 ≤ r → group_reads (step_operation pool table) g r ≡ false
  group_far [] r h = refl
  group_far (x ∷ g) r h = or_from _ _ (step_far x r h) (group_far g r h)

  -- whether a step reads a location that is a register
  pub touch_register : (reader : Step) (id read : ℕ) (result : Bool) (s : LocationModel) → register id ≡ s → (id < 16 → result ≡ regs_of read id) → (16 ≤ id → result ≡ false)
      → ((r : ℕ) → r < 16 → regs_of read r ≡ reads (step_operation pool table reader) (register r)) → result ≡ reads (step_operation pool table reader) s
  touch_register reader id read result s es within past ed =
      subst (λ z. result ≡ reads (step_operation pool table reader) z) es
      (elim (cases_lt id 16) as (λ _. result ≡ reads (step_operation pool table reader) (register id)) [
        | inl u ↦ within u ∙ ed id u
        | inr u ↦ past u ∙ sym (step_far reader id u)
      ])

  pub between : (g : List Step) (result kept read written live : ℕ) → result < 2 ^ 16 → live < 2 ^ 16
      → ((r : ℕ) → regs_of result r ≡ (regs_of read r || regs_of kept r))
      → ((r : ℕ) → regs_of kept r ≡ (regs_of live r && not (regs_of written r)))
      → ((r : ℕ) → r < 16 → regs_of read r ≡ group_reads (step_operation pool table) g r)
      → ((r : ℕ) → r < 16 → regs_of written r ≡ group_writes (step_operation pool table) g r)
      → regs_of result ≡ live_before (step_operation pool table) (g ∷ []) (regs_of live)
  between g result kept read written live small smaller er ek ed ew = λ j r. at r j
    where
      at : (r : ℕ) → regs_of result r ≡ live_before (step_operation pool table) (g ∷ []) (regs_of live) r
      at r =
          elim (cases_lt r 16) as (λ _. regs_of result r ≡ live_before (step_operation pool table) (g ∷ []) (regs_of live) r) [
            | inl u ↦ er r ∙ (λ j. ed r u j || (ek r ∙ (λ i. regs_of live r && not (ew r u i))) j)
            | inr u ↦
                regs_of_past result r small u
                ∙ sym (or_from _ _ (group_far g r u) (and_left (regs_of live r) _ (regs_of_past live r smaller u)))
          ]

-- the table of a book lists its patterns
pub listed_of : (netlist : Netlist) (book : Diagrams) (pool : List Node) (table : PatternTable) → IsReady netlist book pool table → IsListed netlist pool table
listed_of netlist book pool table r = record {
  each = r.patterns.each;
  rows = All-weaker (IsRow netlist book pool) (HasRowIds pool) (λ row h. record { addr = h.addr; value = h.value }) table.rows r.patterns.rows;
}
