-- Words that the sets of steps hold, with the steps' fields, do the steps.
use Rattle.std.proofs.Common.{◌≡◌, ℕ, ◌<◌, ◌^◌, ◌&&◌, Bool, true, false, List, [], ◌∷◌, ◌++◌, map, length, bit_and, Option, Some, None, refl, sym, ◌∙◌, ap, arith, subst}
use Rattle.std.specs.List.{slice_get}
use Rattle.std.proofs.lemmas.Bool.{true≢false, eqb-true, eq-eqb, and_parts, and_from}
use Rattle.std.proofs.Math.Bool.{and_assoc}
use Rattle.bit_bdd.specs.Diagrams.{Diagrams, has_word}
use Rattle.net_model.specs.declared.hardware.Netlist.{Netlist}
use Rattle.net_model.specs.Exprs.{keep}
use Rattle.net_model.specs.Transfers.{IsClean}
use Rattle.sym_expr.specs.declared.pool.Node.{Node}
use Rattle.transfer_set.specs.Entries.{ids_transfer}
use Rattle.transfer_set.specs.Ready.{IsReady}
use Rattle.transfer_set.specs.Tables.{PatternTable, IsRow}
use Rattle.transfer_set.specs.declared.row.Row.{Row}
use Rattle.transfer_set.proofs.ReadyLaws.{row_at}
use Rattle.form_model.specs.declared.forms.Step.{Step}
use Rattle.form_model.specs.Effects.{space_in}
use Rattle.word_fit.specs.Fits.{Does, DoesAll}
use Rattle.word_fit.specs.Steps.{step_operation}
use Rattle.word_fit.proofs.StepRows.{row_operation, operation_is}
use Rattle.nop_synth.specs.Wanted.{all_hold, AllBelow, has_field, has_fields, row_set, row_fields, step_set, step_field}

pub false_not : {P : Type 0} (b : Bool) → b ≡ false → b ≡ true → P
false_not b f t = absurd (true≢false (sym t ∙ f))

-- ---- lists of sets

hold-append : (book : Diagrams) (xs ys : List ℕ) (word : ℕ) → all_hold book (xs ++ ys) word ≡ (all_hold book xs word && all_hold book ys word)
hold-append book [] ys word = refl
hold-append book (x ∷ xs) ys word = ap (λ b. has_word book x word && b) (hold-append book xs ys word) ∙ sym (and_assoc (has_word book x word) (all_hold book xs word) (all_hold book ys word))

pub hold_parts : (book : Diagrams) (xs ys : List ℕ) (word : ℕ) → all_hold book (xs ++ ys) word ≡ true → (all_hold book xs word ≡ true) × (all_hold book ys word ≡ true)
hold_parts book xs ys word h = and_parts _ _ (sym (hold-append book xs ys word) ∙ h)

pub hold_both : (book : Diagrams) (xs ys : List ℕ) (word : ℕ) → all_hold book xs word ≡ true → all_hold book ys word ≡ true → all_hold book (xs ++ ys) word ≡ true
hold_both book xs ys word h k = hold-append book xs ys word ∙ and_from _ _ h k

pub below-append : (book : Diagrams) (xs ys : List ℕ) → AllBelow book xs → AllBelow book ys → AllBelow book (xs ++ ys)
below-append book [] ys h k = k
below-append book (x ∷ xs) ys h k = (h.0, below-append book xs ys h.1 k)

pub one_hold : (book : Diagrams) (set word : ℕ) → all_hold book (set ∷ []) word ≡ true → has_word book set word ≡ true
one_hold book set word h = (and_parts _ _ h).0

module _ (netlist : Netlist) (book : Diagrams) (pool : List Node) (table : PatternTable) (ready : IsReady netlist book pool table) (empty : (word : ℕ) → has_word book 0 word ≡ false) where
  -- ---- steps

  changes : (addr : Option ℕ) (value : ℕ) → ids_transfer pool addr value ≡ keep → ⊥
  changes None value e = cc
  changes (Some addr) value e = cc

  row_does : (i setting word : ℕ) (o : Option Row) → slice_get table.rows i ≡ o → word < 2 ^ book.bits → has_word book (row_set o) word ≡ true → has_field (row_fields o) setting word ≡ true → Does netlist word (row_operation table.file pool o setting)
  row_does i setting word None e lt h f = false_not (has_word book 0 word) (empty word) h
  row_does i setting word (Some row) e lt h f =
      let r : IsRow netlist book pool row = row_at netlist book pool table ready i row e in
      let w = (r.whole word lt).0 h in
      record {
        changes = changes row.addr row.value;
        gives = w.gives;
        space = ap (λ file. space_in file row.storage) ready.patterns.file;
        setting = ap (λ k. bit_and word k) (sym r.told.fields) ∙ eqb-true (bit_and word row.fields) setting f;
      }

  row_held : (i setting word : ℕ) (o : Option Row) → slice_get table.rows i ≡ o → word < 2 ^ book.bits → IsClean netlist word → Does netlist word (row_operation table.file pool o setting) → (has_word book (row_set o) word ≡ true) × (has_field (row_fields o) setting word ≡ true)
  row_held i setting word None e lt clean d = absurd (d.changes refl)
  row_held i setting word (Some row) e lt clean d =
      let r : IsRow netlist book pool row = row_at netlist book pool table ready i row e in (
        (r.whole word lt).1 (record { clean = clean; gives = d.gives }),
        eq-eqb (bit_and word row.fields) setting (ap (λ k. bit_and word k) r.told.fields ∙ d.setting),
      )

  pub step_does : (step : Step) (word : ℕ) → word < 2 ^ book.bits → has_word book (step_set table step) word ≡ true → has_field (step_field table step).mask step.setting word ≡ true → Does netlist word (step_operation pool table step)
  step_does step word lt h f =
      subst (λ d. Does netlist word d) (sym (operation_is pool table step)) (row_does step.pattern step.setting word (slice_get table.rows step.pattern) refl lt h f)

  pub step_held : (step : Step) (word : ℕ) → word < 2 ^ book.bits → IsClean netlist word → Does netlist word (step_operation pool table step) → (has_word book (step_set table step) word ≡ true) × (has_field (step_field table step).mask step.setting word ≡ true)
  step_held step word lt clean d =
      row_held step.pattern step.setting word (slice_get table.rows step.pattern) refl lt clean (subst (λ k. Does netlist word k) (operation_is pool table step) d)

  pub steps_do : (g : List Step) (word : ℕ) → word < 2 ^ book.bits → all_hold book (map (step_set table) g) word ≡ true → has_fields (map (step_field table) g) word ≡ true → DoesAll netlist (step_operation pool table) word g
  steps_do [] word lt h f = tt
  steps_do (x ∷ g) word lt h f =
      let p : (has_word book (step_set table x) word ≡ true) × (all_hold book (map (step_set table) g) word ≡ true) = and_parts _ _ h in
      let q : (has_field (step_field table x).mask x.setting word ≡ true) × (has_fields (map (step_field table) g) word ≡ true) = and_parts _ _ f in
      (step_does x word lt p.0 q.0, steps_do g word lt p.1 q.1)

  pub steps_held : (g : List Step) (word : ℕ) → word < 2 ^ book.bits → IsClean netlist word → DoesAll netlist (step_operation pool table) word g → (all_hold book (map (step_set table) g) word ≡ true) × (has_fields (map (step_field table) g) word ≡ true)
  steps_held [] word lt clean d = (refl, refl)
  steps_held (x ∷ g) word lt clean d =
      let p : (has_word book (step_set table x) word ≡ true) × (has_field (step_field table x).mask x.setting word ≡ true) = step_held x word lt clean d.0 in
      let q : (all_hold book (map (step_set table) g) word ≡ true) × (has_fields (map (step_field table) g) word ≡ true) = steps_held g word lt clean d.1 in
      (and_from _ _ p.0 q.0, and_from _ _ p.1 q.1)

  row_below : (i : ℕ) (o : Option Row) → slice_get table.rows i ≡ o → row_set o < length book.nodes
  row_below i None e = omega (arith, ready.patterns.step.within)
  row_below i (Some row) e = (row_at netlist book pool table ready i row e).set.within

  step_below : (step : Step) → step_set table step < length book.nodes
  step_below step = row_below step.pattern (slice_get table.rows step.pattern) refl

  pub steps_below : (g : List Step) → AllBelow book (map (step_set table) g)
  steps_below [] = tt
  steps_below (x ∷ g) = (step_below x, steps_below g)
