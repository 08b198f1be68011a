-- Words that all wanted sets hold and that have the wanted fields are those that fit.
use Rattle.std.proofs.Common.{◌≡◌, ℕ, ◌<◌, ◌^◌, ◌==◌, nat_eq, nat_lt, if◌then◌else◌, ◌&&◌, not, Bool, true, false, List, [], ◌∷◌, ◌++◌, map, length, Option, Some, None, refl, sym, ◌∙◌, ap, arith, subst}
use Rattle.std.specs.List.{slice_get}
use Rattle.std.specs.Option.{option_eq}
use Rattle.std.proofs.lemmas.Bool.{eq-eqb, ne_eqb, ltb-false, and_parts, and_from, not_from_false, or_from, or_left, or_right}
use Rattle.rec_bits.proofs.Booleans.{not_true}
use Rattle.bit_bdd.specs.Diagrams.{Diagrams, has_word}
use Rattle.net_model.specs.declared.hardware.Netlist.{Netlist}
use Rattle.net_model.specs.declared.hardware.Space.{Space}
use Rattle.net_model.specs.declared.hardware.Space.TheVariants.{Memory as InMemory, File as InFile}
use Rattle.net_model.specs.CheckedRules.{KeepsRules}
use Rattle.net_model.specs.Nets.{IsRegister, file_place, place_in}
use Rattle.net_model.specs.Exprs.{keep}
use Rattle.net_model.specs.Transfers.{IsClean, space_transfer}
use Rattle.net_model.proofs.Spaces.{by_space}
use Rattle.net_model.proofs.KeptRules.{few_storages, one_each}
use Rattle.net_model.proofs.Storages.{array_no_register, other_register, register_within, memory_within as memory_there}
use Rattle.sym_expr.specs.declared.pool.Node.{Node}
use Rattle.transfer_set.specs.Ready.{IsReady}
use Rattle.transfer_set.specs.Tables.{PatternTable}
use Rattle.transfer_set.specs.declared.row.Row.{Row}
use Rattle.transfer_set.proofs.ReadyLaws.{row_clean}
use Rattle.form_model.specs.declared.forms.Step.{Step}
use Rattle.form_model.specs.Live.{Regs, group_writes, no_regs}
use Rattle.word_fit.specs.Fits.{FitsGroup, FitsTurning, group_stores}
use Rattle.word_fit.specs.Steps.{step_operation}
use Rattle.nop_synth.specs.Wanted.{all_hold, AllBelow, cell_sets, has_cells, has_fields, jump_sets, row_set, step_set, step_field, space_sets, is_wanted, register_sets, group_sets}
use Rattle.word_fit.proofs.FilePlaces.{file_at, file_told}
use Rattle.nop_synth.proofs.HeldSteps.{below-append, false_not, hold_both, hold_parts, step_does, step_held, steps_below, steps_do, steps_held}
use Rattle.nop_synth.proofs.HeldStorages.{space_below, space_held, space_kept, registers_below, registers_held, registers_kept}

-- ---- the number of a file

named : (o : Option ℕ) (r : ℕ) → o ≡ Some r → option_eq nat_eq o (Some r) ≡ true
named None r e = absurd (cc)
named (Some k) r e = let same : k ≡ r = cc in eq-eqb k r same

unnamed : (o : Option ℕ) (r : ℕ) → (o ≡ Some r → ⊥) → option_eq nat_eq o (Some r) ≡ false
unnamed None r e = refl
unnamed (Some k) r e = ne_eqb k r (λ same. e (ap Some same))

module _ (netlist : Netlist) (order : List ℕ) (keeps : KeepsRules netlist order) (book : Diagrams) (pool : List Node) (table : PatternTable) (ready : IsReady netlist book pool table) (empty : (word : ℕ) → has_word book 0 word ≡ false) where
  -- ---- registers that are to be kept

  -- where a storage has cells
  cells_at : (space : Space) (r : ℕ) → r ≡ place_in space netlist.storages → r < length netlist.storages → has_cells table r ≡ true
  cells_at InMemory r same lt = or_left (r == table.memory) (option_eq nat_eq table.file (Some r)) (eq-eqb r table.memory (same ∙ sym ready.patterns.memory))
  cells_at InFile r same lt = or_right (r == table.memory) (option_eq nat_eq table.file (Some r)) (named table.file r (ready.patterns.file ∙ subst (λ k. file_place netlist.storages ≡ Some k) (sym same) (file_told netlist.storages (subst (λ k. k < length netlist.storages) same lt))))

  -- a register has none
  no_cells : (r : ℕ) → IsRegister (slice_get netlist.storages r) → has_cells table r ≡ false
  no_cells r is =
      or_from (r == table.memory) (option_eq nat_eq table.file (Some r)) (ne_eqb r table.memory (λ same. away InMemory (same ∙ ready.patterns.memory)))
      (unnamed table.file r (λ e. away InFile (file_at netlist.storages r (sym ready.patterns.file ∙ e))))
    where
      away : (space : Space) → r ≡ place_in space netlist.storages → ⊥
      away space same = array_no_register space netlist.storages (subst (λ k. IsRegister (slice_get netlist.storages k)) same is)

  wanted_from : (live written : Regs) (r : ℕ) → live r ≡ true → IsRegister (slice_get netlist.storages r) → written r ≡ false → is_wanted table live written r ≡ true
  wanted_from live written r l is w = and_from _ _ l (and_from _ _ (not_from_false _ (no_cells r is)) (not_from_false _ w))

  wanted_register : (live written : Regs) (r : ℕ) → is_wanted table live written r ≡ true → r < length netlist.storages → IsRegister (slice_get netlist.storages r)
  wanted_register live written r e lt =
      let p = and_parts (live r) (not (has_cells table r) && not (written r)) e in
      let q = and_parts (not (has_cells table r)) (not (written r)) p.1 in
      other_register netlist.storages r (one_each netlist keeps.roles) lt
      (λ space same. false_not (has_cells table r) (not_true _ q.0) (cells_at space r same lt))

  wanted_parts : (live written : Regs) (r : ℕ) → is_wanted table live written r ≡ true → (live r ≡ true) × (written r ≡ false)
  wanted_parts live written r e =
      let p = and_parts (live r) (not (has_cells table r) && not (written r)) e in
      (p.0, not_true _ (and_parts (not (has_cells table r)) (not (written r)) p.1).1)

  -- ---- groups

  cells_below : (stored : Space → Bool) → AllBelow book (cell_sets table stored)
  cells_below stored =
      below-append book (space_sets table InMemory (stored InMemory)) (space_sets table InFile (stored InFile))
      (space_below netlist book pool table ready InMemory (stored InMemory)) (space_below netlist book pool table ready InFile (stored InFile))

  pub sets_below : (g : List Step) (live : Regs) (stored : Space → Bool) (written : Regs) → AllBelow book (group_sets table g live stored written)
  sets_below g live stored written =
      below-append book (map (step_set table) g ++ cell_sets table stored) (register_sets table live written 16)
      (below-append book (map (step_set table) g) (cell_sets table stored) (steps_below netlist book pool table ready empty g) (cells_below stored)) (registers_below netlist book pool table ready live written 16)

  memory_within : table.memory < length netlist.storages
  memory_within = subst (λ k. k < length netlist.storages) (sym ready.patterns.memory) (memory_there netlist.storages keeps.roles.memory)

  -- which cells the steps of a group write
  abbrev stored_by : List Step → Space → Bool
  stored_by g space = group_stores space (step_operation pool table) g

  cells_kept : (stored : Space → Bool) (word : ℕ) → word < 2 ^ book.bits → all_hold book (cell_sets table stored) word ≡ true → (space : Space) → stored space ≡ false → space_transfer netlist space word ≡ keep
  cells_kept stored word lt h space e =
      let p = hold_parts book (space_sets table InMemory (stored InMemory)) (space_sets table InFile (stored InFile)) word h in
      by_space (λ z. all_hold book (space_sets table z (stored z)) word ≡ true → stored z ≡ false → space_transfer netlist z word ≡ keep)
      (λ k. space_kept netlist book pool table ready InMemory (stored InMemory) word lt memory_within k)
      (λ k. space_kept netlist book pool table ready InFile (stored InFile) word lt memory_within k)
      space (by_space (λ z. all_hold book (space_sets table z (stored z)) word ≡ true) p.0 p.1 space) e

  cells_held : (stored : Space → Bool) (word : ℕ) → word < 2 ^ book.bits → IsClean netlist word → ((space : Space) → stored space ≡ false → space_transfer netlist space word ≡ keep) → all_hold book (cell_sets table stored) word ≡ true
  cells_held stored word lt clean h =
      hold_both book (space_sets table InMemory (stored InMemory)) (space_sets table InFile (stored InFile)) word
      (space_held netlist book pool table ready InMemory (stored InMemory) word lt clean (h InMemory))
      (space_held netlist book pool table ready InFile (stored InFile) word lt clean (h InFile))

  -- a word that is held fits
  pub held_fits : (g : List Step) (live : Regs) (word : ℕ) → word < 2 ^ book.bits → has_word book table.step word ≡ true → all_hold book (group_sets table g live (λ space. group_stores space (step_operation pool table) g) (group_writes (step_operation pool table) g)) word ≡ true → has_fields (map (step_field table) g) word ≡ true → FitsGroup netlist (step_operation pool table) word g live
  held_fits g live word lt s h f =
      let on = (ready.patterns.step.words word lt).0 s in
      let p = hold_parts book (map (step_set table) g ++ cell_sets table (stored_by g)) (register_sets table live (group_writes (step_operation pool table) g) 16) word h in
      let q = hold_parts book (map (step_set table) g) (cell_sets table (stored_by g)) word p.0 in
      record {
        clean = on.clean;
        does = steps_do netlist book pool table ready empty g word lt q.0 f;
        steps = on.steps;
        cells = λ space e. cells_kept (stored_by g) word lt q.1 space e;
        registers = λ r is l w.
            registers_kept netlist book pool table ready live (group_writes (step_operation pool table) g) 16 word r lt p.1
            (omega (arith, few_storages netlist order keeps, register_within netlist.storages r is)) (register_within netlist.storages r is)
            (wanted_from live (group_writes (step_operation pool table) g) r l is w);
      }

  -- a word that fits is held
  pub fits_held : (g : List Step) (live : Regs) (word : ℕ) → word < 2 ^ book.bits → FitsGroup netlist (step_operation pool table) word g live → (has_word book table.step word ≡ true) × (all_hold book (group_sets table g live (λ space. group_stores space (step_operation pool table) g) (group_writes (step_operation pool table) g)) word ≡ true) × (has_fields (map (step_field table) g) word ≡ true)
  fits_held g live word lt f =
      let p = steps_held netlist book pool table ready empty g word lt f.clean f.does in (
        (ready.patterns.step.words word lt).1 (record { clean = f.clean; steps = f.steps }),
        hold_both book (map (step_set table) g ++ cell_sets table (stored_by g)) (register_sets table live (group_writes (step_operation pool table) g) 16) word
            (hold_both book (map (step_set table) g) (cell_sets table (stored_by g)) word p.0 (cells_held (stored_by g) word lt f.clean f.cells))
            (registers_held netlist book pool table ready live (group_writes (step_operation pool table) g) 16 word lt f.clean
            (λ r e n. (let v = wanted_parts live (group_writes (step_operation pool table) g) r e in f.registers r (wanted_register live (group_writes (step_operation pool table) g) r e n) v.0 v.1))),
        p.1,
      )

  -- ---- jumps

  pub jumps_below : (kept : Regs) → AllBelow book (jump_sets table kept)
  jumps_below kept =
      below-append book (space_sets table InMemory false) (register_sets table kept no_regs 16)
      (space_below netlist book pool table ready InMemory false) (registers_below netlist book pool table ready kept no_regs 16)

  pub held_jumps : (step : Step) (kept : Regs) (word : ℕ) → word < 2 ^ book.bits → has_word book (step_set table step) word ≡ true → all_hold book (jump_sets table kept) word ≡ true → has_fields (step_field table step ∷ []) word ≡ true → FitsTurning netlist word (step_operation pool table step) kept
  held_jumps step kept word lt s h f =
      let p = hold_parts book (space_sets table InMemory false) (register_sets table kept no_regs 16) word h in
      record {
        jump = record {
          clean = clean_row step.pattern word (slice_get table.rows step.pattern) refl lt s;
          does = step_does netlist book pool table ready empty step word lt s (and_parts _ _ f).0;
          memory = space_kept netlist book pool table ready InMemory false word lt memory_within p.0 refl;
        };
        registers = λ r is l.
            registers_kept netlist book pool table ready kept no_regs 16 word r lt p.1
            (omega (arith, few_storages netlist order keeps, register_within netlist.storages r is)) (register_within netlist.storages r is)
            (wanted_from kept no_regs r l is refl);
      }
    where
      clean_row : (i word : ℕ) (o : Option Row) → slice_get table.rows i ≡ o → word < 2 ^ book.bits → has_word book (row_set o) word ≡ true → IsClean netlist word
      clean_row i word None e lt h = false_not (has_word book 0 word) (empty word) h
      clean_row i word (Some row) e lt h = row_clean netlist book pool table ready i row e word lt h

  pub jumps_held : (step : Step) (kept : Regs) (word : ℕ) → word < 2 ^ book.bits → FitsTurning netlist word (step_operation pool table step) kept → (has_word book (step_set table step) word ≡ true) × (all_hold book (jump_sets table kept) word ≡ true) × (has_fields (step_field table step ∷ []) word ≡ true)
  jumps_held step kept word lt f =
      let p = step_held netlist book pool table ready empty step word lt f.jump.clean f.jump.does in (
        p.0,
        hold_both book (space_sets table InMemory false) (register_sets table kept no_regs 16) word
            (space_held netlist book pool table ready InMemory false word lt f.jump.clean (λ e. f.jump.memory))
            (registers_held netlist book pool table ready kept no_regs 16 word lt f.jump.clean
            (λ r e n. (let v = wanted_parts kept no_regs r e in f.registers r (wanted_register kept no_regs r e n) v.0))),
        and_from _ _ p.1 refl,
      )
