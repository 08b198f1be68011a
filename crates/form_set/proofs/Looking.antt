-- Patterns as they are looked up, and what holds of them.
use Rattle.std.proofs.Common.{◌≡◌, ℕ, zero, suc, ◌^◌, ◌<◌, ◌≤◌, Bool, true, false, cond, List, [], ◌∷◌, Option, Some, None, length, slice_get, slice_index_or, refl, sym, ap, subst, ◌∙◌, arith}
use Rattle.std.specs.Prelude.{option_map, IfSome}
use Rattle.bit_bdd.specs.Diagrams.{Diagrams}
use Rattle.net_model.specs.declared.hardware.Netlist.{Netlist}
use Rattle.std.specs.List.{AllByRecursion}
use Rattle.net_model.specs.declared.hardware.Storage.{Storage}
use Rattle.net_model.specs.declared.hardware.Storage.TheVariants.{Register, Memory, File}
use Rattle.net_model.specs.CheckedRules.{CodeKeeps, IsCounter, KeepsRules}
use Rattle.net_model.specs.Clock.{is_enabled}
use Rattle.net_model.specs.Symbolic.{no_state, sym_of}
use Rattle.net_model.specs.Value.{value_of}
use Rattle.net_model.specs.Widths.{IsTyped, StorageFits}
use Rattle.net_model.proofs.KeptRules.{few_storages, typed_of}
use Rattle.net_model.proofs.Meanings.{width_is}
use Rattle.net_model.specs.declared.hardware.Code.{Code}
use Rattle.net_model.specs.Nets.{code_bits, counter_of, word_width}
use Rattle.net_model.proofs.WordWidths.{clean_below}
use Rattle.net_model.proofs.Storages.{storage_within, memory_within}
use Rattle.transfer_set.proofs.ReadyLaws.{row_at}
use Rattle.form_set.proofs.FieldsBelow.{move_small}
use Rattle.net_model.specs.Patterns.{IsPattern, Pattern}
use Rattle.net_model.specs.Exprs.{TransferModel, keep, write}
use Rattle.net_model.specs.Transfers.{transfer_at, same_reg, storage_transfer, transfer_of}
use Rattle.sym_expr.specs.declared.pool.Node.{Node}
use Rattle.sym_expr.specs.Pools.{ExprFits, expr_of_id}
use Rattle.transfer_set.specs.declared.machine.Machine.{Machine}
use Rattle.transfer_set.specs.declared.row.Row.{Row}
use Rattle.transfer_set.specs.Machines.{IsReadyFor}
use Rattle.transfer_set.specs.Rows.{row_pattern, row_patterns}
use Rattle.transfer_set.specs.Tables.{IsRow, PatternTable}
use Rattle.transfer_set.specs.TextMarks.{IsTransferOf}
use Rattle.transfer_set.proofs.TermsOf.{move_exprs}
use Rattle.form_set.specs.declared.pattern_ids.PatternIds.{PatternIds}
use Rattle.form_set.specs.Inner.PatternIds.{AreIdsIn, IsNarrow, ArePatternIds, row_ids, ids_pattern}
use Rattle.transfer_set.specs.Ready.{IsReady}

-- ---- the program counter takes few bits

narrow_if : (b : Bool) (m n : TransferModel) → IsNarrow m → IsNarrow n → IsNarrow (cond b m n)
narrow_if true m n h k = h
narrow_if false m n h k = k

fits_at : (netlist : Netlist) (storages : List Storage) → AllByRecursion (StorageFits netlist) storages → (id : ℕ) (storage : Storage) → slice_get storages id ≡ Some storage → StorageFits netlist storage
fits_at netlist [] h id storage e = absurd (cc)
fits_at netlist (x ∷ storages) h zero storage e = (let q : x ≡ storage = cc in subst (StorageFits netlist) q h.0)
fits_at netlist (x ∷ storages) h (suc id) storage e = fits_at netlist storages h.1 id storage e

counter_at : (netlist : Netlist) → IsTyped netlist → (i id : ℕ) (storage : Storage) → StorageFits netlist storage → IsCounter (Some storage) → IsNarrow (storage_transfer (sym_of netlist i) (value_of netlist no_state i) id storage)
counter_at netlist typed i id (Register name width input None) f h =
    narrow_if (is_enabled (value_of netlist no_state i) None) _ keep
    (narrow_if (same_reg (sym_of netlist i input) id) keep (write (sym_of netlist i input)) tt
    (let w = width_is netlist i typed (length netlist.nets) input in omega (arith, w, f.0.1, h))) tt
counter_at netlist typed i id (Register name width input (Some when)) f h = absurd h
counter_at netlist typed i id (Memory cells) f h = absurd h
counter_at netlist typed i id (File cells) f h = absurd h

counter_narrow : (netlist : Netlist) → IsTyped netlist → (i id : ℕ) → IsCounter (slice_get netlist.storages id) → IsNarrow (transfer_at netlist i id)
counter_narrow netlist typed i id h = by (slice_get netlist.storages id) refl h
  where
    by : (o : Option Storage) → slice_get netlist.storages id ≡ o → IsCounter o → IsNarrow (transfer_of netlist i id o)
    by None e k = absurd k
    by (Some storage) e k = counter_at netlist typed i id storage (fits_at netlist netlist.storages typed.storages id storage e) k

-- ---- what the rules say of the code

word_bits : (netlist : Netlist) (codes : List Code) → AllByRecursion (CodeKeeps netlist) codes → length codes ≡ 1 → (1 ≤ code_bits (slice_get codes 0)) × (code_bits (slice_get codes 0) ≤ 64)
word_bits netlist [] h e = absurd (omega (arith, e))
word_bits netlist (code ∷ codes) h e = h.0.0

-- ---- the ids of a pattern

pub ids_are : (netlist : Netlist) (order : List ℕ) → KeepsRules netlist order → (book : Diagrams) (pool : List Node) → book.bits ≡ word_width netlist → ((id : ℕ) → id < length pool → ExprFits (expr_of_id pool id))
    → (row : Row) → IsRow netlist book pool row → IsPattern netlist (row_pattern pool row) → ArePatternIds netlist book pool (row_ids row)
ids_are netlist order k book pool bits fits row r p =
    let exprs = subst (IsTransferOf netlist) p.given.gives (move_exprs netlist order k p.word row.storage) in
    let w = word_bits netlist netlist.codes k.formed.codes k.roles.code in
    record {
      storage = storage_within netlist (row_pattern pool row) p;
      addr = r.addr;
      value = r.value;
      set = record { within = r.set.within; words = r.whole };
      fields = r.told.fields;
      fits = subst (λ b. row.fields < 2 ^ b) (sym bits) (subst (λ n. n < 2 ^ word_width netlist) (sym r.told.fields) (move_small netlist pool fits row.addr row.value r.addr r.value exprs));
      exprs = exprs;
      narrow = λ e. subst IsNarrow (ap (transfer_at netlist p.word) (sym e) ∙ p.given.gives)
          (counter_narrow netlist (typed_of netlist k.formed k.roles) p.word (counter_of netlist.codes) k.roles.counter);
      few = omega (arith, w.1, bits);
      clean = λ word c. subst (λ b. word < 2 ^ b) (sym bits) (clean_below netlist order k word c);
      memory = memory_within netlist.storages k.roles.memory;
      storages = few_storages netlist order k;
    }

-- the pattern of this number
pub told_at : (pool : List Node) (rows : List Row) (n : ℕ) → option_map (ids_pattern pool) (option_map row_ids (slice_get rows n)) ≡ slice_get (row_patterns pool rows) n
told_at pool [] n = refl
told_at pool (row ∷ rows) zero = refl
told_at pool (row ∷ rows) (suc n) = told_at pool rows n

get_pattern : (pool : List Node) (rows : List Row) (n : ℕ) (row : Row) (d : Pattern) → slice_get rows n ≡ Some row → (n < length (row_patterns pool rows)) × (slice_index_or (row_patterns pool rows) n d ≡ row_pattern pool row)
get_pattern pool [] n row d e = absurd (cc)
get_pattern pool (x ∷ rows) zero row d e = (omega arith, (let q : x ≡ row = cc in ap (row_pattern pool) q))
get_pattern pool (x ∷ rows) (suc n) row d e = (let r = get_pattern pool rows n row d e in (omega (arith, r.0), r.1))

module _ (netlist : Netlist) (order : List ℕ) (k : KeepsRules netlist order) (book : Diagrams) (pool : List Node) (table : PatternTable) (ready : IsReady netlist book pool table) (fits : (id : ℕ) → id < length pool → ExprFits (expr_of_id pool id)) where
  pub row_ids_are : (n : ℕ) (row : Row) → slice_get table.rows n ≡ Some row → ArePatternIds netlist book pool (row_ids row)
  row_ids_are n row e =
      let b = get_pattern pool table.rows n row (row_pattern pool row) e in
      ids_are netlist order k book pool ready.bits fits row (row_at netlist book pool table ready n row e)
      (subst (IsPattern netlist) b.1 (ready.patterns.each n (row_pattern pool row) b.0))

  pub known_some : (n : ℕ) (o : Option PatternIds) → o ≡ option_map row_ids (slice_get table.rows n) → IfSome o (ArePatternIds netlist book pool)
  known_some n o e = subst (λ p. IfSome p (ArePatternIds netlist book pool)) (sym e) (by (slice_get table.rows n) refl)
    where
      by : (r : Option Row) → slice_get table.rows n ≡ r → IfSome (option_map row_ids r) (ArePatternIds netlist book pool)
      by None q = tt
      by (Some row) q = row_ids_are n row q

-- over each book of the patterns' sets
pub known_everywhere : (machine : Machine) → KeepsRules machine.checked.now.netlist machine.checked.now.order → ((id : ℕ) → id < length machine.pool.now → ExprFits (expr_of_id machine.pool.now id))
    → (n : ℕ) (o : Option PatternIds) → o ≡ option_map row_ids (slice_get machine.patterns.now.rows n)
    → IfSome o (λ (ids : PatternIds). (book : Diagrams) → IsReadyFor machine book → AreIdsIn machine book ids)
known_everywhere machine k fits n o e =
    by o (λ book ready. known_some machine.checked.now.netlist machine.checked.now.order k book machine.pool.now machine.patterns.now ready fits n o e)
  where
    by : (o : Option PatternIds) → ((book : Diagrams) → IsReadyFor machine book → IfSome o (AreIdsIn machine book))
        → IfSome o (λ (ids : PatternIds). (book : Diagrams) → IsReadyFor machine book → AreIdsIn machine book ids)
    by None h = tt
    by (Some ids) h = h
