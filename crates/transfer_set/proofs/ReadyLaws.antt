-- What is told of a netlist's patterns stays so while the book and the pool grow, and what its rows
-- and sets are.
use Rattle.std.proofs.Common.{◌≡◌, ◌↔◌, ℕ, suc, ◌^◌, ◌<◌, true, All, AllPairs, Contains, List, [], ◌∷◌, length, Option, Some, None, slice_get, slice_index, refl, sym, ◌∙◌, ap, subst, arith}
use Rattle.std.specs.Prelude.{◌≢◌}
use Rattle.std.proofs.lemmas.List.Elements.{All-weaker}
use Rattle.std.proofs.lemmas.Option.{slice_get_within, get_or_from_slice_get}
use Rattle.bit_bdd.specs.Diagrams.{Diagrams, Extends, has_word}
use Rattle.bit_bdd.proofs.CallerLemmas.{same_words, still_within}
use Rattle.net_model.specs.declared.hardware.Netlist.{Netlist}
use Rattle.net_model.specs.Fields.{transfer_fields}
use Rattle.net_model.specs.Patterns.{ArePatterns, IsPattern, IsWordOf, Pattern}
use Rattle.net_model.specs.Exprs.{TransferModel, write, write_at}
use Rattle.net_model.specs.Texts.{text_of_transfer}
use Rattle.net_model.specs.Transfers.{IsClean, Keeps, StepsOn}
use Rattle.sym_expr.specs.declared.pool.Node.{Node}
use Rattle.sym_expr.specs.Pools.{Grows, expr_of_id}
use Rattle.sym_expr.proofs.CallerLemmas.{grows_refl, same_expr}
use Rattle.transfer_set.specs.Entries.{IsAddrKnown, ids_transfer}
use Rattle.transfer_set.specs.Ready.{IsReady}
use Rattle.transfer_set.specs.Rows.{row_transfer, row_pattern, row_patterns}
use Rattle.transfer_set.specs.Sets.{IsKeepSet, IsStepSet}
use Rattle.transfer_set.specs.Tables.{PatternTable, IsPatternTable, IsRow}
use Rattle.transfer_set.specs.declared.row.Row.{Row}
use Rattle.transfer_set.proofs.Collecting.{set_later}

module _ (netlist : Netlist) (old new : Diagrams) (grows : Extends old new) where
  fits_old : (word : ℕ) → word < 2 ^ new.bits → word < 2 ^ old.bits
  fits_old word h = subst (λ n. word < 2 ^ n) grows.bits h

  along : (P : Type 0) (id word : ℕ) → id < length old.nodes → (has_word old id word ≡ true) ↔ P → (has_word new id word ≡ true) ↔ P
  along P id word h e = (λ k. e.0 (sym (same_words old new grows id h word) ∙ k), λ p. same_words old new grows id h word ∙ e.1 p)

  keep_later : (storage set : ℕ) → IsKeepSet netlist old storage set → IsKeepSet netlist new storage set
  keep_later storage set h = record {
    within = still_within old new grows set h.within;
    words = λ word f. along (Keeps netlist storage word) set word h.within (h.words word (fits_old word f));
  }

  step_later : (set : ℕ) → IsStepSet netlist old set → IsStepSet netlist new set
  step_later set h = record {
    within = still_within old new grows set h.within;
    words = λ word f. along (StepsOn netlist word) set word h.within (h.words word (fits_old word f));
  }

  module _ (pool more : List Node) (grown : Grows pool more) where
    known_later : (addr : Option ℕ) → IsAddrKnown (length pool) addr → IsAddrKnown (length more) addr
    known_later None a = tt
    known_later (Some addr) a = omega (arith, a, grown.longer)

    -- ids of the old pool say the same transfer
    same_move : (addr : Option ℕ) (value : ℕ) → IsAddrKnown (length pool) addr → value < length pool → ids_transfer more addr value ≡ ids_transfer pool addr value
    same_move None value a v = ap write (same_expr pool more grown value v)
    same_move (Some addr) value a v =
        let p : expr_of_id more addr ≡ expr_of_id pool addr = same_expr pool more grown addr a in
        let q : expr_of_id more value ≡ expr_of_id pool value = same_expr pool more grown value v in
        (λ j. write_at (p j) (q j))

    row_later : (row : Row) → IsRow netlist old pool row → IsRow netlist new more row
    row_later row h =
        let m : row_transfer more row ≡ row_transfer pool row = same_move row.addr row.value h.addr h.value in
        record {
          told = record { text = h.told.text ∙ ap (text_of_transfer netlist row.storage) (sym m); fields = h.told.fields ∙ ap transfer_fields (sym m) };
          addr = known_later row.addr h.addr;
          value = omega (arith, h.value, grown.longer);
          set = set_later old new grows row.set h.set;
          whole = λ word f.
              subst (λ (move : TransferModel). (has_word new row.set word ≡ true) ↔ IsWordOf netlist (record { storage = row.storage; move = move }) word) (sym m)
              (along (IsWordOf netlist (row_pattern pool row) word) row.set word h.set.within (h.whole word (fits_old word f)));
        }

    same_patterns : (rows : List Row) → All (IsRow netlist old pool) rows → row_patterns more rows ≡ row_patterns pool rows
    same_patterns [] h = refl
    same_patterns (row ∷ rows) h =
        let first : IsRow netlist old pool row = h 0 row (omega arith) in
        let m : row_transfer more row ≡ row_transfer pool row = same_move row.addr row.value first.addr first.value in
        let later : row_patterns more rows ≡ row_patterns pool rows = same_patterns rows (λ i d lt. h (suc i) d (omega (arith, lt))) in
        (λ j. let p : Pattern = record { storage = row.storage; move = m j } in p ∷ later j)

    pub table_later : (table : PatternTable) → IsPatternTable netlist old pool table → IsPatternTable netlist new more table
    table_later table h =
        let same : row_patterns pool table.rows ≡ row_patterns more table.rows = sym (same_patterns table.rows h.rows) in
        record {
          rows = All-weaker (IsRow netlist old pool) (IsRow netlist new more) row_later table.rows h.rows;
          each = subst (All (IsPattern netlist)) same h.each;
          every = λ pattern is. subst (λ (patterns : List Pattern). Contains patterns pattern) same (h.every pattern is);
          once = subst (AllPairs (λ (p q : Pattern). p ≢ q)) same h.once;
          order = h.order;
          patterns = λ plain. subst (ArePatterns netlist) same (h.patterns plain);
          storages = h.storages;
          keeps = λ storage lt. keep_later storage (slice_index table.keeps storage) (h.keeps storage lt);
          step = step_later table.step h.step;
          memory = h.memory;
          file = h.file;
        }

-- it holds in each extension of the book and each growth of the pool
pub stays_ready : (netlist : Netlist) (old new : Diagrams) (pool more : List Node) (table : PatternTable) → Extends old new → Grows pool more → IsReady netlist old pool table → IsReady netlist new more table
stays_ready netlist old new pool more table grows grown r = record {
  patterns = table_later netlist old new grows pool more grown table r.patterns;
  bits = grows.bits ∙ r.bits;
}

pub ready_later : (netlist : Netlist) (old new : Diagrams) (pool : List Node) (table : PatternTable) → Extends old new → IsReady netlist old pool table → IsReady netlist new pool table
ready_later netlist old new pool table grows r = stays_ready netlist old new pool pool table grows (grows_refl pool) r

-- ---- what is looked up

module _ (netlist : Netlist) (book : Diagrams) (pool : List Node) (table : PatternTable) (r : IsReady netlist book pool table) where
  -- the row of a number is a pattern's
  pub row_at : (i : ℕ) (row : Row) → slice_get table.rows i ≡ Some row → IsRow netlist book pool row
  row_at i row e =
      subst (λ x. IsRow netlist book pool x) (get_or_from_slice_get table.rows i row row e) (r.patterns.rows i row (slice_get_within table.rows i row e))

  -- and its set has the words without clash that give its storage its transfer
  pub row_set_at : (i : ℕ) (row : Row) → slice_get table.rows i ≡ Some row → (word : ℕ) → word < 2 ^ book.bits → (has_word book row.set word ≡ true) ↔ IsWordOf netlist (row_pattern pool row) word
  row_set_at i row e word lt = (row_at i row e).whole word lt

  -- a keep set has the words without clash that keep the storage
  pub keep_set_at : (storage set : ℕ) → slice_get table.keeps storage ≡ Some set → IsKeepSet netlist book storage set
  keep_set_at storage set e =
      let lt = slice_get_within table.keeps storage set e in
      subst (IsKeepSet netlist book storage) (get_or_from_slice_get table.keeps storage set 0 e)
      (r.patterns.keeps storage (omega (arith, lt, r.patterns.storages)))

  -- the step set has those that step
  pub step_set_is : IsStepSet netlist book table.step
  step_set_is = r.patterns.step

  -- a word of any of these sets is one without clash
  pub row_clean : (i : ℕ) (row : Row) → slice_get table.rows i ≡ Some row → (word : ℕ) → word < 2 ^ book.bits → has_word book row.set word ≡ true → IsClean netlist word
  row_clean i row e word lt h = ((row_set_at i row e word lt).0 h).clean

  pub keep_clean : (storage set : ℕ) → slice_get table.keeps storage ≡ Some set → (word : ℕ) → word < 2 ^ book.bits → has_word book set word ≡ true → IsClean netlist word
  keep_clean storage set e word lt h = (((keep_set_at storage set e).words word lt).0 h).clean

  pub step_clean : (word : ℕ) → word < 2 ^ book.bits → has_word book table.step word ≡ true → IsClean netlist word
  step_clean word lt h = ((step_set_is.words word lt).0 h).clean
