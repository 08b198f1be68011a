-- What is told of all patterns, from what was collected.
use Rattle.std.proofs.Common.{◌≡◌, ◌≢◌, ◌↔◌, inl, inr, ℕ, ◌^◌, ◌<◌, Bool, true, List, [], ◌∷◌, length, slice_index_or, All, AllPairs, Contains, refl, sym, ap, subst, ◌∙◌, arith, Option}
use Rattle.std.specs.List.{AllByRecursion}
use Rattle.bit_bdd.specs.Diagrams.{Diagrams, Extends, has_word}
use Rattle.bit_bdd.proofs.CallerLemmas.{extends_refl, extends_trans, same_words}
use Rattle.net_model.specs.declared.hardware.Netlist.{Netlist}
use Rattle.net_model.specs.CheckedRules.{KeepsRules}
use Rattle.net_model.specs.Nets.{counter_of, counter_width, file_place, memory_id}
use Rattle.net_model.specs.Patterns.{ArePatterns, IsPatternBefore, IsPattern, IsWordOf, Pattern}
use Rattle.net_model.specs.Texts.{text_of_transfer}
use Rattle.net_model.specs.Transfers.{IsClean, transfer_at}
use Rattle.sym_expr.specs.declared.pool.Node.{Node}
use Rattle.transfer_set.specs.declared.entries.Entry.{Entry}
use Rattle.transfer_set.specs.declared.row.Row.{Row}
use Rattle.transfer_set.specs.Entries.{IsAddrKnown, IsWordsOf}
use Rattle.transfer_set.specs.Inner.Entries.{HaveWords, AreKnown, AreLeft, AreWhole, entry_transfer, list_if, transfers_under, patterns_of}
use Rattle.transfer_set.specs.Routes.{IsSet}
use Rattle.transfer_set.specs.Rows.{AreSorted, AreRowsOf, IsNotAfter, ShowsMove, entries_of, entry_of, row_transfer, row_pattern, row_patterns}
use Rattle.transfer_set.specs.Inner.Sources.{changes}
use Rattle.transfer_set.specs.Inner.Stepping.{any_step}
use Rattle.transfer_set.specs.Tables.{IsPatternTable, IsRow}
use Rattle.transfer_set.specs.TextMarks.{HasPlainNames, IsTransferOf}
use Rattle.transfer_set.proofs.Collecting.{held_entries_later, moves_later, whole_later}
use Rattle.transfer_set.proofs.SetsFound.{keep_found, step_found}
use Rattle.transfer_set.proofs.Finding.{never}
use Rattle.transfer_set.proofs.Moved.{all_images, all_listed, all_map, all_moved, images_moved, pairs_map}
use Rattle.transfer_set.proofs.OnceEach.{never_both, once_held, text_before}
use Rattle.transfer_set.specs.declared.stepping.Counter.{Counter}
use Rattle.transfer_set.proofs.TermsOf.{move_exprs}
use Rattle.transfer_set.proofs.TransfersDiffer.{same_transfer}

-- three facts of each
both_all : {X : Type 0} (P Q R : X → Type 0) (xs : List X) → AllByRecursion P xs → AllByRecursion Q xs → AllByRecursion R xs → AllByRecursion (λ x. P x × Q x × R x) xs
both_all P Q R [] p q r = tt
both_all P Q R (x ∷ xs) p q r = ((p.0, q.0, r.0), both_all P Q R xs p.1 q.1 r.1)

told_is : (pool : List Node) (rows : List Row) → row_patterns pool rows ≡ patterns_of pool (entries_of rows)
told_is pool [] = refl
told_is pool (row ∷ rows) = ap (λ ps. row_pattern pool row ∷ ps) (told_is pool rows)

is_pattern : (netlist : Netlist) (book : Diagrams) (pool : List Node) (row : Row) → IsRow netlist book pool row → IsPattern netlist (row_pattern pool row)
is_pattern netlist book pool row is =
    record { changes = never pool row.addr row.value; word = is.set.word; given = (is.whole is.set.word is.set.fits).0 is.set.holds }

-- rows of one storage with one text have one transfer
same_text : (netlist : Netlist) (order : List ℕ) → KeepsRules netlist order → HasPlainNames netlist → (book : Diagrams) (pool : List Node) (a b : Row)
    → IsRow netlist book pool a → IsRow netlist book pool b → a.storage ≡ b.storage → a.text.items ≡ b.text.items → row_transfer pool a ≡ row_transfer pool b
same_text netlist order kept plain book pool a b p q same e =
    same_transfer netlist order kept plain a.storage (row_transfer pool a) (row_transfer pool b)
    (never pool a.addr a.value) (never pool b.addr b.value) (of_netlist a p) (of_netlist b q)
    (sym p.told.text ∙ e ∙ q.told.text ∙ ap (λ id. text_of_transfer netlist id (row_transfer pool b)) (sym same))
  where
    of_netlist : (row : Row) → IsRow netlist book pool row → IsTransferOf netlist (row_transfer pool row)
    of_netlist row is =
        let list_if = (is.whole is.set.word is.set.fits).0 is.set.holds in
        subst (IsTransferOf netlist) list_if.gives (move_exprs netlist order kept is.set.word row.storage)

module _ (netlist : Netlist) (order : List ℕ) (kept : KeepsRules netlist order) (book : Diagrams) (pool : List Node) (entries : List Entry)
    (held : HaveWords book entries) (known : AreKnown (length pool) entries) (whole : AreWhole netlist pool book entries)
    (legal : ℕ → Bool) (moves : (n word : ℕ) → word < 2 ^ book.bits → transfers_under book pool entries n word ≡ list_if (legal word) (changes (transfer_at netlist word n)))
    (every : (pattern : Pattern) → IsPattern netlist pattern → Contains (patterns_of pool entries) pattern)
    (rows : List Row) (of : AreRowsOf entries rows) (told : All (ShowsMove netlist pool) rows) (ordered : AreSorted rows) where
  abbrev Facts : Entry → Type 0
  Facts entry = IsSet book entry.set × (IsAddrKnown (length pool) entry.addr × (entry.value < length pool)) × IsWordsOf netlist book.bits entry.storage (entry_transfer pool entry) (λ word. has_word book entry.set word)

  facts : All (λ (row : Row). Facts (entry_of row)) rows
  facts =
      let all : AllByRecursion Facts entries = both_all (λ (entry : Entry). IsSet book entry.set) (λ (entry : Entry). IsAddrKnown (length pool) entry.addr × (entry.value < length pool)) (λ (entry : Entry). IsWordsOf netlist book.bits entry.storage (entry_transfer pool entry) (λ word. has_word book entry.set word)) entries held known whole in
      let listed : AllByRecursion Facts (entries_of of.listed) = subst (AllByRecursion Facts) (sym of.same) all in
      all_moved (λ (row : Row). Facts (entry_of row)) of.listed rows of.moved
      (all_listed (λ (row : Row). Facts (entry_of row)) of.listed (all_images entry_of Facts of.listed listed))

  pub rows_are : All (IsRow netlist book pool) rows
  rows_are k d lt =
      let f = facts k d lt in
      record { told = told k d lt; addr = f.1.0; value = f.1.1; set = f.0; whole = f.2 }

  pub every_told : (pattern : Pattern) → IsPattern netlist pattern → Contains (row_patterns pool rows) pattern
  every_told pattern is =
      let among : Contains (row_patterns pool of.listed) pattern = subst (λ ps. Contains ps pattern) (sym (told_is pool of.listed ∙ ap (patterns_of pool) of.same)) (every pattern is) in
      images_moved (row_pattern pool) of.listed rows of.moved pattern among

  pub each_told : All (IsPattern netlist) (row_patterns pool rows)
  each_told = all_map (row_pattern pool) (IsPattern netlist) rows (λ k d lt. is_pattern netlist book pool (slice_index_or rows k d) (rows_are k d lt))

  -- two rows of one storage have no word in common
  apart : (i j : ℕ) (d : Row) → i < j → j < length rows → (slice_index_or rows i d).storage ≡ (slice_index_or rows j d).storage
      → (word : ℕ) → word < 2 ^ book.bits → has_word book (slice_index_or rows i d).set word ≡ true → has_word book (slice_index_or rows j d).set word ≡ true → ⊥
  apart i j d less lt same word fits hi hj =
      let id : ℕ = (slice_index_or rows j d).storage in
      let held_listed : transfers_under book pool (entries_of of.listed) id word ≡ list_if (legal word) (changes (transfer_at netlist word id)) = ap (λ es. transfers_under book pool es id word) of.same ∙ moves id word fits in
      let few = once_held book pool of.listed rows of.moved id word (legal word) (transfer_at netlist word id) held_listed in
      never_both book rows id word few i j d less lt same hi refl hj

  pub once_told : AllPairs (λ p q. p ≢ q) (row_patterns pool rows)
  once_told = pairs_map (row_pattern pool) (λ p q. p ≢ q) rows (λ i j d less lt e. by i j d less lt e)
    where
      by : (i j : ℕ) (d : Row) → i < j → j < length rows → row_pattern pool (slice_index_or rows i d) ≡ row_pattern pool (slice_index_or rows j d) → ⊥
      by i j d less lt e =
          let a = rows_are i d (omega (arith, less, lt)) in
          let b = rows_are j d lt in
          let there : IsWordOf netlist (row_pattern pool (slice_index_or rows j d)) b.set.word = (b.whole b.set.word b.set.fits).0 b.set.holds in
          let here : IsWordOf netlist (row_pattern pool (slice_index_or rows i d)) b.set.word = subst (λ p. IsWordOf netlist p b.set.word) (sym e) there in
          apart i j d less lt (ap (λ (p : Pattern). p.storage) e) b.set.word b.set.fits ((a.whole b.set.word b.set.fits).1 here) b.set.holds

  pub before_told : HasPlainNames netlist → AllPairs (IsPatternBefore netlist) (row_patterns pool rows)
  before_told plain = pairs_map (row_pattern pool) (IsPatternBefore netlist) rows (λ i j d less lt. by i j d less lt (ordered i j d less lt))
    where
      by : (i j : ℕ) (d : Row) → i < j → j < length rows → IsNotAfter (slice_index_or rows i d) (slice_index_or rows j d)
          → IsPatternBefore netlist (row_pattern pool (slice_index_or rows i d)) (row_pattern pool (slice_index_or rows j d))
      by i j d less lt (inl below) = inl below
      by i j d less lt (inr (same, later)) =
          let a = rows_are i d (omega (arith, less, lt)) in
          let b = rows_are j d lt in
          let texts : (slice_index_or rows i d).text.items ≡ (slice_index_or rows j d).text.items → ⊥ = λ e.
          (let moved : row_transfer pool (slice_index_or rows i d) ≡ row_transfer pool (slice_index_or rows j d) =
          same_text netlist order kept plain book pool (slice_index_or rows i d) (slice_index_or rows j d) a b same e in
          let there : IsWordOf netlist (row_pattern pool (slice_index_or rows j d)) b.set.word = (b.whole b.set.word b.set.fits).0 b.set.holds in
          let here : IsWordOf netlist (row_pattern pool (slice_index_or rows i d)) b.set.word =
          record { clean = there.clean; gives = ap (transfer_at netlist b.set.word) same ∙ there.gives ∙ sym moved } in
          apart i j d less lt same b.set.word b.set.fits ((a.whole b.set.word b.set.fits).1 here) b.set.holds) in
          inr (same, rw (sym a.told.text) (rw (sym b.told.text) (text_before (slice_index_or rows i d).text.items (slice_index_or rows j d).text.items later texts)))

  pub patterns_told : HasPlainNames netlist → ArePatterns netlist (row_patterns pool rows)
  patterns_told plain = record { each = each_told; every = every_told; ordered = before_told plain }

-- over the book in which transfers were collected, the one in which the sets of storages stand, and
-- the last
module _ (netlist : Netlist) (order : List ℕ) (kept : KeepsRules netlist order) (old mid new last : Diagrams) (collected : Extends old mid) (left : Extends mid new) (stepped : Extends new last)
    (pool : List Node) (entries : List Entry) (held : HaveWords mid entries) (known : AreKnown (length pool) entries) (whole : AreWhole netlist pool mid entries)
    (set : ℕ) (within : set < length old.nodes) (clean : (word : ℕ) → word < 2 ^ old.bits → (has_word old set word ≡ true) ↔ IsClean netlist word)
    (moves : (n word : ℕ) → word < 2 ^ old.bits → transfers_under mid pool entries n word ≡ list_if (has_word old set word) (changes (transfer_at netlist word n)))
    (every : (pattern : Pattern) → IsPattern netlist pattern → Contains (patterns_of pool entries) pattern) where
  later : Extends mid last
  later = extends_trans mid new last left stepped

  back : (b : ℕ) → b ≡ old.bits → (word : ℕ) → word < 2 ^ b → word < 2 ^ old.bits
  back b e word fits = subst (λ n. word < 2 ^ n) e fits

  moves_in : (book : Diagrams) → Extends mid book → (n word : ℕ) → word < 2 ^ book.bits → transfers_under book pool entries n word ≡ list_if (has_word old set word) (changes (transfer_at netlist word n))
  moves_in book grows n word fits = moves_later mid book grows pool entries held n word ∙ moves n word (back book.bits (grows.bits ∙ collected.bits) word fits)

  clean_in : (book : Diagrams) → Extends mid book → (word : ℕ) → word < 2 ^ book.bits → (has_word old set word ≡ true) ↔ IsClean netlist word
  clean_in book grows word fits = clean word (back book.bits (grows.bits ∙ collected.bits) word fits)

  pub table_is : (rows : List Row) → AreRowsOf entries rows → All (ShowsMove netlist pool) rows → AreSorted rows
      → (keeps : List ℕ) → AreLeft mid new set entries (length netlist.storages) keeps
      → (counter : Counter) → counter.storage ≡ counter_of netlist.codes → counter.width ≡ counter_width netlist
      → (step : ℕ) → step < length last.nodes → ((word : ℕ) → has_word last step word ≡ any_step new pool counter entries word)
      → (memory : ℕ) → memory ≡ memory_id netlist.storages → (file : Option ℕ) → file ≡ file_place netlist.storages
      → IsPatternTable netlist last pool (record { rows = rows; keeps = keeps; step = step; memory = memory; file = file })
  table_is rows of told ordered keeps are counter storage width step inside words memory is file is_file =
      let held_last = held_entries_later mid last later entries held in
      let whole_last = whole_later mid last later netlist pool entries held whole in
      let legal = has_word old set in
      let moves_last = moves_in last later in
      record {
        rows = rows_are netlist order kept last pool entries held_last known whole_last legal moves_last every rows of told ordered;
        each = each_told netlist order kept last pool entries held_last known whole_last legal moves_last every rows of told ordered;
        every = every_told netlist order kept last pool entries held_last known whole_last legal moves_last every rows of told ordered;
        once = once_told netlist order kept last pool entries held_last known whole_last legal moves_last every rows of told ordered;
        order = ordered;
        patterns = patterns_told netlist order kept last pool entries held_last known whole_last legal moves_last every rows of told ordered;
        storages = are.long;
        keeps = keep_found netlist mid pool entries legal (clean_in mid (extends_refl mid)) (moves_in mid (extends_refl mid)) new last left stepped set (same_words old mid collected set within) (length netlist.storages) keeps are;
        step = step_found netlist new pool entries legal (clean_in new left) (moves_in new left) last stepped.bits counter storage width step inside words;
        memory = is;
        file = is_file;
      }
