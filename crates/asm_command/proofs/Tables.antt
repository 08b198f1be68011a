-- What is known of patterns that were extracted: their sets and expressions are those of the book
-- and the pool, their texts are those of their transfers, and they stay as the book grows.
use Rattle.std.proofs.Common.{◌≡◌, ℕ, zero, suc, ◌+◌, ◌^◌, ◌<◌, ◌≤◌, false, true, true≢false, List, [], ◌∷◌, ◌++◌, length, length-take, map, take, drop, Option, Some, None, IfSome, IfNone, MatchOption, slice_get, slice_index, slice_index_or, refl, sym, ap, subst, ◌∙◌, add-one, arith}
use Rattle.std.specs.Prelude.{◌↔◌, All, option_map}
use Rattle.std.specs.List.{AllByRecursion, AllZip}
use Rattle.std.proofs.lemmas.List.Elements.{All-cons, All-head, All-nil, All-tail, All-weaker}
use Rattle.std.proofs.Math.Seq.{drop-cons}
use Rattle.std.proofs.lemmas.List.{length-map, take-append-drop, take_more}
use Rattle.std.proofs.lemmas.Option.{same_Some}
use Rattle.std.proofs.lemmas.Slice.Zip.{all_zipped_more}
use Rattle.bit_bdd.specs.Diagrams.{Diagrams, Extends, has_word}
use Rattle.net_model.specs.declared.hardware.Code.{Code}
use Rattle.net_model.specs.declared.hardware.Netlist.{Netlist}
use Rattle.net_model.specs.declared.hardware.Storage.{Storage}
use Rattle.net_model.specs.CheckedRules.{CodeKeeps, KeepsRules}
use Rattle.net_model.specs.Nets.{IsRegister, word_width}
use Rattle.net_model.specs.Patterns.{Pattern}
use Rattle.net_model.proofs.WordWidths.{clean_below}
use Rattle.sym_expr.specs.declared.pool.Node.{Node}
use Rattle.transfer_set.specs.Ready.{IsReady}
use Rattle.transfer_set.specs.Rows.{row_patterns}
use Rattle.transfer_set.specs.Tables.{IsRow, PatternTable}
use Rattle.transfer_set.specs.declared.row.Row.{Row}
use Rattle.isa_extract.specs.Extraction.{IsExtractedFrom}
use Rattle.isa_extract.specs.declared.netlists.Isa.{Isa}
use Rattle.word_fit.specs.Fits.{IsLeastFit}
use Rattle.asm_text.specs.declared.line.Line.{Line}
use Rattle.asm_text.specs.declared.line.Line.TheVariants.{Raw, Do}
use Rattle.asm_text.specs.Lines.{LineFits}
use Rattle.asm_words.specs.Asked.{IsWordOfLine}
use Rattle.asm_words.specs.Tables.{HasExprs, HasLine, HasSets}
use Rattle.asm_command.specs.Machines.{Machine, move_texts}
use Rattle.asm_command.specs.Assembled.{HasLeastWord, IsWorded}
use Rattle.asm_command.specs.Inner.Tables.{IsLeastOf, KeepsPatterns, LacksWord, machine_of, row_texts}

-- ---- sets and expressions

all_by_index : (xs : List ℕ) (P : ℕ → Type 0) → ((k : ℕ) → k < length xs → P (slice_index xs k)) → All P xs
all_by_index xs P h k d lt = subst P (same xs k lt) (h k lt)
  where
    same : (xs : List ℕ) (k : ℕ) → k < length xs → slice_index xs k ≡ slice_index_or xs k d
    same [] k lt = absurd (omega (arith, lt))
    same (x ∷ xs) zero lt = refl
    same (x ∷ xs) (suc k) lt = same xs k (omega (arith, lt))

module _ (netlist : Netlist) (book : Diagrams) (pool : List Node) (table : PatternTable) (ready : IsReady netlist book pool table) where
  pub has_sets : HasSets book table
  has_sets = record {
    rows = All-weaker (IsRow netlist book pool) (λ (row : Row). row.set < length book.nodes) (λ row is. is.set.within) table.rows ready.patterns.rows;
    keeps = all_by_index table.keeps (λ (set : ℕ). set < length book.nodes) (λ k lt. (ready.patterns.keeps k (let long = ready.patterns.storages in omega arith)).within);
  }

  pub has_exprs : HasExprs pool table
  has_exprs = record {
    addrs = All-weaker (IsRow netlist book pool) _ (λ row is. is.addr) table.rows ready.patterns.rows;
    values = All-weaker (IsRow netlist book pool) (λ (row : Row). row.value < length pool) (λ row is. is.value) table.rows ready.patterns.rows;
  }

  -- ---- texts

  texts_from : (rows : List Row) → All (IsRow netlist book pool) rows → row_texts rows ≡ move_texts netlist (row_patterns pool rows)
  texts_from [] all = refl
  texts_from (row ∷ rows) all =
      let first = (All-head (IsRow netlist book pool) row rows all).told.text in
      let rest = texts_from rows (All-tail (IsRow netlist book pool) row rows all) in
      (λ k. first k ∷ rest k)

  pub texts_are : row_texts table.rows ≡ move_texts netlist (row_patterns pool table.rows)
  texts_are = texts_from table.rows ready.patterns.rows

-- ---- storages

-- a netlist has a storage, its program counter
pub some_storage : (netlist : Netlist) (order : List ℕ) → KeepsRules netlist order → 0 < length netlist.storages
some_storage netlist order rules = by netlist.codes rules.roles.code rules.formed.codes
  where
    some : (storages : List Storage) (id : ℕ) → IsRegister (slice_get storages id) → 0 < length storages
    some [] id h = absurd h
    some (storage ∷ storages) id h = omega arith

    by : (codes : List Code) → length codes ≡ 1 → AllByRecursion (CodeKeeps netlist) codes → 0 < length netlist.storages
    by [] one keeps = absurd (omega (arith, one))
    by (code ∷ codes) one keeps = some netlist.storages code.counter keeps.0.1

-- ---- lines

-- a line that fits the kept texts is one of the table
pub has_line : (table : PatternTable) (bits : ℕ) (line : Line) → LineFits (row_texts table.rows) bits line → HasLine bits table line
has_line table bits (Raw word) fits = fits
has_line table bits (Do numbers items) fits = (
  λ k d lt. (let n = fits.0 k d lt in let long = length-map table.rows (λ (row : Row). row.text.items) in omega arith),
  fits.2,
)

-- the words of a line that fits are below 2 to the code's bits
pub word_small : (netlist : Netlist) (order : List ℕ) → KeepsRules netlist order → (patterns : List Pattern) (texts : List (List ℕ)) (line : Line) → LineFits texts (word_width netlist) line → (word : ℕ) → IsWordOfLine netlist patterns line word → word < 2 ^ word_width netlist
word_small netlist order rules patterns texts (Raw own) fits word is = subst (λ (n : ℕ). n < 2 ^ word_width netlist) (sym is) fits
word_small netlist order rules patterns texts (Do numbers items) fits word does = clean_below netlist order rules word does.clean

-- ---- the least word of a set

pub record IsLeastIn (book : Diagrams) (id : ℕ) (found : Option ℕ) : Type 0 where
  pub within : IfSome found (λ word. word < 2 ^ book.bits)
  pub some : IfSome found (λ word. has_word book id word ≡ true)
  pub least : IfSome found (λ word. (other : ℕ) → has_word book id other ≡ true → word ≤ other)
  pub none : IfNone found ((word : ℕ) → has_word book id word ≡ false)

least_found : (P : ℕ → Type 0) (book : Diagrams) (id : ℕ) (found : Option ℕ) → IsLeastIn book id found → ((word : ℕ) → word < 2 ^ book.bits → has_word book id word ≡ true → P word) → ((word : ℕ) → P word → has_word book id word ≡ true) → MatchOption found ((word : ℕ) → P word → ⊥) (IsLeastFit P)
least_found P book id None l there back = λ word does. true≢false (sym (back word does) ∙ l.none word)
least_found P book id (Some word) l there back = record { is = there word l.within l.some; least = λ other does. l.least other (back other does) }

-- the least word of the set that was made for a line is the line's
pub least_of_line : (netlist : Netlist) (order : List ℕ) → KeepsRules netlist order → (extracted : Isa) → IsExtractedFrom netlist extracted → (line : Line) → LineFits (row_texts extracted.patterns.rows) (word_width netlist) line
    → (new : Diagrams) (set : ℕ) (found : Option ℕ) → Extends extracted.book new
    → ((n : Netlist) (pool : List Node) → IsReady n extracted.book pool extracted.patterns → (word : ℕ) → word < 2 ^ extracted.book.bits → (has_word new set word ≡ true) ↔ IsWordOfLine n (row_patterns pool extracted.patterns.rows) line word)
    → IsLeastIn new set found → IsLeastOf (machine_of netlist extracted) line found
least_of_line netlist order rules extracted from line fits new set found grows words l =
    least_found (IsWordOfLine netlist (row_patterns extracted.pool extracted.patterns.rows) line) new set found l
    (λ word lt h. (words netlist extracted.pool from.ready word (subst (λ (n : ℕ). word < 2 ^ n) grows.bits lt)).0 h)
    (λ word does.
    (let small = word_small netlist order rules (row_patterns extracted.pool extracted.patterns.rows) (row_texts extracted.patterns.rows) line fits word does in
    (words netlist extracted.pool from.ready word (subst (λ (n : ℕ). word < 2 ^ n) (sym from.ready.bits) small)).1 does))

-- ---- lists

pub take_next : {A : Type 0} (xs : List A) (n : ℕ) (x : A) → n < length xs → x ≡ slice_index_or xs n x → take (n + 1) xs ≡ take n xs ++ (x ∷ [])
take_next xs n x lt e = take_more xs n x lt ∙ ap (λ (z : _). take n xs ++ (z ∷ [])) (sym e)

-- one more image
pub map_next : {A B : Type 0} (f : A → B) (xs : List A) (n : ℕ) (y : B) → option_map f (slice_get xs n) ≡ Some y → map f (take (n + 1) xs) ≡ map f (take n xs) ++ (y ∷ [])
map_next {A = A} {B = B} f xs n y e = ap (λ (k : ℕ). map f (take k xs)) (add-one n) ∙ by xs n e
  where
    by : (xs : List A) (n : ℕ) → option_map f (slice_get xs n) ≡ Some y → map f (take (suc n) xs) ≡ map f (take n xs) ++ (y ∷ [])
    by [] n e = absurd cc
    by (x ∷ xs) zero e = ap (λ (z : B). z ∷ []) (same_Some (f x) y e)
    by (x ∷ xs) (suc n) e = ap (λ (zs : List B). f x ∷ zs) (by xs n e)

-- ---- words of lines

worded : (machine : Machine) (lines : List Line) (words : List ℕ) → AllZip (HasLeastWord machine) lines words → All (IsWorded machine) lines
worded machine [] words h = All-nil (IsWorded machine)
worded machine (line ∷ lines) [] h = absurd h
worded machine (line ∷ lines) (word ∷ words) h = All-cons (IsWorded machine) line lines (record { word = word; does = h.0.is }) (worded machine lines words h.1)

-- the line behind those that have their words has none
pub lacks_at : (machine : Machine) (lines : List Line) (n : ℕ) (line : Line) (words : List ℕ) → n < length lines → line ≡ slice_index_or lines n line → AllZip (HasLeastWord machine) (take n lines) words → IsLeastOf machine line None → LacksWord machine lines n
lacks_at machine lines n line words lt is least none = record {
  before = take n lines;
  line = line;
  after = drop (suc n) lines;
  parts =
      sym (take-append-drop n lines) ∙ ap (λ (rest : List Line). take n lines ++ rest) (drop-cons lines n line lt ∙ ap (λ (l : Line). l ∷ drop (suc n) lines) (sym is));
  place = simp length-take (omega arith);
  worded = worded machine (take n lines) words least;
  none = none;
}

-- one more word
pub least_next : (machine : Machine) (lines : List Line) (n : ℕ) (line : Line) (words : List ℕ) (word : ℕ) → n < length lines → line ≡ slice_index_or lines n line → AllZip (HasLeastWord machine) (take n lines) words → HasLeastWord machine line word → AllZip (HasLeastWord machine) (take (n + 1) lines) (words ++ (word ∷ []))
least_next machine lines n line words word lt is least one =
    subst (λ (ls : List Line). AllZip (HasLeastWord machine) ls (words ++ (word ∷ []))) (sym (take_next lines n line lt is)) (all_zipped_more (HasLeastWord machine) (take n lines) words line word least one)

-- the patterns that are kept are one machine's
pub kept_machine : (netlist : Netlist) (old new : Isa) → KeepsPatterns old new → machine_of netlist new ≡ machine_of netlist old
kept_machine netlist old new kept =
    let pool = kept.pool in
    let patterns = kept.patterns in
    (λ k. record { netlist = netlist; patterns = row_patterns (pool k) (patterns k).rows })

pub kept_on : (a b c : Isa) → KeepsPatterns a b → KeepsPatterns b c → KeepsPatterns a c
kept_on a b c p q = record { pool = q.pool ∙ p.pool; patterns = q.patterns ∙ p.patterns }
