-- Lines of patterns, one after the other.
use Rattle.std.proofs.Common.{◌≡◌, ℕ, suc, ◌+◌, ◌^◌, ◌<◌, ◌≤◌, List, [], ◌∷◌, ◌++◌, drop, length, refl, subst, sym, ap, ◌∙◌, append_assoc, add-one}
use Rattle.std.specs.List.{slice_index_or, zip}
use Rattle.std.proofs.lemmas.List.{append-nil, drop_all, length-map}
use Rattle.std.proofs.Math.Seq.{drop-cons}
use Rattle.bit_bdd.specs.Diagrams.{Diagrams}
use Rattle.text_lines.specs.Digits.{bytes_of}
use Rattle.net_model.specs.declared.hardware.Netlist.{Netlist}
use Rattle.net_model.specs.CheckedRules.{KeepsRules}
use Rattle.net_model.specs.Patterns.{Pattern}
use Rattle.net_model.specs.Nets.{word_width}
use Rattle.sym_expr.specs.declared.pool.Node.{Node}
use Rattle.transfer_set.specs.declared.row.Row.{Row}
use Rattle.transfer_set.specs.PatternsText.{ArePatternWords, AreLines, IsLeastOf, IsLine, IsPatternsText, line_text, text_of}
use Rattle.transfer_set.specs.Rows.{row_pattern, row_patterns}
use Rattle.transfer_set.specs.Tables.{IsRow}
use Rattle.net_model.proofs.WordWidths.{clean_below}

-- the least word of a pattern's set is the least that gives its transfer
pub line_is : (netlist : Netlist) (order : List ℕ) → KeepsRules netlist order → (book : Diagrams) → book.bits ≡ word_width netlist → (pool : List Node) (number : ℕ) (row : Row) (word : ℕ) (line : List ℕ)
    → IsLeastOf book row.set word → line ≡ line_text number row.text.items (bytes_of (word_width netlist)) word
    → IsRow netlist book pool row → IsLine netlist number (row_pattern pool row) line
line_is netlist order kept book bits pool number row word line least e is = record {
  word = word;
  least = record {
    given = (is.whole word least.fits).0 least.holds;
    least = λ other given.
        let low = clean_below netlist order kept other given.clean in
        least.least other ((is.whole other (subst (λ b. other < 2 ^ b) (sym bits) low)).1 given);
  };
  is = e ∙ ap (λ transfer. line_text number transfer (bytes_of (word_width netlist)) word) is.told.text;
}

-- a line, and the lines behind it
lines_cons : (netlist : Netlist) (number : ℕ) (pattern : Pattern) (patterns : List Pattern) (line more : List ℕ)
    → IsLine netlist number pattern line → AreLines netlist (number + 1) patterns more
    → AreLines netlist number (pattern ∷ patterns) (line ++ more)
lines_cons netlist number pattern patterns line more first rest = record {
  words = first.word ∷ rest.words;
  least = (first.least, rest.least);
  is = λ j. first.is j ++ rest.is j;
}

-- what completes the lines with one more completes the whole, if what completes those before it
-- does
pub lines_on : (netlist : Netlist) (pool : List Node) (rows : List Row) (number : ℕ) (none : Row) → number < length rows
    → (before line after : List ℕ) → IsLine netlist number (row_pattern pool (slice_index_or rows number none)) line
    → ((more : List ℕ) → AreLines netlist number (row_patterns pool (drop number rows)) more → AreLines netlist 0 (row_patterns pool rows) (before ++ more))
    → after ≡ before ++ line
    → (more : List ℕ) → AreLines netlist (number + 1) (row_patterns pool (drop (number + 1) rows)) more → AreLines netlist 0 (row_patterns pool rows) (after ++ more)
lines_on netlist pool rows number none within before line after one completes e more rest =
    let row : Row = slice_index_or rows number none in
    let parts : drop number rows ≡ row ∷ drop (number + 1) rows = rw (add-one number) (drop-cons rows number none within) in
    let longer = lines_cons netlist number (row_pattern pool row) (row_patterns pool (drop (number + 1) rows)) line more one rest in
    let here = subst (λ rs. AreLines netlist number (row_patterns pool rs) (line ++ more)) (sym parts) longer in
    subst (AreLines netlist 0 (row_patterns pool rows)) (sym (ap (λ text. text ++ more) e ∙ append_assoc before line more)) (completes (line ++ more) here)

-- behind the last pattern nothing is left to complete
pub lines_end : (netlist : Netlist) (pool : List Node) (rows : List Row) (number : ℕ) → length rows ≤ number
    → (lines : List ℕ) → ((more : List ℕ) → AreLines netlist number (row_patterns pool (drop number rows)) more → AreLines netlist 0 (row_patterns pool rows) (lines ++ more))
    → AreLines netlist 0 (row_patterns pool rows) lines
lines_end netlist pool rows number past lines completes =
    let none : AreLines netlist number [] [] = record { words = []; least = tt; is = refl } in
    let here = subst (λ rs. AreLines netlist number (row_patterns pool rs) []) (sym (drop_all number rows past)) none in
    subst (AreLines netlist 0 (row_patterns pool rows)) (append-nil lines) (completes [] here)

-- there is a word for each pattern
length-words : (netlist : Netlist) (patterns : List Pattern) (words : List ℕ) → ArePatternWords netlist patterns words → length (zip patterns words) ≡ length patterns
length-words netlist [] [] h = refl
length-words netlist [] (word ∷ words) h = absurd h
length-words netlist (pattern ∷ patterns) [] h = absurd h
length-words netlist (pattern ∷ patterns) (word ∷ words) h = ap suc (length-words netlist patterns words h.1)

-- the lines between the count and the end
pub text_whole : (netlist : Netlist) (pool : List Node) (rows : List Row) (lines text : List ℕ) → AreLines netlist 0 (row_patterns pool rows) lines
    → text ≡ text_of (length rows) lines
    → IsPatternsText netlist (row_patterns pool rows) text
text_whole netlist pool rows lines text h e =
    let count = sym (length-words netlist (row_patterns pool rows) h.words h.least ∙ length-map rows (row_pattern pool)) in
    record {
      words = h.words;
      least = h.least;
      is = e ∙ (λ j. text_of (count j) (h.is j));
    }
