-- The line that is shown of a word is of the form: its patterns are of different storages, and its
-- items have bits of the word.
use Rattle.std.proofs.Common.{◌≡◌, inl, inr, ℕ, zero, suc, ◌+◌, ◌-◌, ◌^◌, ◌<◌, ◌≤◌, List, [], ◌∷◌, ◌++◌, length, map, Option, Some, None, slice_get, slice_index_or, sym, ap, subst, ◌∙◌, arith}
use Rattle.std.specs.Prelude.{All}
use Rattle.std.specs.List.{AllByRecursion}
use Rattle.std.proofs.lemmas.List.{length-map}
use Rattle.std.proofs.lemmas.List.Elements.{All-append, All-cons, All-filter, All-from_recursion, All-head, All-map, All-nil, All-tail, All-weaker}
use Rattle.std.proofs.lemmas.Nat.{pow_pos}
use Rattle.std.proofs.lemmas.Option.{slice_get_cases}
use Rattle.net_model.specs.declared.hardware.Netlist.{Netlist}
use Rattle.net_model.specs.CheckedRules.{KeepsRules}
use Rattle.net_model.specs.Nets.{word_width}
use Rattle.net_model.specs.Patterns.{ArePatterns, IsPattern, IsPatternBefore, Pattern}
use Rattle.net_model.specs.Exprs.{ExprModel, word, reg, const, read, un, bin, slice, cat, zext, sext, select, TransferModel, keep, write, write_at}
use Rattle.net_model.specs.Texts.{text_of_transfer}
use Rattle.net_model.specs.Transfers.{transfer_at}
use Rattle.net_model.proofs.KeptRules.{sound_of}
use Rattle.sym_expr.specs.Pools.{ExprFits}
use Rattle.transfer_set.specs.Inner.Widths.{TransferFits}
use Rattle.transfer_set.specs.TextMarks.{HasPlainNames, IsTransferOf, IsExprOf}
use Rattle.transfer_set.proofs.OnePatterns.{one_way}
use Rattle.transfer_set.proofs.TermsFit.{move_fits}
use Rattle.transfer_set.proofs.TermsOf.{move_exprs}
use Rattle.isa_extract.proofs.PlainNames.{HasSpelledNames}
use Rattle.asm_text.specs.declared.line.Line.{Line}
use Rattle.asm_text.specs.declared.line.Line.TheVariants.{Raw, Do}
use Rattle.asm_text.specs.Lines.{ItemFits, LineFits, NameApart, storage_in}
use Rattle.asm_words.specs.Asked.{Gives}
use Rattle.asm_words.specs.Shown.{IsLineOf, item_of}
use Rattle.asm_words.specs.Slices.{is_other, line_slices, transfer_slices, once, pattern_slices, slices}
use Rattle.asm_words.specs.declared.slices.Slice.{Slice}
use Rattle.asm_command.specs.Machines.{move_texts}
use Rattle.asm_command.proofs.PatternTexts.{same_storage, text_at}

-- ---- slices of the word

-- bits of a word of so many
record SliceFits (bits : ℕ) (s : Slice) : Type 0 where
  order : s.lo ≤ s.hi
  within : s.hi < bits

module _ (netlist : Netlist) where
  abbrev Fit : List Slice → Type 0
  Fit ss = All (SliceFits (word_width netlist)) ss

  none_fit : Fit []
  none_fit = All-nil (SliceFits (word_width netlist))

  both_fit : (xs ys : List Slice) → Fit xs → Fit ys → Fit (xs ++ ys)
  both_fit xs ys p q = All-append (SliceFits (word_width netlist)) xs ys p q

  one_fits : (s : Slice) → SliceFits (word_width netlist) s → Fit (s ∷ [])
  one_fits s p = All-cons (SliceFits (word_width netlist)) s [] p none_fit

  slices_fit : (t : ExprModel) → ExprFits t → IsExprOf netlist t → Fit (slices t)
  slices_fit (word w) f is = one_fits (record { hi = w - 1; lo = 0 }) (record { order = omega arith; within = (let some = f.0 in omega arith) })
  slices_fit (reg r w) f is = none_fit
  slices_fit (const w v) f is = none_fit
  slices_fit (read space a w) f is = slices_fit a f.0 is.0
  slices_fit (un o a) f is = slices_fit a f is
  slices_fit (bin o a b) f is = both_fit (slices a) (slices b) (slices_fit a f.0 is.0) (slices_fit b f.1 is.1)
  slices_fit (slice (word w) hi lo) f is =
      (let order = f.1.0 in let within = f.1.1 in let wide = is.0 in
      one_fits (record { hi = hi; lo = lo }) (record { order = order; within = omega arith }))
  slices_fit (slice a hi lo) f is = slices_fit a f.0 is.0
  slices_fit (cat a b) f is = both_fit (slices a) (slices b) (slices_fit a f.0 is.0) (slices_fit b f.1 is.1)
  slices_fit (zext a w) f is = slices_fit a f.0 is.0
  slices_fit (sext a w) f is = slices_fit a f.0 is.0
  slices_fit (select c a b) f is =
      both_fit (slices c) (slices a ++ slices b) (slices_fit c f.0 is.0)
      (both_fit (slices a) (slices b) (slices_fit a f.1 is.1) (slices_fit b f.2 is.2))

  transfer_slices_fit : (m : TransferModel) → TransferFits m → IsTransferOf netlist m → Fit (transfer_slices m)
  transfer_slices_fit keep f is = none_fit
  transfer_slices_fit (write e) f is = slices_fit e f is
  transfer_slices_fit (write_at a e) f is = both_fit (slices a) (slices e) (slices_fit a f.0 is.0) (slices_fit e f.1 is.1)

  once_fit : (ss : List Slice) → Fit ss → Fit (once ss)
  once_fit [] f = none_fit
  once_fit (s ∷ ss) f =
      All-cons (SliceFits (word_width netlist)) s _ (All-head (SliceFits (word_width netlist)) s ss f)
      (All-filter (is_other s) (SliceFits (word_width netlist)) (once ss) (once_fit ss (All-tail (SliceFits (word_width netlist)) s ss f)))

  -- ---- items

  item_fits : (i : ℕ) (s : Slice) → SliceFits (word_width netlist) s → ItemFits (word_width netlist) (item_of i s)
  item_fits i s f = record {
    order = f.order;
    within = f.within;
    value = (let some = pow_pos (s.hi + 1 - s.lo) in omega arith);
  }

  items_fit : (i : ℕ) (ss : List Slice) → Fit ss → All (ItemFits (word_width netlist)) (map (item_of i) ss)
  items_fit i ss f = All-map (ItemFits (word_width netlist)) (item_of i) ss (All-weaker (SliceFits (word_width netlist)) (λ s. ItemFits (word_width netlist) (item_of i s)) (item_fits i) ss f)

module _ (netlist : Netlist) (order : List ℕ) (rules : KeepsRules netlist order) (names : HasSpelledNames netlist) (plain : HasPlainNames netlist) (patterns : List Pattern) (are : ArePatterns netlist patterns) (i : ℕ) where
  -- a pattern that the word gives stands at its number
  record Given (n : ℕ) : Type 0 where
    pattern : Pattern
    at : slice_get patterns n ≡ Some pattern
    within : n < length patterns
    here : (d : Pattern) → slice_index_or patterns n d ≡ pattern
    gives : transfer_at netlist i pattern.storage ≡ pattern.move

  given : (n : ℕ) → Gives netlist i (slice_get patterns n) → Given n
  given n g =
      elim (slice_get_cases patterns n).1 as (λ _. Given n) [
        | inl found ↦ record {
          pattern = found.0;
          at = found.2;
          within = found.1;
          here = λ d. at_any patterns n found.0 d found.1 found.3;
          gives = subst (Gives netlist i) found.2 g;
        }
        | inr past ↦ absurd (subst (Gives netlist i) past.1 g)
      ]
    where
      at_any : (xs : List Pattern) (n : ℕ) (x d : Pattern) → n < length xs → slice_index_or xs n x ≡ x → slice_index_or xs n d ≡ x
      at_any [] n x d lt e = absurd (omega (arith, lt))
      at_any (y ∷ xs) zero x d lt e = e
      at_any (y ∷ xs) (suc n) x d lt e = at_any xs n x d (omega (arith, lt)) e

  is_pattern : (n : ℕ) (g : Given n) → IsPattern netlist g.pattern
  is_pattern n g = subst (IsPattern netlist) (g.here g.pattern) (are.each n g.pattern g.within)

  -- two that a word gives are of different storages
  apart : (m n : ℕ) → m < n → Given m → Given n → NameApart (move_texts netlist patterns) m n
  apart m n lt a b e =
      let p = is_pattern m a in
      let q = is_pattern n b in
      let text_a = text_at netlist order rules names plain patterns are m a.pattern a.at in
      let text_b = text_at netlist order rules names plain patterns are n b.pattern b.at in
      let s = same_storage netlist order rules names plain a.pattern b.pattern p q (sym (ap storage_in text_a) ∙ e ∙ ap storage_in text_b) in
      let moves : a.pattern.move ≡ b.pattern.move = sym a.gives ∙ ap (transfer_at netlist i) s ∙ b.gives in
      let same : a.pattern ≡ b.pattern = (λ k. record { storage = s k; move = moves k }) in
      let ordered : IsPatternBefore netlist (slice_index_or patterns m a.pattern) (slice_index_or patterns n a.pattern) = are.ordered m n a.pattern lt b.within in
      let before : IsPatternBefore netlist a.pattern b.pattern = subst (λ (x : Pattern). IsPatternBefore netlist x b.pattern) (a.here a.pattern) (subst (IsPatternBefore netlist (slice_index_or patterns m a.pattern)) (b.here a.pattern) ordered) in
      let back : IsPatternBefore netlist b.pattern a.pattern = subst (λ (x : Pattern). IsPatternBefore netlist x a.pattern) same (subst (IsPatternBefore netlist a.pattern) (sym same) before) in
      one_way netlist a.pattern b.pattern before back

  pattern_fits : (o : Option Pattern) → Gives netlist i o → Fit netlist (pattern_slices o)
  pattern_fits None g = absurd g
  pattern_fits (Some p) g =
      transfer_slices_fit netlist p.move (subst TransferFits g (move_fits netlist (sound_of netlist order rules) i p.storage))
      (subst (IsTransferOf netlist) g (move_exprs netlist order rules i p.storage))

  line_fits_slices : (numbers : List ℕ) → AllByRecursion (λ n. Gives netlist i (slice_get patterns n)) numbers → Fit netlist (line_slices patterns numbers)
  line_fits_slices [] g = none_fit netlist
  line_fits_slices (n ∷ ns) g =
      both_fit netlist (pattern_slices (slice_get patterns n)) (line_slices patterns ns) (pattern_fits (slice_get patterns n) g.0) (line_fits_slices ns g.1)

  pub shown_fits : (bits : ℕ) → bits ≡ word_width netlist → i < 2 ^ bits → (line : Line) → IsLineOf netlist patterns i line → LineFits (move_texts netlist patterns) bits line
  shown_fits bits wide lt (Raw own) shown = subst (λ (n : ℕ). n < 2 ^ bits) (sym shown.is) lt
  shown_fits bits wide lt (Do numbers items) shown =
      let all = All-from_recursion (λ n. Gives netlist i (slice_get patterns n)) numbers shown.gives in (
        λ k d h. (let g = given (slice_index_or numbers k d) (all k d h) in let w = g.within in let long = length-map patterns (λ (p : Pattern). text_of_transfer netlist p.storage p.move) in omega arith),
        λ j k d less h. apart (slice_index_or numbers j d) (slice_index_or numbers k d) (shown.ascend j k d less h) (given _ (all j d (omega (arith, less, h)))) (given _ (all k d h)),
        subst (All (ItemFits bits)) (sym shown.bits) (subst (λ (n : ℕ). All (ItemFits n) (map (item_of i) (once (line_slices patterns numbers)))) (sym wide) (items_fit netlist i (once (line_slices patterns numbers)) (once_fit netlist (line_slices patterns numbers) (line_fits_slices numbers shown.gives)))),
      )
