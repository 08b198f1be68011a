-- Steps of one word with different destinations have different patterns.
use Rattle.std.proofs.Common.{◌≡◌, ◌≢◌, ℕ, ◌==◌, ◌&&◌, Bool, true, false, not, if◌then◌else◌, arith, List, [], ◌∷◌, Option, Some, None, slice_get, refl, sym, ◌∙◌, ap, subst}
use Rattle.std.specs.List.{All}
use Rattle.std.proofs.lemmas.Bool.{true≢false, eq-eqb, or_parts}
use Rattle.std.proofs.lemmas.List.Elements.{All-cons}
use Rattle.std.proofs.lemmas.List.Kept.{AllPairs-cons}
use Rattle.net_model.specs.Patterns.{Pattern}
use Rattle.form_model.specs.declared.forms.Step.{Step}
use Rattle.net_model.specs.declared.hardware.Netlist.{Netlist}
use Rattle.net_model.specs.declared.hardware.Space.{Space}
use Rattle.net_model.specs.declared.hardware.Space.TheVariants.{Memory as InMemory, File as InFile}
use Rattle.net_model.specs.Exprs.{TransferModel, keep, write, write_at}
use Rattle.net_model.specs.Symbolic.{no_state}
use Rattle.net_model.specs.Meaning.{mean}
use Rattle.form_model.specs.Shapes.{is_shape}
use Rattle.form_model.specs.Live.{Regs}
use Rattle.form_model.specs.Effects.{cell_at, some_cell, may_see, operation_of, operation_or_none, same_destination, space_in}
use Rattle.word_fit.specs.Fits.{Does, DoesAll, fits_over}
use Rattle.word_fit.specs.Groups.{AllHaveWords}
use Rattle.compaction.specs.Lists.{EachHasPatternsOnce, HasPatternsOnce, pattern_numbers}
use Rattle.compaction.specs.Packing.{EachDiffers, all_differ, shares_destination}
use Rattle.compaction.proofs.Differing.{differ_parts, step}

seen_self : (b : Bool) (v : ℕ) → may_see (if b then cell_at InFile v else some_cell InFile) (if b then cell_at InFile v else some_cell InFile) ≡ true
seen_self true v = eq-eqb v v refl
seen_self false v = refl

-- a step has its own destination
own : (storage : ℕ) (space : Space) (move : TransferModel) (setting : ℕ) → same_destination (step storage space move setting) (step storage space move setting) ≡ true
own storage space keep setting = eq-eqb storage storage refl
own storage space (write e) setting = eq-eqb storage storage refl
own storage InMemory (write_at a e) setting = refl
own storage InFile (write_at a e) setting = seen_self (is_shape a) (mean a no_state setting)

module _ (netlist : Netlist) (file : Option ℕ) (patterns : List Pattern) where
  -- one pattern has one setting under a word, and so one destination
  one_destination : (w : ℕ) (o : Option Pattern) (i j : ℕ) → Does netlist w (operation_or_none file o i) → Does netlist w (operation_or_none file o j) → same_destination (operation_or_none file o i) (operation_or_none file o j) ≡ true
  one_destination w None i j d e = absurd (d.changes refl)
  one_destination w (Some p) i j d e =
      let same : i ≡ j = sym d.setting ∙ e.setting in
      subst (λ k. same_destination (operation_or_none file (Some p) i) (operation_or_none file (Some p) k) ≡ true) same (own p.storage (space_in file p.storage) p.move i)

  apart : (w : ℕ) (x y : Step) → Does netlist w (operation_of file patterns x) → Does netlist w (operation_of file patterns y) → same_destination (operation_of file patterns x) (operation_of file patterns y) ≡ false → x.pattern ≢ y.pattern
  apart w x y d f e k =
      true≢false
      (sym (one_destination w (slice_get patterns x.pattern) x.setting y.setting d (subst (λ n. Does netlist w (operation_or_none file (slice_get patterns n) y.setting)) (sym k) f))
      ∙ ap (λ n. same_destination (operation_of file patterns x) (operation_or_none file (slice_get patterns n) y.setting)) k ∙ e)

  all_apart : (w : ℕ) (x : Step) (g : List Step) → Does netlist w (operation_of file patterns x) → DoesAll netlist (operation_of file patterns) w g → shares_destination (operation_of file patterns) (operation_of file patterns x) g ≡ false → All (λ n. x.pattern ≢ n) (pattern_numbers g)
  all_apart w x [] d f e = λ k c lt. absurd (omega (arith, lt))
  all_apart w x (y ∷ g) d f e =
      let p : (same_destination (operation_of file patterns x) (operation_of file patterns y) ≡ false) × (shares_destination (operation_of file patterns) (operation_of file patterns x) g ≡ false) = or_parts _ _ e in
      All-cons (λ n. x.pattern ≢ n) y.pattern (pattern_numbers g) (apart w x y d f.0 p.0) (all_apart w x g d f.1 p.1)

  once : (w : ℕ) (g : List Step) → DoesAll netlist (operation_of file patterns) w g → all_differ (operation_of file patterns) g ≡ true → HasPatternsOnce g
  once w [] d e = λ i j c less lt. absurd (omega (arith, lt))
  once w (x ∷ g) d e =
      let p : (shares_destination (operation_of file patterns) (operation_of file patterns x) g ≡ false) × (all_differ (operation_of file patterns) g ≡ true) = differ_parts (operation_of file patterns) x g e in
      AllPairs-cons (λ a b. a ≢ b) x.pattern (pattern_numbers g) (all_apart w x g d.0 d.1 p.0) (once w g d.1 p.1)

  pub each_once : (gs : List (List Step)) (after : Regs) → AllHaveWords (operation_of file patterns) (fits_over netlist (operation_of file patterns)) gs after → EachDiffers (operation_of file patterns) gs → EachHasPatternsOnce gs
  each_once [] after h e = tt
  each_once (g ∷ gs) after h e = (once h.0.0 g h.0.1.does e.0, each_once gs after h.1 e.1)
