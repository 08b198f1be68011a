-- What classes have as values, they have when the table grows.
use Rattle.std.proofs.Common.{ℕ, List, [], ◌∷◌, ◌∙◌, refl, arith}
use Rattle.tree_laws.specs.declared.classes.Classes.{Classes}
use Rattle.tree_laws.specs.Classes.{Grows}
use Rattle.class_values.specs.declared.facts.Fact.{Fact}
use Rattle.class_values.specs.Values.{AreFacts, Holds, HoldsWide}
use Rattle.class_values.proofs.Grown.{value_kept}

pub grows_same : (t : Classes) → Grows t t
grows_same t = record { bits = refl; longer = omega arith; widths = λ c h. refl; heads = λ c h. refl; listed = λ node c e. e }

pub grows_on : (a b d : Classes) → Grows a b → Grows b d → Grows a d
grows_on a b d g h = record {
  bits = h.bits ∙ g.bits;
  longer = omega (arith, g.longer, h.longer);
  widths = λ c l. h.widths c (omega (arith, l, g.longer)) ∙ g.widths c l;
  heads = λ c l. h.heads c (omega (arith, l, g.longer)) ∙ g.heads c l;
  listed = λ node c e. h.listed node c (g.listed node c e);
}

module _ (old new : Classes) (g : Grows old new) (memory : List ℕ) where
  pub holds_kept : (c n : ℕ) → Holds old memory c n → Holds new memory c n
  holds_kept c n h = record { below = omega (arith, h.below, g.longer); value = value_kept old new g memory c n h.below h.value }

  pub wide_kept : (c w n : ℕ) → HoldsWide old memory c w n → HoldsWide new memory c w n
  wide_kept c w n h = record { holds = holds_kept c n h.holds; width = g.widths c h.holds.below ∙ h.width }

  pub facts_kept : (facts : List Fact) → AreFacts old memory facts → AreFacts new memory facts
  facts_kept [] h = tt
  facts_kept (fact ∷ facts) h = (holds_kept fact.class fact.number h.0, facts_kept facts h.1)
