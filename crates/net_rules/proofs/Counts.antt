-- Sums that stop at 2^64 - 1.
use Rattle.std.proofs.Common.{ℕ, ◌≡◌, ◌+◌, ◌-◌, ◌^◌, ◌≤◌, min, List, [], map, drop, length, Option, Some, None, option_map, slice_get, refl, ap, sym, ◌∙◌, arith}
use Rattle.std.proofs.lemmas.List.{drop_all}
use Rattle.std.proofs.lemmas.Option.{slice_get-map}
use Rattle.grammar.specs.declared.words.Ident.{Ident}
use Rattle.net_model.specs.declared.units.Unit.{Unit as Item}
use Rattle.net_model.specs.Written.{NetExprModel, model_of_unit}
use Rattle.net_model.specs.TextNames.{item_named, place_named}
use Rattle.net_model.specs.TextWidths.{ports_of}
use Rattle.net_model.specs.Numbering.{count_inputs}
use Rattle.rec_bits.specs.Counts.{capped}
use Rattle.net_rules.specs.Inner.Counts.{count_module, capped_module, count_part_of, Counted}

pub told_sum : (a b : ℕ) → min (capped a + capped b) (2 ^ 64 - 1) ≡ capped (a + b)
told_sum a b = omega arith

-- a total, at the end of a list
pub counted_last : {A : Type 0} (f : List A → ℕ) (xs : List A) (i total all : ℕ) → f [] ≡ 0 → length xs ≤ i → Counted total (f (drop i xs)) all → total ≡ capped all
counted_last f xs i total all none h k =
    let rest : f (drop i xs) ≡ 0 = ap f (drop_all i xs h) ∙ none in
    omega (arith, k.0, k.1, rest)

pub ruleset counts = (told_sum)

-- what the table of modules says of the item at a place
pub module_some : (items : List Item) (n k : ℕ) → Some k ≡ slice_get (map capped_module items) n → k ≡ capped (count_module (slice_get (map model_of_unit items) n))
module_some items n k found =
    by (slice_get items n) (found ∙ slice_get-map capped_module items n) ∙ ap (λ e. capped (count_module e)) (sym (slice_get-map model_of_unit items n))
  where
    by : (item : Option Item) → Some k ≡ option_map capped_module item → k ≡ capped (count_module (option_map model_of_unit item))
    by None h = absurd (cc h)
    by (Some item) h = cc h

pub module_none : (items : List Item) (n : ℕ) → None ≡ slice_get (map capped_module items) n → count_module (slice_get (map model_of_unit items) n) ≡ 0
module_none items n found =
    ap count_module (slice_get-map model_of_unit items n) ∙ by (slice_get items n) (found ∙ slice_get-map capped_module items n)
  where
    by : (item : Option Item) → None ≡ option_map capped_module item → count_module (option_map model_of_unit item) ≡ 0
    by None h = refl
    by (Some item) h = absurd (cc h)

-- the inputs of a part, and what the table has of its module
module _ (text : List Item) (owner : Ident) (links : List (Ident × NetExprModel)) (inputs n : ℕ)
    (inputs_is : inputs ≡ capped (count_inputs links (ports_of (item_named (map model_of_unit text) owner.name)))) (n_is : n ≡ place_named (map model_of_unit text) owner.name) where
  whole : count_part_of (map model_of_unit text) owner links
      ≡ count_inputs links (ports_of (item_named (map model_of_unit text) owner.name)) + count_module (item_named (map model_of_unit text) owner.name)
  whole = omega arith

  pub part_some : (outputs total : ℕ) → Some outputs ≡ slice_get (map capped_module text) n → total ≡ min (inputs + outputs) (2 ^ 64 - 1) → total ≡ capped (count_part_of (map model_of_unit text) owner links)
  part_some outputs total found sum =
      let is : outputs ≡ capped (count_module (item_named (map model_of_unit text) owner.name)) = module_some text n outputs found ∙ ap (λ k. capped (count_module (slice_get (map model_of_unit text) k))) n_is in
      omega (arith, whole, is, inputs_is, sum)

  pub part_none : None ≡ slice_get (map capped_module text) n → inputs ≡ capped (count_part_of (map model_of_unit text) owner links)
  part_none found =
      let none : count_module (item_named (map model_of_unit text) owner.name) ≡ 0 = sym (ap (λ k. count_module (slice_get (map model_of_unit text) k)) n_is) ∙ module_none text n found in
      omega (arith, whole, none, inputs_is)
