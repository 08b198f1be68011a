-- What the forms that keep the mode give, which are forms of the netlist.
use Rattle.std.proofs.Common.{None, ℕ, ◌≡◌, ◌≤◌, ◌<◌, true, List, Option, Some, refl, sym, subst, ◌∙◌, slice_get}
use Rattle.net_model.specs.declared.hardware.Netlist.{Netlist}
use Rattle.net_model.specs.CheckedRules.{KeepsRules}
use Rattle.net_model.specs.Nets.{memory_width, word_width, size_in}
use Rattle.net_model.specs.Patterns.{ArePatterns, Pattern}
use Rattle.net_model.proofs.WordWidths.{has_bits}
use Rattle.form_model.specs.Forms.{FormModel, GoalModel, into_reg, into_memory, into_file, jumps, branches}
use Rattle.form_set.specs.Listing.{AreForms, greatest_reach}
use Rattle.mode_set.specs.Keeping.{AreKeeping, FormKeepsMode, IsModeRegister, GoalKeeps}
use Rattle.right_code.specs.Inner.Known.{AreKnown}
use Rattle.right_code.specs.Inner.Laid.{AreTurns}
use Rattle.right_code.proofs.Known.{known_of}
use Rattle.right_code.proofs.Listed.{all_read, are_formed, are_shared}
use Rattle.right_code.proofs.Kept.{ArePart, kept_form, part_of}
use Rattle.right_code.proofs.Made.{FormsGive}
use Rattle.right_code.proofs.Turns.{turn_can, turns_of}
use Rattle.right_code.proofs.Jumping.{AllTurn, TurnsWith}
use Rattle.form_set.specs.Promises.{is_control_goal}
use Rattle.form_set.specs.Words.{CanJump, ForEachSetting, WordKeepsBoth}
use Rattle.net_model.specs.Fields.{transfer_fields}
use Rattle.net_model.specs.declared.hardware.Space.TheVariants.{File as InFile}

module _ (netlist : Netlist) (order : List ℕ) (keeps : KeepsRules netlist order) (patterns : List Pattern) (are : ArePatterns netlist patterns) (all : List FormModel) (most : ℕ) (forms : AreForms netlist patterns all most) (o : Option ℕ) (kept : List FormModel) (keeping : AreKeeping netlist patterns o all kept) where
  pub some : 0 < word_width netlist
  some = has_bits netlist order keeps

  pub known : AreKnown netlist patterns
  known = known_of netlist order keeps patterns are

  pub part : ArePart kept all
  part k form at = part_of netlist patterns o all kept keeping k form at

  -- what the forms that keep the mode give to steps, and to jumps and branches
  pub given_forms : FormsGive netlist patterns (memory_width netlist.storages) (size_in InFile netlist.storages) kept
  given_forms = record {
    formed = λ k form at. (let p = part k form at in are_formed netlist order keeps some patterns known most all forms.list p.0 form p.1);
    shared = λ j k a b ha hb e. (let p = part j a ha in let q = part k b hb in are_shared netlist order keeps some patterns known most all forms.list p.0 q.0 a b p.1 q.1 e);
    reads = λ k form at. (let p = part k form at in all_read netlist order keeps some patterns known most all forms.list p.0 form p.1);
  }

  pub given_turns : 1 ≤ greatest_reach kept → AreTurns netlist patterns kept (greatest_reach kept)
  given_turns l = turns_of netlist order keeps some patterns known most all forms kept (greatest_reach kept) part refl l

  -- ---- words of jumps and branches

  own_pattern : (a b : Pattern) (form : FormModel) → slice_get patterns form.pattern ≡ Some a → slice_get patterns form.pattern ≡ Some b → a ≡ b
  own_pattern a b form p q = one a b (sym p ∙ q)
    where
      one : (a b : Pattern) → Some a ≡ Some b → a ≡ b
      one a b e = cc

  turn_keeps : (p : Option ℕ) → IsModeRegister p netlist → (form : FormModel) → FormKeepsMode netlist patterns p form → is_control_goal form.goal ≡ true → (pattern : Pattern) → slice_get patterns form.pattern ≡ Some pattern
      → CanJump netlist pattern → ForEachSetting (transfer_fields pattern.move) (TurnsWith netlist p pattern)
  turn_keeps None has form f g pattern at can = λ setting is. (let w = can setting is in (w.0, w.1, record { given = w.2.given; memory = w.2.memory; mode = tt }))
  turn_keeps (Some mode) has form f g pattern at can = λ setting is.
      let both : ForEachSetting (transfer_fields f.pattern.move) (WordKeepsBoth netlist f.pattern mode) = of_goal form.goal g f.keeps in
      let own : ForEachSetting (transfer_fields pattern.move) (WordKeepsBoth netlist pattern mode) = subst (λ (q : Pattern). ForEachSetting (transfer_fields q.move) (WordKeepsBoth netlist q mode)) (own_pattern f.pattern pattern form f.at at) both in
      let w = own setting is in
      (w.0, w.1, record { given = w.2.given; memory = w.2.memory; mode = (has, w.2.special) })
    where
      of_goal : (k : GoalModel) → is_control_goal k ≡ true → GoalKeeps netlist f.pattern mode form k → ForEachSetting (transfer_fields f.pattern.move) (WordKeepsBoth netlist f.pattern mode)
      of_goal (into_reg id) e h = absurd (cc e)
      of_goal into_memory e h = absurd (cc e)
      of_goal into_file e h = absurd (cc e)
      of_goal (jumps reach) e h = h
      of_goal (branches when_one to) e h = h

  pub given_words : IsModeRegister o netlist → AllTurn netlist o patterns kept
  given_words has k form at g =
      let p = part k form at in
      let c = turn_can netlist order keeps some patterns known most all forms p.0 form p.1 g in
      record { pattern = c.pattern; at = c.at; is = c.is; can = turn_keeps o has form (kept_form netlist patterns o all kept keeping k form at) g c.pattern c.at c.can }
