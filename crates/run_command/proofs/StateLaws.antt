-- A fault of a memory text is at one place, and a memory text has none.
use Rattle.std.proofs.Common.{◌≡◌, ℕ, ◌<◌, List, [], ◌∷◌, ◌++◌, length, Option, inl, inr, sym, ap, subst, ◌∙◌, arith, length-append}
use Rattle.std.specs.List.{concat}
use Rattle.std.proofs.lemmas.Bool.{cases_lt}
use Rattle.std.proofs.lemmas.List.{append-nil}
use Rattle.std.proofs.lemmas.Option.{same_Some}
use Rattle.text_lines.specs.Lines.{lines_of}
use Rattle.net_model.specs.declared.hardware.Netlist.{Netlist}
use Rattle.net_model.specs.declared.states.State.{State}
use Rattle.net_model.specs.CheckedRules.{KeepsRules}
use Rattle.net_model.specs.ModeRules.{base_at, KeepsModes}
use Rattle.net_model.proofs.BaseTexts.{text_at_base}
use Rattle.net_model.proofs.ModeFaults.{first_keeps}
use Rattle.net_model.specs.MemoryText.{blank, SetsLine, AllLead, SetsNothing, IsMemoryText, IsMemoryFault}
use Rattle.state_text.specs.Inner.Settings.{with_setting}
use Rattle.state_text.proofs.Told.{leads_told}
use Rattle.run_command.proofs.ImageLaws.{cut}

module _ (netlist : Netlist) (still : Option ℕ) where
  no_lead : (s t : State) (line : List ℕ) → SetsNothing netlist still line → SetsLine netlist still s line t → ⊥
  no_lead s t line none (inl (id, value, h, e)) = none.no_register id value h
  no_lead s t line none (inr (space, address, value, h, e)) = none.no_cell space address value h

  -- lines that lead on have no line among them that sets nothing
  all_set : (s : State) (before : List (List ℕ)) (line : List ℕ) (behind : List (List ℕ)) (t : State) → AllLead netlist still s (before ++ line ∷ behind) t → SetsNothing netlist still line → ⊥
  all_set s [] line behind t (next, leads, more) none = no_lead s next line none leads
  all_set s (first ∷ before) line behind t (next, leads, more) none = all_set next before line behind t more none

  -- a line leads to one state
  one_lead : (order : List ℕ) → KeepsRules netlist order → (s t u : State) (line : List ℕ) → SetsLine netlist still s line t → SetsLine netlist still s line u → t ≡ u
  one_lead order rules s t u line p q =
      let a = leads_told netlist still order rules s line t p in
      let b = leads_told netlist still order rules s line u q in
      a.state ∙ (ap (with_setting s) (same_Some a.setting b.setting (sym a.read ∙ b.read)) ∙ sym b.state)

  all_one : (order : List ℕ) → KeepsRules netlist order → (lines : List (List ℕ)) (s t u : State) → AllLead netlist still s lines t → AllLead netlist still s lines u → t ≡ u
  all_one order rules [] s t u p q = sym p ∙ q
  all_one order rules (line ∷ lines) s t u p q =
      let same : p.0 ≡ q.0 = one_lead order rules s p.0 q.0 line p.1 q.1 in
      all_one order rules lines q.0 t u (subst (λ (next : State). AllLead netlist still next lines t) same p.2) q.2

  module _ (bytes : List ℕ) where
    pub no_state_fault : (s : State) (at : ℕ) → IsMemoryText netlist still bytes s → IsMemoryFault netlist still bytes at → ⊥
    no_state_fault s at text fault =
        all_set (blank netlist.storages) fault.before fault.line fault.after s (subst (λ (lines : List (List ℕ)). AllLead netlist still (blank netlist.storages) lines s) fault.lines text.lead) fault.bad

    pub one_state : (order : List ℕ) → KeepsRules netlist order → (s t : State) → IsMemoryText netlist still bytes s → IsMemoryText netlist still bytes t → s ≡ t
    one_state order rules s t p q = all_one order rules (lines_of bytes) (blank netlist.storages) s t p.lead q.lead

    -- a fault isn't behind another one
    not_behind : (a b : ℕ) (p : IsMemoryFault netlist still bytes a) (q : IsMemoryFault netlist still bytes b) → length p.before < length q.before → ⊥
    not_behind a b p q lt =
        let m = cut p.before (p.line ∷ p.after) q.before (q.line ∷ q.after) (sym p.lines ∙ q.lines) (omega arith) in
        go m.0 m.1 m.2
      where
        go : (m : List (List ℕ)) → q.before ≡ p.before ++ m → p.line ∷ p.after ≡ m ++ (q.line ∷ q.after) → ⊥
        go [] same rest = omega (arith, lt, ap length (same ∙ append-nil p.before))
        go (line ∷ m) same rest =
            let e : p.line ≡ line = cc in
            all_set (blank netlist.storages) p.before line m q.state (subst (λ (lines : List (List ℕ)). AllLead netlist still (blank netlist.storages) lines q.state) same q.good) (subst (SetsNothing netlist still) e p.bad)

    same_front : (a b : ℕ) (p : IsMemoryFault netlist still bytes a) (q : IsMemoryFault netlist still bytes b) → length p.before ≡ length q.before → a ≡ b
    same_front a b p q same =
        let m = cut p.before (p.line ∷ p.after) q.before (q.line ∷ q.after) (sym p.lines ∙ q.lines) (omega arith) in
        sym p.place ∙ (ap (λ (ls : List (List ℕ)). length (concat ls)) (fronts m.0 m.1 (omega (arith, same, ap length m.1, length-append p.before m.0))) ∙ q.place)
      where
        fronts : (m : List (List ℕ)) → q.before ≡ p.before ++ m → length m ≡ 0 → p.before ≡ q.before
        fronts [] e none = sym (e ∙ append-nil p.before)
        fronts (line ∷ m) e none = absurd (omega arith)

    pub one_state_fault : (a b : ℕ) → IsMemoryFault netlist still bytes a → IsMemoryFault netlist still bytes b → a ≡ b
    one_state_fault a b p q = elim (cases_lt (length p.before) (length q.before)) [
      | inl lt ↦ absurd (not_behind a b p q lt)
      | inr le ↦ elim (cases_lt (length q.before) (length p.before)) [
        | inl more ↦ absurd (not_behind b a q p more)
        | inr also ↦ same_front a b p q (omega arith)
      ]
    ]

-- a memory text says one state of a netlist that keeps the rules in its modes
pub one_moded_state : (netlist : Netlist) → KeepsModes netlist → (still : Option ℕ) (bytes : List ℕ) (s t : State) → IsMemoryText netlist still bytes s → IsMemoryText netlist still bytes t → s ≡ t
one_moded_state netlist keeps still bytes s t p q =
    let first = first_keeps netlist keeps in
    one_state (base_at netlist 0) still bytes first.order first.rules s t (text_at_base netlist 0 still bytes s p) (text_at_base netlist 0 still bytes t q)
