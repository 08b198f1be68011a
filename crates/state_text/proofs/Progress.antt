-- Going over the lines of a memory text.
use Rattle.std.proofs.Common.{◌≡◌, ℕ, ◌+◌, ◌-◌, List, [], ◌∷◌, ◌++◌, length, Option, Some, None, refl, sym, ap, subst, ◌∙◌, append_assoc, length-append, arith}
use Rattle.std.proofs.lemmas.List.{append-nil}
use Rattle.std.specs.List.{concat}
use Rattle.text_lines.proofs.Joined.{concat-snoc}
use Rattle.text_lines.specs.Lines.{lines_of, IsFirstLine}
use Rattle.net_model.specs.declared.hardware.Netlist.{Netlist}
use Rattle.net_model.specs.declared.states.State.{State}
use Rattle.net_model.specs.CheckedRules.{KeepsRules}
use Rattle.net_model.specs.MemoryText.{blank, SetsLine, AllLead, IsMemoryText, IsMemoryFault}
use Rattle.state_text.specs.declared.setting.Setting.{Setting}
use Rattle.state_text.specs.Settings.{IsStartState}
use Rattle.state_text.specs.Inner.Settings.{setting_of, with_setting}
use Rattle.state_text.proofs.Starts.{blank_start, keeps_start}
use Rattle.state_text.proofs.Told.{leads_of, nothing_told, setting_fits}

pub record Progress (netlist : Netlist) (still : Option ℕ) (bytes rest : List ℕ) (state : State) : Type 0 where
  pub before : List (List ℕ)
  pub lines : lines_of bytes ≡ before ++ lines_of rest
  pub good : AllLead netlist still (blank netlist.storages) before state
  pub place : length (concat before) + length rest ≡ length bytes
  pub start : IsStartState netlist state

pub begins : (netlist : Netlist) (still : Option ℕ) (bytes : List ℕ) → Progress netlist still bytes bytes (blank netlist.storages)
begins netlist still bytes = record { before = []; lines = refl; good = refl; place = omega arith; start = blank_start netlist }

one_more : (netlist : Netlist) (still : Option ℕ) (s t u : State) (xs : List (List ℕ)) (line : List ℕ) → AllLead netlist still s xs t → SetsLine netlist still t line u → AllLead netlist still s (xs ++ (line ∷ [])) u
one_more netlist still s t u [] line same leads = (u, subst (λ (from : State). SetsLine netlist still from line u) (sym same) leads, refl)
one_more netlist still s t u (x ∷ xs) line (next, first, more) leads = (next, first, one_more netlist still next t u xs line more leads)

pub goes_on : (netlist : Netlist) (still : Option ℕ) (bytes rest line more : List ℕ) (s : State) (setting : Setting) → Progress netlist still bytes rest s → IsFirstLine rest line more → setting_of netlist still line ≡ Some setting → Progress netlist still bytes more (with_setting s setting)
goes_on netlist still bytes rest line more s setting p first e = record {
  before = p.before ++ (line ∷ []);
  lines = p.lines ∙ ap (λ ls. p.before ++ ls) first.lines ∙ sym (append_assoc p.before (line ∷ []) (lines_of more));
  good = one_more netlist still (blank netlist.storages) s (with_setting s setting) p.before line p.good (leads_of netlist still s line setting e);
  place = omega (arith, p.place, concat-snoc p.before line, ap length first.parts, length-append line more);
  start = keeps_start netlist still s setting p.start (setting_fits netlist still line setting e);
}

pub stops : (netlist : Netlist) (still : Option ℕ) (order bytes rest line more : List ℕ) (s : State) → KeepsRules netlist order → Progress netlist still bytes rest s → IsFirstLine rest line more → setting_of netlist still line ≡ None → IsMemoryFault netlist still bytes (length bytes - length rest)
stops netlist still order bytes rest line more s rules p first e = record {
  before = p.before;
  line = line;
  after = lines_of more;
  state = s;
  lines = p.lines ∙ ap (λ ls. p.before ++ ls) first.lines;
  place = omega (arith, p.place);
  good = p.good;
  bad = nothing_told netlist still order rules line e;
}

pub ends : (netlist : Netlist) (still : Option ℕ) (bytes rest : List ℕ) (s : State) → Progress netlist still bytes rest s → rest ≡ [] → IsMemoryText netlist still bytes s
unfolding lines_of
ends netlist still bytes rest s p e =
    let all : lines_of bytes ≡ p.before = p.lines ∙ ap (λ r. p.before ++ lines_of r) e ∙ append-nil p.before in
    record { lead = subst (λ (lines : List (List ℕ)). AllLead netlist still (blank netlist.storages) lines s) (sym all) p.good }
