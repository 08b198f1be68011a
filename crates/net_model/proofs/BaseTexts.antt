-- What memory texts say of a netlist they say of what it is in a mode, and the other way.
use Rattle.std.proofs.Common.{ℕ, List, [], ◌∷◌, Option, Some, None, inl, inr}
use Rattle.net_model.specs.declared.hardware.Netlist.{Netlist}
use Rattle.net_model.specs.declared.hardware.Space.{Space}
use Rattle.net_model.specs.declared.states.State.{State}
use Rattle.net_model.specs.MemoryText.{SetsRegister, SetsCell, SetsNothing, SetsLine, AllLead, IsMemoryText, IsMemoryFault}
use Rattle.net_model.specs.Fixed.{fixed_of, in_mode}
use Rattle.net_model.specs.ModeRules.{base_at}

module _ (netlist : Netlist) (mode v : ℕ) (still : Option ℕ) where
  abbrev fixed : Netlist
  fixed = fixed_of mode v netlist

  register_from : (line : List ℕ) (id value : ℕ) → SetsRegister fixed still line id value → SetsRegister netlist still line id value
  register_from line id value h = record { register = h.register; other = h.other; unnamed = h.unnamed; name = h.name; fits = h.fits; line_is = h.line_is }

  register_to : (line : List ℕ) (id value : ℕ) → SetsRegister netlist still line id value → SetsRegister fixed still line id value
  register_to line id value h = record { register = h.register; other = h.other; unnamed = h.unnamed; name = h.name; fits = h.fits; line_is = h.line_is }

  cell_from : (line : List ℕ) (space : Space) (address value : ℕ) → SetsCell fixed line space address value → SetsCell netlist line space address value
  cell_from line space address value h = record { within = h.within; name = h.name; fits = h.fits; line_is = h.line_is }

  cell_to : (line : List ℕ) (space : Space) (address value : ℕ) → SetsCell netlist line space address value → SetsCell fixed line space address value
  cell_to line space address value h = record { within = h.within; name = h.name; fits = h.fits; line_is = h.line_is }

  nothing_from : (line : List ℕ) → SetsNothing fixed still line → SetsNothing netlist still line
  nothing_from line h = record {
    no_register = λ id value r. h.no_register id value (register_to line id value r);
    no_cell = λ space address value r. h.no_cell space address value (cell_to line space address value r);
  }

  nothing_to : (line : List ℕ) → SetsNothing netlist still line → SetsNothing fixed still line
  nothing_to line h = record {
    no_register = λ id value r. h.no_register id value (register_from line id value r);
    no_cell = λ space address value r. h.no_cell space address value (cell_from line space address value r);
  }

  line_from : (s t : State) (line : List ℕ) → SetsLine fixed still s line t → SetsLine netlist still s line t
  line_from s t line (inl (id, value, h, e)) = inl (id, value, register_from line id value h, e)
  line_from s t line (inr (space, address, value, h, e)) = inr (space, address, value, cell_from line space address value h, e)

  line_to : (s t : State) (line : List ℕ) → SetsLine netlist still s line t → SetsLine fixed still s line t
  line_to s t line (inl (id, value, h, e)) = inl (id, value, register_to line id value h, e)
  line_to s t line (inr (space, address, value, h, e)) = inr (space, address, value, cell_to line space address value h, e)

  lead_from : (lines : List (List ℕ)) (s t : State) → AllLead fixed still s lines t → AllLead netlist still s lines t
  lead_from [] s t h = h
  lead_from (line ∷ lines) s t h = (h.0, line_from s h.0 line h.1, lead_from lines h.0 t h.2)

  lead_to : (lines : List (List ℕ)) (s t : State) → AllLead netlist still s lines t → AllLead fixed still s lines t
  lead_to [] s t h = h
  lead_to (line ∷ lines) s t h = (h.0, line_to s h.0 line h.1, lead_to lines h.0 t h.2)

  module _ (bytes : List ℕ) where
    fault_from : (at : ℕ) → IsMemoryFault fixed still bytes at → IsMemoryFault netlist still bytes at
    fault_from at h = record {
      before = h.before;
      line = h.line;
      after = h.after;
      state = h.state;
      lines = h.lines;
      place = h.place;
      good = lead_from h.before _ h.state h.good;
      bad = nothing_from h.line h.bad;
    }

    fault_to : (at : ℕ) → IsMemoryFault netlist still bytes at → IsMemoryFault fixed still bytes at
    fault_to at h = record {
      before = h.before;
      line = h.line;
      after = h.after;
      state = h.state;
      lines = h.lines;
      place = h.place;
      good = lead_to h.before _ h.state h.good;
      bad = nothing_to h.line h.bad;
    }

module _ (netlist : Netlist) (v : ℕ) (still : Option ℕ) (bytes : List ℕ) where
  in_from : (special : Option ℕ) (s : State) → IsMemoryText (in_mode special v netlist) still bytes s → IsMemoryText netlist still bytes s
  in_from None s h = h
  in_from (Some mode) s h = record { lead = lead_from netlist mode v still _ _ s h.lead }

  in_to : (special : Option ℕ) (s : State) → IsMemoryText netlist still bytes s → IsMemoryText (in_mode special v netlist) still bytes s
  in_to None s h = h
  in_to (Some mode) s h = record { lead = lead_to netlist mode v still _ _ s h.lead }

  fault_in_from : (special : Option ℕ) (at : ℕ) → IsMemoryFault (in_mode special v netlist) still bytes at → IsMemoryFault netlist still bytes at
  fault_in_from None at h = h
  fault_in_from (Some mode) at h = fault_from netlist mode v still bytes at h

  fault_in_to : (special : Option ℕ) (at : ℕ) → IsMemoryFault netlist still bytes at → IsMemoryFault (in_mode special v netlist) still bytes at
  fault_in_to None at h = h
  fault_in_to (Some mode) at h = fault_to netlist mode v still bytes at h

  -- a memory text of what the netlist is in a mode is one of the netlist
  pub text_of_base : (s : State) → IsMemoryText (base_at netlist v) still bytes s → IsMemoryText netlist still bytes s
  text_of_base s = in_from netlist.special s

  pub text_at_base : (s : State) → IsMemoryText netlist still bytes s → IsMemoryText (base_at netlist v) still bytes s
  text_at_base s = in_to netlist.special s

  pub fault_of_base : (at : ℕ) → IsMemoryFault (base_at netlist v) still bytes at → IsMemoryFault netlist still bytes at
  fault_of_base at = fault_in_from netlist.special at

  pub fault_at_base : (at : ℕ) → IsMemoryFault netlist still bytes at → IsMemoryFault (base_at netlist v) still bytes at
  fault_at_base at = fault_in_to netlist.special at
