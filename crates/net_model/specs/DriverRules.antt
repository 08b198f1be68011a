-- The rule of drivers, N4: inputs, outputs and the values of a case's selector each have one
-- expression.
use Rattle.std.specs.Prelude.{ℕ, ◌==◌, ◌&&◌, ◌||◌, ◌^◌, List, [], ◌∷◌, ◌++◌, length, map, Option, Some, None, Bool, true, false, not, nat_eq, is_some}
use Rattle.std.specs.List.{list_all, list_any}
use Rattle.rec_bits.specs.Faults.{offsets_if, gather}
use Rattle.grammar.specs.declared.words.Ident.{Ident}
use Rattle.net_model.specs.declared.units.Port.{Port}
use Rattle.net_model.specs.Written.{UnitModel, code, register, memory, net, bus, module_item, part, NetExprModel, named, const, un, bin, cat, slice, zext, sext, read, case, CaseRowsModel, no_rows, row, CaseRestModel, no_rest, rest}
use Rattle.net_model.specs.TextNames.{own_name, item_named, ScopeModel, in_text, in_module}
use Rattle.net_model.specs.TextWidths.{wide, ports_of}
use Rattle.net_model.specs.Numbering.{bound}
use Rattle.net_model.specs.NameRules.{is_among}

-- ---- cases

-- no number is among those before it
abbrev pub are_new : List ℕ → List ℕ → Bool
are_new before [] = true
are_new before (n ∷ numbers) = not (list_any (nat_eq n) before) && are_new (before ++ n ∷ []) numbers

abbrev pub case_numbers : CaseRowsModel → List ℕ
case_numbers no_rows = []
case_numbers (row numbers a rows) = numbers ++ case_numbers rows

-- as many numbers as a selector has values: where they fit it and none is there twice, those are
-- all
abbrev pub are_all : Option ℕ → List ℕ → Bool
are_all None numbers = false
are_all (Some selector) numbers = length numbers == 2 ^ selector

abbrev pub is_rest : CaseRestModel → Bool
is_rest no_rest = false
is_rest (rest a) = true

-- no number twice, and an `else` or every number
abbrev pub is_covered : Option ℕ → CaseRowsModel → CaseRestModel → Bool
is_covered selector rows other =
    are_new [] (case_numbers rows) && (is_rest other || are_all selector (case_numbers rows))

-- each case in an expression
abbrev mutual
  pub covers : ScopeModel → NetExprModel → Bool
  covers s (named name field bits) = true
  covers s (const value width) = true
  covers s (un op a) = covers s a
  covers s (bin op a b) = covers s a && covers s b
  covers s (cat a b) = covers s a && covers s b
  covers s (slice a hi lo) = covers s a
  covers s (zext a width) = covers s a
  covers s (sext a width) = covers s a
  covers s (read name a) = covers s a
  covers s (case selector rows other) =
      covers s selector && covers_rows s rows && covers_rest s other && is_covered (wide s selector) rows other

  pub covers_rows : ScopeModel → CaseRowsModel → Bool
  covers_rows s no_rows = true
  covers_rows s (row numbers a rows) = covers s a && covers_rows s rows

  pub covers_rest : ScopeModel → CaseRestModel → Bool
  covers_rest s no_rest = true
  covers_rest s (rest a) = covers s a

-- ---- ports

abbrev pub binding_name : Ident × NetExprModel → List ℕ
binding_name binding = binding.0.name

-- no name is among those before it
abbrev pub names_new : List (List ℕ) → List (List ℕ) → Bool
names_new before [] = true
names_new before (name ∷ names) = not (is_among before name) && names_new (name ∷ before) names

-- a port of this direction has an expression
abbrev pub is_driven : Bool → List (Ident × NetExprModel) → Port → Bool
is_driven true bindings port = not port.output || is_some (bound bindings port.name.name)
is_driven false bindings port = port.output || is_some (bound bindings port.name.name)

-- each port of this direction has an expression, and none has two
abbrev pub drives_once : Bool → List Port → List (Ident × NetExprModel) → Bool
drives_once output ports bindings =
    list_all (is_driven output bindings) ports && names_new [] (map binding_name bindings)

-- ---- items

abbrev pub covers_if : ScopeModel → Option NetExprModel → Bool
covers_if s None = true
covers_if s (Some a) = covers s a

abbrev pub covers_driver : ScopeModel → NetExprModel × NetExprModel → Bool
covers_driver s driver = covers s driver.0 && covers s driver.1

abbrev pub covers_binding : ScopeModel → Ident × NetExprModel → Bool
covers_binding s binding = covers s binding.1

-- a module's outputs have one equation each, and the inputs of a part's module one link each
abbrev pub is_driven_item : List UnitModel → UnitModel → Bool
is_driven_item text (code name bits size counter) = true
is_driven_item text (register kind name width input when) = covers (in_text text) input && covers_if (in_text text) when
is_driven_item text (memory space name width size addr_width value addr when) =
    covers (in_text text) value && covers (in_text text) addr && covers_if (in_text text) when
is_driven_item text (net name width value) = covers (in_text text) value
is_driven_item text (bus name width drivers) = list_all (covers_driver (in_text text)) drivers
is_driven_item text (module_item name ports equations) =
    drives_once true ports equations && list_all (covers_binding (in_module ports)) equations
is_driven_item text (part name of links) =
    drives_once false (ports_of (item_named text of.name)) links && list_all (covers_binding (in_text text)) links

abbrev pub undriven : List UnitModel → UnitModel → List ℕ
undriven text entry = offsets_if (not (is_driven_item text entry)) (own_name entry).at

-- N4: an input, an output or a number of a case without an expression or with two; the item is
-- named
abbrev pub undrivens : List UnitModel → List ℕ
undrivens text = gather (undriven text) text
