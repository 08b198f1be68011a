-- A worked processor with a register file keeps the rules, and others don't.
use Rattle.std.proofs.Common.{lit≤, rules, refl, ℕ, ◌<◌, List, [], ◌∷◌, Some, None, slice_index, codes}
use Rattle.std.specs.List.{AllByRecursion, IsDistinct}
use Rattle.net_model.specs.declared.hardware.Storage.TheVariants.{Register, Memory, File}
use Rattle.net_model.specs.Nets.{nets_of}
use Rattle.net_model.specs.Order.{position_of, IsOrder}
use Rattle.net_model.specs.CheckedRules.{NetKeeps, NamesDiffer, IsWellFormed, HasRoles, KeepsRules}
use Rattle.net_model.specs.WorkedFile.{f4}
use Rattle.net_model.proofs.WorkedRules.{at_below, at_each}

abbrev pub f4_order : List ℕ
f4_order = 0 ∷ 1 ∷ 3 ∷ 2 ∷ 4 ∷ 5 ∷ 6 ∷ 7 ∷ 8 ∷ 9 ∷ 10 ∷ 11 ∷ 12 ∷ []

f4_names : NamesDiffer f4
unfolding IsDistinct
f4_names = ((refl, (refl, (refl, tt))), ((refl, (refl, tt)), ((refl, tt), (tt, tt))))

f4_formed : IsWellFormed f4
f4_formed = record {
  names = f4_names;
  nets = at_each (λ n net. NetKeeps f4 net) (λ n. tt) f4.nets (search rules);
  storages = search rules;
  codes = search rules;
  special = tt;
  limits = record { nets = lit≤ tt; registers = lit≤ tt; cells = (tt, (lit≤ tt, (lit≤ tt, tt))); words = (lit≤ tt, tt) };
}

f4_ordered : IsOrder f4 f4_order
f4_ordered = record {
  long = refl;
  nets = at_below 13 (λ i. slice_index f4_order i < 13) (search rules);
  places = at_below 13 (λ n. position_of f4_order n < 13) (search rules);
  falls = at_each (λ n net. AllByRecursion (λ m. position_of f4_order m < position_of f4_order n) (nets_of net)) (λ n. tt) f4.nets (search rules);
}

f4_roles : HasRoles f4
f4_roles = record {
  code = refl;
  memory = refl;
  counter = lit≤ tt;
  sizes = ((lit≤ tt, lit≤ tt), (lit≤ tt, lit≤ tt));
  address = lit≤ tt;
  file = (refl, (lit≤ tt, lit≤ tt));
  mode = tt;
  bank = tt;
}

pub f4_keeps : KeepsRules f4 f4_order
f4_keeps = record {
  formed = f4_formed;
  ordered = f4_ordered;
  roles = f4_roles;
  enables = search rules;
  control = search rules;
  selectors = search rules;
  addresses = search rules;
}

-- a netlist of the first edition has no file
pub first_breaks : (order : List ℕ) → KeepsRules (record f4 { edition = 1 }) order → ⊥
first_breaks order k = cc (k.roles.file.0)

-- one of the second edition has one
pub fileless_breaks : (order : List ℕ) → KeepsRules (record f4 {
  storages =
      Register (codes "PC") 2 2 None
      ∷ Memory (record { name = codes "M"; name_at = 145; width = 4; size = 1; addr_width = 1; value = 10; addr = 11; when = Some 12 }) ∷ [];
}) order → ⊥
fileless_breaks order k = cc (k.roles.file.0)

-- the file isn't written where the program counter says
pub counter_breaks : (order : List ℕ) → KeepsRules (record f4 {
  storages =
      Register (codes "PC") 2 2 None
      ∷ File (record { name = codes "R"; name_at = 75; width = 4; size = 3; addr_width = 2; value = 7; addr = 3; when = None })
      ∷ Memory (record { name = codes "M"; name_at = 145; width = 4; size = 1; addr_width = 1; value = 10; addr = 11; when = Some 12 }) ∷ [];
}) order → ⊥
counter_breaks order k = cc (k.addresses.0)
