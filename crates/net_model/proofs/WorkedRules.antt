-- A worked processor keeps the rules, and others don't.
use Rattle.std.proofs.Common.{lit≤, rules, refl, ℕ, zero, suc, ◌<◌, List, [], ◌∷◌, ◌++◌, Option, Some, None, slice_get, slice_index, arith, codes, nat_eq}
use Rattle.std.specs.List.{AllByRecursion, IsDistinct}
use Rattle.rec_bits.specs.declared.operator.Op2.TheVariants.{Add}
use Rattle.net_model.specs.declared.hardware.Netlist.{Netlist}
use Rattle.net_model.specs.declared.hardware.Net.{Net}
use Rattle.net_model.specs.declared.hardware.Gate.{Gate}
use Rattle.net_model.specs.declared.hardware.Gate.TheVariants.{Bin, Slice}
use Rattle.net_model.specs.declared.hardware.Storage.TheVariants.{Register, Memory}
use Rattle.net_model.specs.Nets.{nets_of}
use Rattle.net_model.specs.Order.{position_of, IsOrder}
use Rattle.net_model.specs.CheckedRules.{NetKeeps, NamesDiffer, IsWellFormed, HasRoles, IsWhole, row_numbers, KeepsRules}
use Rattle.net_model.specs.Worked.{a16, b2, s8, ring}

-- what holds of each net of a list holds at each place
abbrev pub AllAt : (ℕ → Option Net → Type 0) → List Net → Type 0
AllAt P [] = Unit {0}
AllAt P (net ∷ nets) = P 0 (Some net) × AllAt (λ n. P (suc n)) nets

pub at_each : (P : ℕ → Option Net → Type 0) → ((n : ℕ) → P n None) → (nets : List Net) → AllAt P nets → (n : ℕ) → P n (slice_get nets n)
at_each P none [] h n = none n
at_each P none (net ∷ nets) h zero = h.0
at_each P none (net ∷ nets) h (suc n) = at_each (λ m. P (suc m)) (λ m. none (suc m)) nets h.1 n

-- what holds of each number below k
abbrev pub AllBelow : ℕ → (ℕ → Type 0) → Type 0
AllBelow zero P = Unit {0}
AllBelow (suc k) P = P 0 × AllBelow k (λ n. P (suc n))

pub at_below : (k : ℕ) (P : ℕ → Type 0) → AllBelow k P → (n : ℕ) → n < k → P n
at_below zero P h n l = absurd (omega arith)
at_below (suc k) P h zero l = h.0
at_below (suc k) P h (suc n) l = at_below k (λ m. P (suc m)) h.1 n (omega arith)

abbrev pub s8_order : List ℕ
s8_order = 0 ∷ 1 ∷ 2 ∷ 6 ∷ 3 ∷ 4 ∷ 5 ∷ 7 ∷ 8 ∷ 9 ∷ 10 ∷ []

s8_names : NamesDiffer s8
unfolding IsDistinct
s8_names = ((refl, (refl, tt)), ((refl, tt), (tt, tt)))

s8_whole : IsWhole 1 ((0, 3) ∷ (1, 4) ∷ []) None
s8_whole zero h = refl
s8_whole (suc zero) h = refl
s8_whole (suc (suc k)) h = absurd (omega arith)

s8_apart : IsDistinct nat_eq (row_numbers ((0, 3) ∷ (1, 4) ∷ []))
unfolding IsDistinct
s8_apart = ((refl, tt), (tt, tt))

s8_nets : (n : ℕ) → NetKeeps s8 (slice_get s8.nets n)
s8_nets = at_each (λ n net. NetKeeps s8 net) (λ n. tt) s8.nets (search (rules, s8_whole, s8_apart))

s8_formed : IsWellFormed s8
s8_formed = record {
  names = s8_names;
  nets = s8_nets;
  storages = search rules;
  codes = search rules;
  special = tt;
  limits = record { nets = lit≤ tt; registers = lit≤ tt; cells = (tt, (lit≤ tt, tt)); words = (lit≤ tt, tt) };
}

s8_ordered : IsOrder s8 s8_order
s8_ordered = record {
  long = refl;
  nets = at_below 11 (λ i. slice_index s8_order i < 11) (search rules);
  places = at_below 11 (λ n. position_of s8_order n < 11) (search rules);
  falls = at_each (λ n net. AllByRecursion (λ m. position_of s8_order m < position_of s8_order n) (nets_of net)) (λ n. tt) s8.nets (search rules);
}

s8_roles : HasRoles s8
s8_roles = record {
  code = refl;
  memory = refl;
  counter = lit≤ tt;
  sizes = ((lit≤ tt, lit≤ tt), (lit≤ tt, lit≤ tt));
  address = lit≤ tt;
  file = (refl, tt);
  mode = tt;
  bank = tt;
}

pub s8_keeps : KeepsRules s8 s8_order
s8_keeps = record {
  formed = s8_formed;
  ordered = s8_ordered;
  roles = s8_roles;
  enables = search rules;
  control = search rules;
  selectors = search rules;
  addresses = search rules;
}

-- ---- the processor with a bus

abbrev pub b2_order : List ℕ
b2_order = 0 ∷ 3 ∷ 4 ∷ 1 ∷ 2 ∷ 5 ∷ 6 ∷ 7 ∷ 8 ∷ 9 ∷ 10 ∷ 11 ∷ []

b2_names : NamesDiffer b2
unfolding IsDistinct
b2_names = ((refl, (refl, (refl, tt))), ((refl, (refl, tt)), ((refl, tt), (tt, tt))))

b2_formed : IsWellFormed b2
b2_formed = record {
  names = b2_names;
  nets = at_each (λ n net. NetKeeps b2 net) (λ n. tt) b2.nets (search rules);
  storages = search rules;
  codes = search rules;
  special = tt;
  limits = record { nets = lit≤ tt; registers = lit≤ tt; cells = search rules; words = (lit≤ tt, tt) };
}

b2_ordered : IsOrder b2 b2_order
b2_ordered = record {
  long = refl;
  nets = at_below 12 (λ i. slice_index b2_order i < 12) (search rules);
  places = at_below 12 (λ n. position_of b2_order n < 12) (search rules);
  falls = at_each (λ n net. AllByRecursion (λ m. position_of b2_order m < position_of b2_order n) (nets_of net)) (λ n. tt) b2.nets (search rules);
}

pub b2_keeps : KeepsRules b2 b2_order
b2_keeps = record {
  formed = b2_formed;
  ordered = b2_ordered;
  roles = record {
    code = refl;
    memory = refl;
    counter = lit≤ tt;
    sizes = ((lit≤ tt, lit≤ tt), (lit≤ tt, lit≤ tt));
    address = lit≤ tt;
    file = (refl, tt);
    mode = tt;
    bank = tt;
  };
  enables = search rules;
  control = search rules;
  selectors = search rules;
  addresses = search rules;
}

-- ---- the processor with an adder and a branch

abbrev pub a16_order : List ℕ
a16_order = 0 ∷ 1 ∷ 2 ∷ 3 ∷ 4 ∷ 5 ∷ 6 ∷ 23 ∷ 29 ∷ 7 ∷ 8 ∷ 9 ∷ 11 ∷ 12 ∷ 13 ∷ 14 ∷ 10 ∷ 15 ∷ 16 ∷ 17 ∷ 18 ∷ 19 ∷ 20 ∷ 21 ∷ 22 ∷ 24 ∷ 25 ∷ 26 ∷ 27 ∷ 28 ∷ 30 ∷ 31 ∷ []

a16_names : NamesDiffer a16
unfolding IsDistinct
a16_names = ((refl, (refl, (refl, tt))), ((refl, (refl, tt)), ((refl, tt), (tt, tt))))

a16_branch_whole : IsWhole 1 ((1, 4) ∷ (0, 18) ∷ []) None
a16_branch_whole zero h = refl
a16_branch_whole (suc zero) h = refl
a16_branch_whole (suc (suc k)) h = absurd (omega arith)

a16_alu_apart : IsDistinct nat_eq (row_numbers ((1, 9) ∷ (2, 11) ∷ (3, 12) ∷ []))
unfolding IsDistinct
a16_alu_apart = ((refl, (refl, tt)), ((refl, tt), (tt, tt)))

a16_branch_apart : IsDistinct nat_eq (row_numbers ((1, 4) ∷ (0, 18) ∷ []))
unfolding IsDistinct
a16_branch_apart = ((refl, tt), (tt, tt))

a16_pc_apart : IsDistinct nat_eq (row_numbers ((6, 4) ∷ (7, 19) ∷ []))
unfolding IsDistinct
a16_pc_apart = ((refl, tt), (tt, tt))

a16_one_apart : IsDistinct nat_eq (row_numbers ((5, 24) ∷ []))
unfolding IsDistinct
a16_one_apart = (tt, tt)

a16_when_apart : IsDistinct nat_eq (row_numbers ((1, 26) ∷ (2, 26) ∷ (3, 26) ∷ (5, 26) ∷ []))
unfolding IsDistinct
a16_when_apart = ((refl, (refl, (refl, tt))), ((refl, (refl, tt)), ((refl, tt), (tt, tt))))

a16_formed : IsWellFormed a16
a16_formed = record {
  names = a16_names;
  nets = at_each (λ n net. NetKeeps a16 net) (λ n. tt) a16.nets (search (rules, a16_branch_whole, a16_alu_apart, a16_branch_apart, a16_pc_apart, a16_one_apart, a16_when_apart));
  storages = search rules;
  codes = search rules;
  special = tt;
  limits = record { nets = lit≤ tt; registers = lit≤ tt; cells = search rules; words = (lit≤ tt, tt) };
}

a16_ordered : IsOrder a16 a16_order
a16_ordered = record {
  long = refl;
  nets = at_below 32 (λ i. slice_index a16_order i < 32) (search rules);
  places = at_below 32 (λ n. position_of a16_order n < 32) (search rules);
  falls = at_each (λ n net. AllByRecursion (λ m. position_of a16_order m < position_of a16_order n) (nets_of net)) (λ n. tt) a16.nets (search rules);
}

pub a16_keeps : KeepsRules a16 a16_order
a16_keeps = record {
  formed = a16_formed;
  ordered = a16_ordered;
  roles = record {
    code = refl;
    memory = refl;
    counter = lit≤ tt;
    sizes = ((lit≤ tt, lit≤ tt), (lit≤ tt, lit≤ tt));
    address = lit≤ tt;
    file = (refl, tt);
    mode = tt;
    bank = tt;
  };
  enables = search rules;
  control = search rules;
  selectors = search rules;
  addresses = search rules;
}

-- nets that depend on themselves have no order
pub ring_breaks : (order : List ℕ) → KeepsRules ring order → ⊥
ring_breaks order k = omega (arith, (k.ordered.falls 0).0, (k.ordered.falls 1).0)

-- s8 with one more net of one bit, which enables the memory
abbrev enabled_by : Gate → Netlist
enabled_by gate = record {
  nets = s8.nets ++ record { width = 1; name_at = 0; gate = gate } ∷ [];
  storages = Register (codes "PC") 4 5 None ∷ Memory (record { name = codes "M"; name_at = 0; width = 5; size = 4; addr_width = 2; value = 7; addr = 8; when = (Some 11) }) ∷ [];
  codes = s8.codes;
  edition = 1;
  special = None;
}

-- the enable may not depend on the program counter
pub late_breaks : (order : List ℕ) → KeepsRules (enabled_by (Slice 6 0 0)) order → ⊥
late_breaks order k = cc (k.enables.0)

-- nor be computed by an addition
pub added_breaks : (order : List ℕ) → KeepsRules (enabled_by (Bin Add 1 9)) order → ⊥
added_breaks order k = cc (k.control.0)

-- the program counter has no `when`
pub held_breaks : (order : List ℕ) → KeepsRules (record s8 { storages = Register (codes "PC") 4 5 (Some 10) ∷ Memory (record { name = codes "M"; name_at = 0; width = 5; size = 4; addr_width = 2; value = 7; addr = 8; when = (Some 10) }) ∷ [] }) order → ⊥
held_breaks order k = k.roles.counter

-- two storages of one name
pub twice_breaks : (order : List ℕ) → KeepsRules (record s8 { storages = Register (codes "M") 4 5 None ∷ Memory (record { name = codes "M"; name_at = 0; width = 5; size = 4; addr_width = 2; value = 7; addr = 8; when = (Some 10) }) ∷ [] }) order → ⊥
unfolding IsDistinct
twice_breaks order k = cc (k.formed.names.0.0)
