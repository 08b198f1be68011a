-- What the rules say of a program that keeps them, and the temporary cells against the nodes.
use Rattle.std.proofs.Common.{◌≡◌, ℕ, ◌+◌, ◌≤◌, Bool, true, false, nat_lt, if◌then◌else◌, List, [], ◌∷◌, Option, Some, None, refl, sym, ap, ◌∙◌, arith}
use Rattle.std.proofs.lemmas.Bool.Decides.{nat_tests}
use Rattle.rec_bits.specs.Operators.{result_width}
use Rattle.src_model.specs.declared.fault.SrcFault.{SrcFault}
use Rattle.src_model.specs.declared.fault.SrcFault.TheVariants.{Duplicate, Unknown, Width, Index, Counter, Limit}
use Rattle.src_model.specs.declared.fault.SrcKind.{SrcKind}
use Rattle.src_model.specs.declared.fault.SrcKind.TheVariants.{Length, Statements, Nodes}
use Rattle.src_model.specs.declared.sizes.Subtree.{Subtree}
use Rattle.src_model.specs.Written.{SrcNodeModel, num, plain, element, un, bin, zext, sext, low, ProgramModel, stmts_of}
use Rattle.src_model.specs.Widths.{is_literal}
use Rattle.src_model.specs.Indexes.{number_of}
use Rattle.src_model.specs.Sizes.{Root, value, store, compare, difference, nodes, nodes_of, read_nodes, part, read_part, sided, all_of, is_word, temps_of, greatest, roots_in, longest}
use Rattle.rec_bits.specs.Counts.{capped}
use Rattle.src_model.specs.Rules.{RulesHold, first_fault, above, limits, duplicate_names, unknown_names, bad_widths, bad_indexes, bad_counters, statement_count, node_count, temp_count}
use Rattle.rec_bits.specs.Faults.{fault_at}
use Rattle.rec_bits.specs.Faults.{or_else}
use Rattle.rec_bits.specs.Faults.{least}
use Rattle.rec_bits.proofs.Faults.{least_none}
use Rattle.rec_bits.proofs.Booleans.{bit_within}

read_le : (word : ℕ) (o : Option ℕ) (p : Subtree) (n : ℕ) → all_of p ≤ n → all_of (read_part word o p) ≤ read_nodes o n
read_le word (Some m) p n h = omega arith
read_le word None p n h = let b : is_word word word ≤ 1 = bit_within _ in omega (arith, b, h)

sided_le : (b : Bool) (left right : Subtree) (f g : ℕ → Subtree) (n m : ℕ) → all_of left ≤ n → all_of right ≤ m → ((w : ℕ) → all_of (f w) ≤ n) → ((w : ℕ) → all_of (g w) ≤ m)
    → (sided b left right f g).below ≤ n + m
sided_le true left right f g n m l r fl gr = let k = fl right.width in omega (arith, k, r)
sided_le false left right f g n m l r fl gr = let k = gr left.width in omega (arith, k, l)

node_le : (word width below n : ℕ) → below ≤ n → is_word word width + below ≤ 1 + n
node_le word width below n h = let b : is_word word width ≤ 1 = bit_within _ in omega (arith, b, h)

-- the nodes of a word's width are among the nodes
part_le : (word asked : ℕ) (e : SrcNodeModel) → all_of (part word asked e) ≤ nodes e
part_le word asked (num n) = node_le word asked 0 0 (omega arith)
part_le word asked (plain name at) = omega arith
part_le word asked (element name at to x) = read_le word (number_of x) (part word word x) (nodes x) (part_le word word x)
part_le word asked (un op at x) = node_le word (part word asked x).width _ _ (part_le word asked x)
part_le word asked (bin op at x to y) =
    let s = sided_le (is_literal x) (part word word x) (part word word y) (λ w. part word w x) (λ w. part word w y) (nodes x) (nodes y)
    (part_le word word x) (part_le word word y) (λ w. part_le word w x) (λ w. part_le word w y) in
    let k = node_le word (result_width op (sided (is_literal x) (part word word x) (part word word y) (λ w. part word w x) (λ w. part word w y)).width) _ _ s in
    omega (arith, k)
part_le word asked (zext at x width) = node_le word width _ _ (part_le word word x)
part_le word asked (sext at x width) = node_le word width _ _ (part_le word word x)
part_le word asked (low at x width) = node_le word width _ _ (part_le word word x)

sides_le : (word : ℕ) (x y : SrcNodeModel) → (sided (is_literal x) (part word word x) (part word word y) (λ w. part word w x) (λ w. part word w y)).below ≤ nodes x + nodes y
sides_le word x y = sided_le (is_literal x) (part word word x) (part word word y) (λ w. part word w x) (λ w. part word w y) (nodes x) (nodes y)
    (part_le word word x) (part_le word word y) (λ w. part_le word w x) (λ w. part_le word w y)

temps_le : (word : ℕ) (r : Root) → temps_of word r ≤ nodes_of r
temps_le word (value e) = let k = part_le word word e in omega (arith, k)
temps_le word (store x e) = let k = part_le word word x in let l = part_le word word e in omega (arith, k, l)
temps_le word (compare x y) = let k = sides_le word x y in omega (arith, k)
temps_le word (difference x y) = let k = sides_le word x y in let b : is_word word (sided (is_literal x) (part word word x) (part word word y) (λ w. part word w x) (λ w. part word w y)).width ≤ 1 = bit_within _ in omega (arith, k, b)

greatest_le : (f g : Root → ℕ) → ((r : Root) → f r ≤ g r) → (rs : List Root) → greatest f rs ≤ greatest g rs
greatest_le f g h [] = omega arith
greatest_le f g h (r ∷ rs) = let a = h r in let b = greatest_le f g h rs in omega (arith, a, b)

or_else_none : (a b : Option SrcFault) → or_else a b ≡ None → b ≡ None
or_else_none None b h = h
or_else_none (Some fault) b h = absurd (cc h)

above_none : (kind : SrcKind) (count bound : ℕ) → above kind count bound ≡ None → count ≤ bound
above_none kind count bound h = by (nat_lt bound count) refl
  where
    by : (b : Bool) → nat_lt bound count ≡ b → count ≤ bound
    by true e = absurd (let k : Some (Limit kind count bound) ≡ None = sym (ap (λ (t : Bool). if t then Some (Limit kind count bound) else None) e) ∙ h in cc k)
    by false e = grind (arith, nat_tests, e)

or_else_first : (a b : Option SrcFault) → or_else a b ≡ None → a ≡ None
or_else_first None b h = refl
or_else_first (Some fault) b h = h

-- where no fault is named, the list of offsets is empty
none_broken : (rule : ℕ → SrcFault) (offsets : List ℕ) → fault_at rule (least offsets) ≡ None → offsets ≡ []
none_broken rule offsets h = least_none offsets (none (least offsets) h)
  where
    none : (o : Option ℕ) → fault_at rule o ≡ None → o ≡ None
    none None e = refl
    none (Some at) e = absurd (cc e)

-- the rules behind each
module _ (word : ℕ) (l : ProgramModel) (h : first_fault word l ≡ None) where
  behind_first : or_else (fault_at Unknown (least (unknown_names l))) (or_else (fault_at Width (least (bad_widths word l)))
      (or_else (fault_at Index (least (bad_indexes l))) (or_else (fault_at Counter (least (bad_counters word l))) (limits l)))) ≡ None
  behind_first = or_else_none (fault_at Duplicate (least (duplicate_names l))) _ h

  behind_second : or_else (fault_at Width (least (bad_widths word l)))
      (or_else (fault_at Index (least (bad_indexes l))) (or_else (fault_at Counter (least (bad_counters word l))) (limits l))) ≡ None
  behind_second = or_else_none (fault_at Unknown (least (unknown_names l))) _ behind_first

  behind_third : or_else (fault_at Index (least (bad_indexes l))) (or_else (fault_at Counter (least (bad_counters word l))) (limits l)) ≡ None
  behind_third = or_else_none (fault_at Width (least (bad_widths word l))) _ behind_second

  behind_fourth : or_else (fault_at Counter (least (bad_counters word l))) (limits l) ≡ None
  behind_fourth = or_else_none (fault_at Index (least (bad_indexes l))) _ behind_third

  limits_none : limits l ≡ None
  limits_none = or_else_none (fault_at Counter (least (bad_counters word l))) (limits l) behind_fourth

  behind_lengths : or_else (above Statements (capped (statement_count l)) 65536) (above Nodes (capped (node_count l)) 255) ≡ None
  behind_lengths = or_else_none (above Length (longest l.vars) 65536) _ limits_none

  -- a program without a fault keeps each rule
  pub rules_hold : RulesHold word l
  rules_hold =
      let s = above_none Statements (capped (statement_count l)) 65536 (or_else_first (above Statements (capped (statement_count l)) 65536) _ behind_lengths) in
      let n = above_none Nodes (capped (node_count l)) 255 (or_else_none (above Statements (capped (statement_count l)) 65536) _ behind_lengths) in
      record {
        names_once = none_broken Duplicate (duplicate_names l) (or_else_first (fault_at Duplicate (least (duplicate_names l))) _ h);
        names_known = none_broken Unknown (unknown_names l) (or_else_first (fault_at Unknown (least (unknown_names l))) _ behind_first);
        widths_fit = none_broken Width (bad_widths word l) (or_else_first (fault_at Width (least (bad_widths word l))) _ behind_second);
        indexes_within = none_broken Index (bad_indexes l) (or_else_first (fault_at Index (least (bad_indexes l))) _ behind_third);
        counters_kept = none_broken Counter (bad_counters word l) (or_else_first (fault_at Counter (least (bad_counters word l))) _ behind_fourth);
        few_cells = above_none Length (longest l.vars) 65536 (or_else_first (above Length (longest l.vars) 65536) _ limits_none);
        few_statements = omega (arith, s);
        few_nodes = omega (arith, n);
      }

  -- and none of its trees needs more temporary cells than it has nodes
  pub few_temps : temp_count word l ≤ 255
  few_temps = let n = rules_hold.few_nodes in let k = greatest_le (temps_of word) nodes_of (temps_le word) (roots_in (stmts_of l.body)) in omega (arith, n, k)
