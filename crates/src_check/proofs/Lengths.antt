-- The greatest length, one declaration further.
use Rattle.std.proofs.Common.{◌≡◌, ℕ, ◌+◌, ◌<◌, ◌≤◌, max, List, length, drop, get_or, ap, arith}
use Rattle.std.specs.Prelude.{unwrap_or}
use Rattle.std.proofs.lemmas.List.{drop_all}
use Rattle.rec_bits.proofs.Faults.{drop_item}
use Rattle.src_model.specs.declared.program.Var.{Var as Declared}
use Rattle.src_model.specs.Sizes.{longest}

pub longest_next : (vars : List Declared) (i : ℕ) (v : Declared) (len all : ℕ) → i < length vars → v ≡ get_or vars i v
    → max len (longest (drop i vars)) ≡ all → max (max (unwrap_or v.len 0) len) (longest (drop (i + 1) vars)) ≡ all
longest_next vars i v len all h e k =
    let d : longest (drop i vars) ≡ max (unwrap_or v.len 0) (longest (drop (i + 1) vars)) = ap longest (drop_item vars i v h e) in
    omega (arith, d, k)

pub longest_end : (vars : List Declared) (i len all : ℕ) → length vars ≤ i → max len (longest (drop i vars)) ≡ all → len ≡ all
longest_end vars i len all h k = let d : longest (drop i vars) ≡ 0 = ap longest (drop_all i vars h) in omega (arith, d, k)
