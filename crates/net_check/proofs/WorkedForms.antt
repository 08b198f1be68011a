-- The small netlists keep N1 to N4 and N11.
use Rattle.std.proofs.Common.{lit≤, lit<, rules, refl, ℕ, zero, suc, ◌∷◌, [], slice_get, nat_eq}
use Rattle.std.specs.List.{IsDistinct}
use Rattle.std.proofs.lemmas.Nat.{pow_pos}
use Rattle.net_model.specs.Nets.{width_at}
use Rattle.net_model.specs.CheckedRules.{NetKeeps, NamesDiffer, IsWellFormed, row_numbers}
use Rattle.net_check.specs.Worked.{looped, small, AreControls}

looped_nets : (n : ℕ) → NetKeeps looped (slice_get looped.nets n)
looped_nets zero = search rules
looped_nets (suc zero) = search rules
looped_nets (suc (suc zero)) = search rules
looped_nets (suc (suc (suc n))) = tt

looped_names : NamesDiffer looped
unfolding IsDistinct
looped_names = tt

pub looped_formed : IsWellFormed looped
looped_formed = record {
  names = looped_names;
  nets = looped_nets;
  storages = tt;
  codes = tt;
  special = tt;
  limits = record { nets = lit≤ tt; registers = lit≤ tt; cells = tt; words = tt };
}

lone_row : IsDistinct nat_eq (row_numbers ((0, 0) ∷ []))
unfolding IsDistinct
lone_row = (tt, tt)

module _ (sel enable : ℕ) (are : AreControls sel enable) where
  small_nets : (n : ℕ) → NetKeeps (small sel enable) (slice_get (small sel enable).nets n)
  small_nets zero = search rules
  small_nets (suc zero) = search rules
  small_nets (suc (suc zero)) = search rules
  small_nets (suc (suc (suc zero))) = search rules
  small_nets (suc (suc (suc (suc zero)))) = search rules
  small_nets (suc (suc (suc (suc (suc zero))))) =
      ((lit≤ tt, lit≤ tt), ((are.selects, (pow_pos (width_at (small sel enable) sel), (lit< tt, refl), tt), (lit< tt, refl)), lone_row, tt))
  small_nets (suc (suc (suc (suc (suc (suc n)))))) = tt

  small_names : NamesDiffer (small sel enable)
  unfolding IsDistinct
  small_names = ((refl, (refl, tt)), ((refl, tt), (tt, tt)))

  pub small_formed : IsWellFormed (small sel enable)
  small_formed = record {
    names = small_names;
    nets = small_nets;
    storages = (search rules, (((lit≤ tt, lit≤ tt), (lit≤ tt, lit≤ tt), ((lit< tt, refl), (lit< tt, refl), (are.enables, are.narrow))), tt));
    codes = search rules;
    special = tt;
    limits = record { nets = lit≤ tt; registers = lit≤ tt; cells = (tt, (lit≤ tt, tt)); words = (lit≤ tt, tt) };
  }
