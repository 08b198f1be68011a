-- What is told of each net by its gate and by what is told of the nets that it names.
use Rattle.std.proofs.Common.{◌≡◌, ℕ, ◌<◌, List, length, slice_get, subst, arith}
use Rattle.std.specs.List.{AllByRecursion}
use Rattle.net_model.specs.declared.hardware.Netlist.{Netlist}
use Rattle.net_model.specs.declared.flags.Property.TheVariants.{Control}
use Rattle.net_model.specs.CheckedRules.{net_control, is_control}
use Rattle.net_model.specs.Depends.{named_by}
use Rattle.net_model.specs.Order.{position_of, IsOrder}
use Rattle.rec_bits.proofs.Lists.{all_weaker}
use Rattle.net_model.proofs.Orders.{at_place}
use Rattle.net_model.proofs.Told.{flag_is}

module _ (netlist : Netlist) (order : List ℕ) (o : IsOrder netlist order) where
  -- the nets that a net names come before it
  pub inside : (n : ℕ) → position_of order n < length order → n < length netlist.nets
  inside n h = subst (λ m. m < length netlist.nets) (at_place order n h) (o.nets (position_of order n) h)

  pub named_inside : (n : ℕ) → n < length netlist.nets → AllByRecursion (λ m. m < length netlist.nets) (named_by netlist n)
  named_inside n h =
      all_weaker (λ m. position_of order m < position_of order n) (λ m. m < length netlist.nets)
      (λ m lt. inside m (omega (arith, lt, o.places n h))) (named_by netlist n) (o.falls n)

  pub control_is : (n : ℕ) → n < length netlist.nets → is_control netlist n ≡ net_control (is_control netlist) (slice_get netlist.nets n)
  control_is n h = flag_is Control netlist order o n h
