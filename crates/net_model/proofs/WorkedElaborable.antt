-- The worked texts keep the rules, and others don't.
use Rattle.std.proofs.Common.{lit<, lit≤, refl, [], ◌∷◌, None, codes}
use Rattle.net_model.specs.declared.units.RegisterKind.TheVariants.{Plain}
use Rattle.net_model.specs.Written.{register, const}
use Rattle.net_model.specs.Elaborable.{IsElaborable}
use Rattle.net_model.specs.WorkedElaborations.{s8_items, b2_items, part_items}

pub s8_elaborable : IsElaborable s8_items
s8_elaborable = record {
  names = refl;
  items = ((refl, refl, tt), ((refl, refl, tt), ((refl, refl, refl, refl, refl, refl), tt)));
  driven = (refl, (refl, (refl, tt)));
  few_nets = lit≤ tt;
  few_registers = lit≤ tt;
  few_items = lit< tt;
}

pub b2_elaborable : IsElaborable b2_items
b2_elaborable = record {
  names = refl;
  items = ((refl, refl, tt), ((refl, refl, tt), ((refl, refl, tt), ((refl, ((refl, refl), ((refl, refl), tt))), ((refl, refl, refl, refl, refl, refl), tt)))));
  driven = (refl, (refl, (refl, (refl, (refl, tt)))));
  few_nets = lit≤ tt;
  few_registers = lit≤ tt;
  few_items = lit< tt;
}

pub part_elaborable : IsElaborable part_items
part_elaborable = record {
  names = refl;
  items = (
    (refl, refl, tt),
    (
      ((refl, (refl, tt)), (λ e. absurd (cc e), (λ e. refl, tt))),
      ((λ e. refl, (λ e. absurd (cc e), tt)), ((refl, refl, tt), tt)),
    ),
  );
  driven = (refl, (refl, (refl, (refl, tt))));
  few_nets = lit≤ tt;
  few_registers = lit≤ tt;
  few_items = lit< tt;
}

-- a register that is fed a wider net
pub wider_breaks : IsElaborable (register Plain (record { name = codes "R"; at = 9 }) 4 (const 0 5) None ∷ []) → ⊥
wider_breaks k = cc (k.items.0.1)
