use Rattle.std.proofs.Common.{refl}
use Rattle.rec_bits.specs.declared.operator.Op1.TheVariants.{Neg, Not}
use Rattle.rec_bits.specs.declared.operator.Op2.TheVariants.{Add, And, Eq, Lts, Ltu, Mul, Or, Sar, Shl, Shr, Sub, Xor}
use Rattle.tree_laws.proofs.SameNumbers.{bin_value_same, sext_value_same, slice_value_same, un_value_same, zext_value_same}
use Rattle.tree_laws.proofs.laws.numbers.numbers_rules.Goals as goal

pub returns : goal.returns
returns w = (
  (λ tree number c f g. un_value_same Not _ _ _ c.0),
  (
    (λ tree number c f g. un_value_same Neg _ _ _ c.0),
    (
      (λ tree number c f g. bin_value_same Add _ _ _ _ _ refl c.0),
      (
        (λ tree number c f g. bin_value_same Sub _ _ _ _ _ refl c.0),
        (
          (λ tree number c f g. bin_value_same Mul _ _ _ _ _ refl c.0),
          (
            (λ tree number c f g. bin_value_same And _ _ _ _ _ refl c.0),
            (
              (λ tree number c f g. bin_value_same Or _ _ _ _ _ refl c.0),
              (
                (λ tree number c f g. bin_value_same Xor _ _ _ _ _ refl c.0),
                (
                  (λ tree number c f g. bin_value_same Shl _ _ _ _ _ refl c.0),
                  (
                    (λ tree number c f g. bin_value_same Shr _ _ _ _ _ refl c.0),
                    (
                      (λ tree number c f g. bin_value_same Sar _ _ _ _ _ refl c.0),
                      (
                        (λ tree number c f g. bin_value_same Eq _ _ _ _ _ refl c.0),
                        (
                          (λ tree number c f g. bin_value_same Ltu _ _ _ _ _ refl c.0),
                          (
                            (λ tree number c f g. bin_value_same Lts _ _ _ _ _ refl c.0),
                            (
                              (λ tree number c f g. slice_value_same _ _ _ _ _ _ _ c.0 c.1.0 c.1.1.0),
                              (
                                (λ tree number c f g. zext_value_same _ _ _),
                                (
                                  (λ tree number c f g. sext_value_same _ _ _ _ c.0),
                                  tt,
                                ),
                              ),
                            ),
                          ),
                        ),
                      ),
                    ),
                  ),
                ),
              ),
            ),
          ),
        ),
      ),
    ),
  ),
)
