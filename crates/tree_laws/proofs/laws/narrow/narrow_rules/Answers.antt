use Rattle.rec_bits.specs.declared.operator.Op1.TheVariants.{Neg, Not}
use Rattle.rec_bits.specs.declared.operator.Op2.TheVariants.{Add, And, Mul, Or, Sub, Xor}
use Rattle.tree_laws.proofs.SameNarrow.{and_same, not_same, or_same, ring1_same, ring2_same, slice_sar_same, slice_sext_past_same, slice_sext_same, slice_shl_same, slice_shr_same, slice_zext_past_same, slice_zext_same, whole_same, widen_sext_same, widen_zext_same, xor_same}
use Rattle.tree_laws.proofs.laws.narrow.narrow_rules.Goals as goal

pub returns : goal.returns
returns w = (
  (λ tree number c f g. ring2_same Add tt _ _ _ f),
  (
    (λ tree number c f g. ring2_same Sub tt _ _ _ f),
    (
      (λ tree number c f g. ring2_same Mul tt _ _ _ f),
      (
        (λ tree number c f g. ring2_same And tt _ _ _ f),
        (
          (λ tree number c f g. ring2_same Or tt _ _ _ f),
          (
            (λ tree number c f g. ring2_same Xor tt _ _ _ f),
            (
              (λ tree number c f g. ring1_same Not _ _ f),
              (
                (λ tree number c f g. ring1_same Neg _ _ f),
                (
                  (λ tree number c f g. and_same _ _ _ _),
                  (
                    (λ tree number c f g. or_same _ _ _ _),
                    (
                      (λ tree number c f g. xor_same _ _ _ _),
                      (
                        (λ tree number c f g. not_same _ _ _ f),
                        (
                          (λ tree number c f g. slice_shr_same _ _ _ _ _ _ _ c.0 c.1.0 f g),
                          (
                            (λ tree number c f g. slice_sar_same _ _ _ _ _ _ _ c.0 c.1.0 f g),
                            (
                              (λ tree number c f g. slice_shl_same _ _ _ _ _ _ _ c.0 c.1.0 f g),
                              (
                                (λ tree number c f g. slice_zext_same _ _ _ _),
                                (
                                  (λ tree number c f g. slice_sext_same _ _ _ _ f g),
                                  (
                                    (λ tree number c f g. slice_zext_past_same _ _ _ _ c.0 g),
                                    (
                                      (λ tree number c f g. slice_sext_past_same _ _ _ _ c.0 f g),
                                      (
                                        (λ tree number c f g. widen_zext_same _ _ _ _ c.0 c.1.0 g),
                                        (
                                          (λ tree number c f g. widen_sext_same _ _ _ _ c.0 c.1.0 f g),
                                          (
                                            (λ tree number c f g. whole_same _ _ _ c.0 c.1.0 g),
                                            tt,
                                          ),
                                        ),
                                      ),
                                    ),
                                  ),
                                ),
                              ),
                            ),
                          ),
                        ),
                      ),
                    ),
                  ),
                ),
              ),
            ),
          ),
        ),
      ),
    ),
  ),
)
