use Rattle.rec_bits.specs.declared.operator.Op2.TheVariants.{Add, And, Eq, Mul, Or, Xor}
use Rattle.tree_laws.proofs.SameSums.{add_lit_same, add_zero_same, and_ones_same, and_or_same, and_self_same, and_sub_same, and_zero_same, assoc_add_same, assoc_and_same, assoc_mul_same, assoc_or_same, assoc_sub_same, assoc_xor_same, comm_same, mul_one_same, mul_split_same, mul_zero_same, neg_not_same, neg_zero_same, not_not_same, not_sub_same, not_xor_same, or_add_same, or_and_same, or_self_same, or_zero_same, sub_difference_same, sub_neg_same, sub_self_same, sub_sum_same, sub_zero_same, xor_or_same, xor_self_same, xor_zero_same}
use Rattle.tree_laws.proofs.laws.sums.sums_rules.Goals as goal

pub returns : goal.returns
returns w = (
  (λ tree number c f g. comm_same Add tt _ _ f),
  (
    (λ tree number c f g. comm_same Mul tt _ _ f),
    (
      (λ tree number c f g. comm_same And tt _ _ f),
      (
        (λ tree number c f g. comm_same Or tt _ _ f),
        (
          (λ tree number c f g. comm_same Xor tt _ _ f),
          (
            (λ tree number c f g. comm_same Eq tt _ _ f),
            (
              (λ tree number c f g. assoc_add_same _ _ _ f),
              (
                (λ tree number c f g. assoc_mul_same _ _ _ f),
                (
                  (λ tree number c f g. assoc_and_same _ _ _),
                  (
                    (λ tree number c f g. assoc_or_same _ _ _ f),
                    (
                      (λ tree number c f g. assoc_xor_same _ _ _),
                      (
                        (λ tree number c f g. assoc_sub_same _ _ _ f),
                        (
                          (λ tree number c f g. sub_sum_same _ _ _ f),
                          (
                            (λ tree number c f g. sub_difference_same _ _ _ f),
                            (
                              (λ tree number c f g. add_zero_same _ _ g),
                              (
                                (λ tree number c f g. sub_zero_same _ _ g),
                                (
                                  (λ tree number c f g. or_zero_same _ _ g),
                                  (
                                    (λ tree number c f g. xor_zero_same _ _ g),
                                    (
                                      (λ tree number c f g. and_ones_same _ _ _ c.0 c.1.0 g),
                                      (
                                        (λ tree number c f g. mul_one_same _ _ g),
                                        (
                                          (λ tree number c f g. and_zero_same _ _ c.0),
                                          (
                                            (λ tree number c f g. mul_zero_same _ _ c.0),
                                            (
                                              (λ tree number c f g. sub_self_same _ _ c.0),
                                              (
                                                (λ tree number c f g. xor_self_same _ _ c.0),
                                                (
                                                  (λ tree number c f g. and_self_same _),
                                                  (
                                                    (λ tree number c f g. or_self_same _),
                                                    (
                                                      (λ tree number c f g. add_lit_same _ _ _ _ c.0 c.1.0 f.1),
                                                      (
                                                        (λ tree number c f g. sub_neg_same _ _ f),
                                                        (
                                                          (λ tree number c f g. neg_zero_same _ _ c.0),
                                                          (
                                                            (λ tree number c f g. neg_not_same _ _ f),
                                                            (
                                                              (λ tree number c f g. not_xor_same _ _ _ c.0 c.1.0 f),
                                                              (
                                                                (λ tree number c f g. not_sub_same _ _ _ c.0 c.1.0 f),
                                                                (
                                                                  (λ tree number c f g. not_not_same _ g),
                                                                  (
                                                                    (λ tree number c f g. mul_split_same _ _ _ f),
                                                                    (
                                                                      (λ tree number c f g. xor_or_same _ _ f),
                                                                      (
                                                                        (λ tree number c f g. or_add_same _ _ f),
                                                                        (
                                                                          (λ tree number c f g. and_sub_same _ _ f),
                                                                          (
                                                                            (λ tree number c f g. or_and_same _ _ f),
                                                                            (
                                                                              (λ tree number c f g. and_or_same _ _ f),
                                                                              tt,
                                                                            ),
                                                                          ),
                                                                        ),
                                                                      ),
                                                                    ),
                                                                  ),
                                                                ),
                                                              ),
                                                            ),
                                                          ),
                                                        ),
                                                      ),
                                                    ),
                                                  ),
                                                ),
                                              ),
                                            ),
                                          ),
                                        ),
                                      ),
                                    ),
                                  ),
                                ),
                              ),
                            ),
                          ),
                        ),
                      ),
                    ),
                  ),
                ),
              ),
            ),
          ),
        ),
      ),
    ),
  ),
)
