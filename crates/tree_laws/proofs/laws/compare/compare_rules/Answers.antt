use Rattle.tree_laws.proofs.SameCompare.{eq_ltu_same, eq_sext_same, eq_sub_back_same, eq_sub_same, eq_xor_same, eq_zext_same, lts_diff_same, lts_over_same, lts_sext_same, lts_sign_same, ltu_diff_same, ltu_lts_same, ltu_lts_wide_same, ltu_over_same, ltu_zext_same, not_bit_same, not_eq_same, not_gts_same, not_gtu_same, not_lts_same, not_ltu_same, not_negative_same, not_sign_same}
use Rattle.tree_laws.proofs.laws.compare.compare_rules.Goals as goal

pub returns : goal.returns
returns w = (
  (λ tree number c f g. eq_sub_same _ _ _ f),
  (
    (λ tree number c f g. eq_sub_back_same _ _ _ f),
    (
      (λ tree number c f g. eq_xor_same _ _ _),
      (
        (λ tree number c f g. eq_zext_same _ _ _),
        (
          (λ tree number c f g. eq_sext_same _ _ _ f g.0),
          (
            (λ tree number c f g. eq_ltu_same _ _),
            (
              (λ tree number c f g. ltu_zext_same _ _ _),
              (
                (λ tree number c f g. ltu_lts_wide_same _ _ _ f g.0),
                (
                  (λ tree number c f g. ltu_diff_same _ _ _ f g.0.0),
                  (
                    (λ tree number c f g. lts_sext_same _ _ _ f g.0),
                    (
                      (λ tree number c f g. lts_diff_same _ _ _ f g.0.0),
                      (
                        (λ tree number c f g. lts_sign_same _ _ _ c.0 c.1.0 f.0),
                        (
                          (λ tree number c f g. lts_over_same _ _ _ f),
                          (
                            (λ tree number c f g. ltu_over_same _ _ _ f),
                            (
                              (λ tree number c f g. ltu_lts_same _ _ _ _ _ c.0 c.1.0 c.1.1.0 f),
                              (
                                (λ tree number c f g. not_eq_same _ _ c.0),
                                (
                                  (λ tree number c f g. not_ltu_same _ _ _ _ c.0),
                                  (
                                    (λ tree number c f g. not_gtu_same _ _ _ _ c.0),
                                    (
                                      (λ tree number c f g. not_lts_same _ _ _ _ _ _ c.0 c.1.0 c.1.1.0 c.1.1.1.0 c.1.1.1.1.0 f.0 f.1),
                                      (
                                        (λ tree number c f g. not_gts_same _ _ _ _ _ _ c.0 c.1.0 c.1.1.0 c.1.1.1.0 c.1.1.1.1.0 f.1 f.0),
                                        (
                                          (λ tree number c f g. not_negative_same _ _ f.0),
                                          (
                                            (λ tree number c f g. not_sign_same _ _ _ _ c.0 c.1.0 c.1.1.0 f.0),
                                            (
                                              (λ tree number c f g. not_bit_same _ _ _ _ _ _ c.0 c.1.0 c.1.1.0 c.1.1.1.0 f.0.0),
                                              tt,
                                            ),
                                          ),
                                        ),
                                      ),
                                    ),
                                  ),
                                ),
                              ),
                            ),
                          ),
                        ),
                      ),
                    ),
                  ),
                ),
              ),
            ),
          ),
        ),
      ),
    ),
  ),
)
