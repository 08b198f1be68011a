use Rattle.tree_laws.proofs.SameShifts.{double_same, mul_shl_same, sar_mul_same, sar_sar_same, sar_slice_same, sar_wide_same, sar_zero_same, sext_sar_same, shl_shl_same, shl_zero_same, shr_sar_same, shr_shr_same, shr_slice_same, shr_wide_same, shr_zero_same, widen_shl_same, zext_shr_same}
use Rattle.tree_laws.proofs.laws.shifts.shifts_rules.Goals as goal

pub returns : goal.returns
returns w = (
  (λ tree number c f g. widen_shl_same _ _ _ _ _ c.0 c.1.0 f),
  (
    (λ tree number c f g. shr_wide_same _ _ _ _ _ c.0 c.1.0 c.1.1.0 g.0.0),
    (
      (λ tree number c f g. sar_wide_same _ _ _ _ _ c.0 c.1.0 c.1.1.0 g.0.0),
      (
        (λ tree number c f g. shr_slice_same _ _ _ _ c.0 c.1.0 g.0),
        (
          (λ tree number c f g. sar_slice_same _ _ _ _ c.0 c.1.0 g.0),
          (
            (λ tree number c f g. shl_shl_same _ _ _ _ _ c.0 c.1.0 c.1.1.0),
            (
              (λ tree number c f g. shr_shr_same _ _ _ _ _ c.0 c.1.0 c.1.1.0),
              (
                (λ tree number c f g. sar_sar_same _ _ _ _ _ c.0 c.1.0 c.1.1.0 g),
                (
                  (λ tree number c f g. shr_sar_same _ _ _ _ _ _ c.0 c.1.0 c.1.1.0 c.1.1.1.0 c.1.1.1.1.0 f),
                  (
                    (λ tree number c f g. zext_shr_same _ _ _ _ c.0 c.1.0 g.0),
                    (
                      (λ tree number c f g. sext_sar_same _ _ _ _ c.0 c.1.0 g.0),
                      (
                        (λ tree number c f g. sar_mul_same _ _ _ _ _ _ _ _ c.0 c.1.0 c.1.1.0 c.1.1.1.0 c.1.1.1.1.0 c.1.1.1.1.1.0 g),
                        (
                          (λ tree number c f g. mul_shl_same _ _ _ _ c.0 c.1.0 c.1.1.0),
                          (
                            (λ tree number c f g. double_same _ _ c.0 c.1.0),
                            (
                              (λ tree number c f g. shl_zero_same _ _ g),
                              (
                                (λ tree number c f g. shr_zero_same _ _ g),
                                (
                                  (λ tree number c f g. sar_zero_same _ _ g),
                                  tt,
                                ),
                              ),
                            ),
                          ),
                        ),
                      ),
                    ),
                  ),
                ),
              ),
            ),
          ),
        ),
      ),
    ),
  ),
)
