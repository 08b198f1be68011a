use Rattle.tree_laws.proofs.SameExtend.{and_slice_same, sext_and_same, sext_or_same, sext_sext_same, sext_xor_same, sext_zext_same, zext_and_same, zext_or_same, zext_xor_same, zext_zext_same}
use Rattle.tree_laws.proofs.laws.extend.extend_rules.Goals as goal

pub returns : goal.returns
returns w = (
  (λ tree number c f g. zext_zext_same _ _ _),
  (
    (λ tree number c f g. sext_sext_same _ _ _ f),
    (
      (λ tree number c f g. sext_zext_same _ _ _ f),
      (
        (λ tree number c f g. zext_and_same _ _ _),
        (
          (λ tree number c f g. zext_or_same _ _ _),
          (
            (λ tree number c f g. zext_xor_same _ _ _),
            (
              (λ tree number c f g. sext_and_same _ _ _ f),
              (
                (λ tree number c f g. sext_or_same _ _ _ f),
                (
                  (λ tree number c f g. sext_xor_same _ _ _ f),
                  (
                    (λ tree number c f g. and_slice_same _ _ _ _ _ _ c.0 c.1.0 c.1.1.0 c.1.1.1.0),
                    tt,
                  ),
                ),
              ),
            ),
          ),
        ),
      ),
    ),
  ),
)
