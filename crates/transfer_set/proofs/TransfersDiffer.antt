-- Different transfers of a storage have different texts.
use Rattle.std.proofs.Common.{◌≡◌, ◌≢◌, ℕ, List, [], ◌∷◌, ◌++◌, codes, refl, ap, sym}
use Rattle.std.specs.List.{concat}
use Rattle.std.proofs.lemmas.List.{append_cancel_left}
use Rattle.net_model.specs.declared.hardware.Netlist.{Netlist}
use Rattle.net_model.specs.CheckedRules.{KeepsRules}
use Rattle.net_model.specs.Exprs.{TransferModel, keep, write, write_at}
use Rattle.net_model.specs.Texts.{text_of_transfer, name_of, expr_text}
use Rattle.transfer_set.specs.TextMarks.{HasPlainNames, IsTransferOf}
use Rattle.transfer_set.proofs.TextsDiffer.{differ}

-- the text of a value behind a name
values_same : (name t u : List ℕ) → concat (name ∷ codes " := " ∷ t ∷ []) ≡ concat (name ∷ codes " := " ∷ u ∷ []) → t ++ [] ≡ u ++ []
values_same name t u e = append_cancel_left (codes " := ") (t ++ []) (u ++ []) (append_cancel_left name (codes " := " ++ (t ++ [])) (codes " := " ++ (u ++ [])) e)

-- the texts of an address and a value behind a name
addresses_same : (name k l t u : List ℕ) → concat (name ∷ codes "[" ∷ k ∷ codes "] := " ∷ t ∷ []) ≡ concat (name ∷ codes "[" ∷ l ∷ codes "] := " ∷ u ∷ [])
    → k ++ (codes "] := " ++ (t ++ [])) ≡ l ++ (codes "] := " ++ (u ++ []))
addresses_same name k l t u e =
    append_cancel_left (codes "[") (k ++ (codes "] := " ++ (t ++ []))) (l ++ (codes "] := " ++ (u ++ [])))
    (append_cancel_left name (codes "[" ++ (k ++ (codes "] := " ++ (t ++ [])))) (codes "[" ++ (l ++ (codes "] := " ++ (u ++ [])))) e)

-- a value alone is not one at an address
never_both : (name t k u : List ℕ) → concat (name ∷ codes " := " ∷ t ∷ []) ≡ concat (name ∷ codes "[" ∷ k ∷ codes "] := " ∷ u ∷ []) → ⊥
never_both name t k u e =
    let behind : codes " := " ++ (t ++ []) ≡ codes "[" ++ (k ++ (codes "] := " ++ (u ++ []))) = append_cancel_left name (codes " := " ++ (t ++ [])) (codes "[" ++ (k ++ (codes "] := " ++ (u ++ [])))) e in
    cc

module _ (netlist : Netlist) (order : List ℕ) (kept : KeepsRules netlist order) (plain : HasPlainNames netlist) where
  pub same_transfer : (id : ℕ) (m n : TransferModel) → m ≢ keep → n ≢ keep → IsTransferOf netlist m → IsTransferOf netlist n → text_of_transfer netlist id m ≡ text_of_transfer netlist id n → m ≡ n
  same_transfer id keep n p q f g e = absurd (p refl)
  same_transfer id m keep p q f g e = absurd (q refl)
  same_transfer id (write a) (write b) p q f g e =
      ap write (differ netlist plain kept.formed.names kept.roles.code a b f g [] [] tt tt (values_same (name_of netlist id) (expr_text netlist a) (expr_text netlist b) e)).0
  same_transfer id (write a) (write_at k b) p q f g e = absurd (never_both (name_of netlist id) (expr_text netlist a) (expr_text netlist k) (expr_text netlist b) e)
  same_transfer id (write_at k a) (write b) p q f g e = absurd (never_both (name_of netlist id) (expr_text netlist b) (expr_text netlist k) (expr_text netlist a) (sym e))
  same_transfer id (write_at k a) (write_at l b) p q f g e =
      let behind = addresses_same (name_of netlist id) (expr_text netlist k) (expr_text netlist l) (expr_text netlist a) (expr_text netlist b) e in
      let first = differ netlist plain kept.formed.names kept.roles.code k l f.0 g.0 (codes "] := " ++ (expr_text netlist a ++ [])) (codes "] := " ++ (expr_text netlist b ++ [])) refl refl behind in
      let second = differ netlist plain kept.formed.names kept.roles.code a b f.1 g.1 [] [] tt tt (append_cancel_left (codes "] := ") (expr_text netlist a ++ []) (expr_text netlist b ++ []) first.1) in
      (λ j. write_at (first.0 j) (second.0 j))
