-- What stands before the LF at the end of a line.
use Rattle.std.proofs.Common.{◌≡◌, ◌==◌, List, [], ◌∷◌, ◌++◌, ℕ, length, true, Some, refl, eqb-true, arith}
use Rattle.std.proofs.lemmas.Option.{cond_some}
use Rattle.text_lines.specs.Fields.{parts_at, only_front, line_end}
use Rattle.text_lines.proofs.Parts.{Avoids, parts_are, parts_again}
use Rattle.text_lines.proofs.Steps.{bind_ok, bind_again}

nil_of : (xs : List ℕ) → (length xs == 0) ≡ true → xs ≡ []
nil_of [] e = refl
nil_of (x ∷ xs) e = absurd (omega (arith, eqb-true (length (x ∷ xs)) 0 e))

pub end_is : (text front : List ℕ) → line_end text ≡ Some front → text ≡ front ++ (10 ∷ [])
unfolding line_end
end_is text front e =
    let b = bind_ok (parts_at 10 text) only_front front e in
    let p = cond_some (length b.value.1 == 0) b.value.0 front b.then in
    let whole : text ≡ b.value.0 ++ (10 ∷ b.value.1) = parts_are 10 text b.value.0 b.value.1 b.first in
    rw (p.1, nil_of b.value.1 p.0) at whole

pub end_again : (front : List ℕ) → Avoids 10 front → line_end (front ++ (10 ∷ [])) ≡ Some front
unfolding line_end
end_again front out = bind_again (parts_at 10 (front ++ (10 ∷ []))) only_front (front, []) (Some front) (parts_again 10 front [] out) refl
