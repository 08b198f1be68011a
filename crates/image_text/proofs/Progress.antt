-- Going over the lines.
use Rattle.std.proofs.Common.{◌≡◌, ℕ, ◌+◌, ◌-◌, List, [], ◌∷◌, ◌++◌, length, Option, Some, None, refl, sym, ap, ◌∙◌, append_assoc, length-append, arith}
use Rattle.std.proofs.lemmas.List.{append-nil}
use Rattle.std.specs.List.{concat}
use Rattle.text_lines.proofs.Joined.{concat-snoc}
use Rattle.text_lines.specs.Lines.{lines_of, IsFirstLine}
use Rattle.code_model.specs.declared.limits.Limits.{Limits}
use Rattle.image_text.specs.declared.front.Front.{Front}
use Rattle.image_text.specs.declared.front.Front.TheVariants.{Nothing}
use Rattle.image_text.specs.Inner.Fronts.{step_line, reads, IsRead, StopsAt}
use Rattle.text_lines.specs.Fields.{◌>>=◌}

-- some lines of the bytes were read, and the rest is left
pub record Progress (limits : Limits) (bytes rest : List ℕ) (front : Front) : Type 0 where
  pub before : List (List ℕ)
  pub lines : lines_of bytes ≡ before ++ lines_of rest
  pub read : reads limits Nothing before ≡ Some front
  pub place : length (concat before) + length rest ≡ length bytes

pub begins : (limits : Limits) (bytes : List ℕ) → Progress limits bytes bytes Nothing
unfolding reads
begins limits bytes = record { before = []; lines = refl; read = refl; place = omega arith }

pub reads-append : (limits : Limits) (f : Front) (xs ys : List (List ℕ)) → reads limits f (xs ++ ys) ≡ (reads limits f xs >>= λ g. reads limits g ys)
unfolding reads
reads-append limits f [] ys = refl
reads-append limits f (x ∷ xs) ys = step (step_line limits f x) (λ g. reads-append limits g xs ys)
  where
    step : (o : Option Front) → ((g : Front) → reads limits g (xs ++ ys) ≡ (reads limits g xs >>= λ g. reads limits g ys)) → (o >>= λ g. reads limits g (xs ++ ys)) ≡ ((o >>= λ g. reads limits g xs) >>= λ g. reads limits g ys)
    step None ih = refl
    step (Some g) ih = ih g

one_more : (limits : Limits) (f g : Front) (xs : List (List ℕ)) (line : List ℕ) → reads limits Nothing xs ≡ Some f → step_line limits f line ≡ Some g → reads limits Nothing (xs ++ (line ∷ [])) ≡ Some g
unfolding reads
one_more limits f g xs line p q = reads-append limits Nothing xs (line ∷ []) ∙ rw (p, q) refl

pub goes_on : (limits : Limits) (bytes rest line more : List ℕ) (f g : Front) → Progress limits bytes rest f → IsFirstLine rest line more → step_line limits f line ≡ Some g → Progress limits bytes more g
goes_on limits bytes rest line more f g p first s = record {
  before = p.before ++ (line ∷ []);
  lines = p.lines ∙ ap (λ ls. p.before ++ ls) first.lines ∙ sym (append_assoc p.before (line ∷ []) (lines_of more));
  read = one_more limits f g p.before line p.read s;
  place = omega (arith, p.place, concat-snoc p.before line, ap length first.parts, length-append line more);
}

pub stops : (limits : Limits) (bytes rest line more : List ℕ) (f : Front) → Progress limits bytes rest f → IsFirstLine rest line more → step_line limits f line ≡ None → StopsAt limits bytes (length bytes - length rest)
stops limits bytes rest line more f p first s = record {
  before = p.before;
  line = line;
  after = lines_of more;
  front = f;
  lines = p.lines ∙ ap (λ ls. p.before ++ ls) first.lines;
  read = p.read;
  stops = s;
  place = omega (arith, p.place);
}

pub ends : (limits : Limits) (bytes rest : List ℕ) (f : Front) → Progress limits bytes rest f → rest ≡ [] → IsRead limits bytes f
unfolding lines_of
ends limits bytes rest f p e = record { all = ap (reads limits Nothing) (p.lines ∙ ap (λ r. p.before ++ lines_of r) e ∙ append-nil p.before) ∙ p.read }
