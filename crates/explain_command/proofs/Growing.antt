-- Texts that grow, part by part.
use Rattle.std.proofs.Common.{◌≡◌, ℕ, ◌+◌, ◌==◌, Bool, true, false, not, cond, List, [], ◌∷◌, ◌++◌, map, refl, ap, sym, subst, ◌∙◌, append_assoc}
use Rattle.std.proofs.lemmas.Bool.{false≢true}
use Rattle.std.proofs.lemmas.List.{append-nil}
use Rattle.std.proofs.lemmas.List.Sums.{take_while-cons}
use Rattle.std.specs.List.{take_while}
use Rattle.net_model.specs.declared.hardware.Netlist.{Netlist}
use Rattle.net_model.specs.Exprs.{ExprModel}
use Rattle.form_model.specs.Covers.{StockModel}
use Rattle.form_model.specs.Trees.{model_of_tree}
use Rattle.form_model.specs.declared.trees.Tree.{Tree}
use Rattle.src_trees.specs.Lowered.{JobModel}
use Rattle.job_places.specs.Places.{JobPlaceModel}
use Rattle.explain_command.specs.Explained.{AreJobTexts, AreLackLines, AreNearLines, IsInner, IsJobText}
use Rattle.explain_command.specs.Inner.Telling.{Adds, Begins}
use Rattle.explain_command.specs.Lines.{lack_line, lines_of, near_line}

-- ---- one part further

module _ (old new : List ℕ) (Left Whole : List ℕ → Type 0) where
  -- a part that leaves less behind it
  pub begins_on : (Rest : List ℕ → Type 0) (part next : List ℕ) → ((later : List ℕ) → Rest later → Left (part ++ later))
      → next ≡ new ++ part → Begins Left Whole old new → Begins Rest Whole old next
  begins_on Rest part next left is b = record {
    more = b.more ++ part;
    on = λ later rest. subst Whole (sym (append_assoc b.more part later)) (b.on (part ++ later) (left later rest));
    text = is ∙ ap (λ l. l ++ part) b.text ∙ append_assoc old b.more part;
  }

  -- nothing is left
  pub begins_end : Left [] → Begins Left Whole old new → Adds Whole old new
  begins_end left b = record { more = b.more; is = subst Whole (append-nil b.more) (b.on [] left); text = b.text }

-- nothing was told yet
pub begins_none : (old : List ℕ) (Whole : List ℕ → Type 0) → Begins Whole Whole old old
begins_none old Whole = record { more = []; on = λ later is. is; text = sym (append-nil old) }

-- one part and another
pub adds_both : (old mid new first : List ℕ) (Second Whole : List ℕ → Type 0) → ((more : List ℕ) → Second more → Whole (first ++ more))
    → mid ≡ old ++ first → Adds Second mid new → Adds Whole old new
adds_both old mid new first Second Whole join is b = record {
  more = first ++ b.more;
  is = join b.more b.is;
  text = b.text ∙ ap (λ l. l ++ b.more) is ∙ append_assoc old first b.more;
}

-- ---- lines of trees

pub tree_next : (netlist : Netlist) (word : List ℕ) (left rest : List Tree) (tree : Tree) (old new whole line : List ℕ) → left ≡ tree ∷ rest
    → new ≡ old ++ line → line ++ lines_of netlist word (map model_of_tree rest) ≡ lines_of netlist word (map model_of_tree (tree ∷ rest))
    → old ++ lines_of netlist word (map model_of_tree left) ≡ whole → new ++ lines_of netlist word (map model_of_tree rest) ≡ whole
tree_next netlist word left rest tree old new whole line is e f w =
    ap (λ l. l ++ lines_of netlist word (map model_of_tree rest)) e
    ∙ append_assoc old line (lines_of netlist word (map model_of_tree rest))
    ∙ ap (λ l. old ++ l) (f ∙ ap (λ l. lines_of netlist word (map model_of_tree l)) (sym is)) ∙ w

-- ---- lines on near forms

-- what stands before an LF has none
pub inner_front : (xs : List ℕ) → IsInner (take_while (λ byte. not (byte == 10)) xs)
inner_front [] = tt
inner_front (x ∷ xs) =
    subst IsInner (sym (take_while-cons (λ byte. not (byte == 10)) x xs)) (at (inner_front xs) (not (x == 10)) refl)
  where
    at : IsInner (take_while (λ byte. not (byte == 10)) xs) → (b : Bool) → not (x == 10) ≡ b → IsInner (cond b (x ∷ take_while (λ byte. not (byte == 10)) xs) [])
    at front true e = ((λ same. false≢true (sym (ap (λ n. not (n == 10)) same) ∙ e)), front)
    at front false e = tt

pub no_near : AreNearLines []
no_near = record { rests = []; inner = tt; lines = refl }

pub near_more : (rest later : List ℕ) → IsInner rest → AreNearLines later → AreNearLines (near_line rest ++ later)
near_more rest later inner near = record {
  rests = rest ∷ near.rests;
  inner = (inner, near.inner);
  lines = ap (λ l. near_line rest ++ l) near.lines;
}

-- ---- lacking trees, and jobs

pub lacks_more : (netlist : Netlist) (tree : ExprModel) (trees : List ExprModel) (near later : List ℕ) → AreNearLines near → AreLackLines netlist trees later
    → AreLackLines netlist (tree ∷ trees) ((lack_line netlist tree ++ near) ++ later)
lacks_more netlist tree trees near later is told =
    (near, is, later, told, append_assoc (lack_line netlist tree) near later ∙ ap (λ l. lack_line netlist tree ++ (near ++ l)) (sym (append-nil later)))

pub jobs_more : (netlist : Netlist) (stock : StockModel) (src : List ℕ) (number : ℕ) (spot : JobPlaceModel) (spots : List JobPlaceModel) (job : JobModel) (jobs : List JobModel) (own later : List ℕ)
    → IsJobText netlist stock src number spot job own → AreJobTexts netlist stock src (number + 1) spots jobs later
    → AreJobTexts netlist stock src number (spot ∷ spots) (job ∷ jobs) (own ++ later)
jobs_more netlist stock src number spot spots job jobs own later is told = (own, is, later, told, refl)
