-- The layout as a whole.
use Rattle.std.proofs.Common.{ℕ, ◌≡◌, ◌≤◌, ◌<◌, ◌+◌, List, length, sym, ◌∙◌, ap, subst, arith}
use Rattle.form_model.specs.declared.flow.Flow.{Flow}
use Rattle.form_model.specs.Forms.{FormModel}
use Rattle.branch_fix.specs.declared.outline.Branch.{Branch}
use Rattle.branch_fix.specs.declared.part.LayoutPart.{LayoutPart}
use Rattle.branch_fix.specs.declared.laid.Laid.{Laid}
use Rattle.branch_fix.specs.Items.{jump_form, items_from}
use Rattle.branch_fix.specs.Laid.{OutlineModel, ArePartsOf, IsLaid, IsImageFull}
use Rattle.branch_fix.specs.Marked.{AreMarked}
use Rattle.branch_fix.specs.Parts.{parts_of, starts, marks_from, total}
use Rattle.branch_fix.specs.Rounds.{IsFixpoint}
use Rattle.branch_fix.specs.Bounds.{sum_of, control_words}
use Rattle.branch_fix.proofs.Laying.{laid_le, settled_fit}
use Rattle.branch_fix.proofs.Marking.{are_marked}
use Rattle.branch_fix.proofs.Words.{items_length}

-- after the rounds there are at most as many words as the bound says
pub settled_le : (forms : List FormModel) (flow : List Flow) (sizes : List ℕ) (forks : List Branch) (parts : List LayoutPart)
    → IsFixpoint forms (parts_of forms flow sizes forks) parts → total parts ≤ sum_of sizes + control_words flow
settled_le forms flow sizes forks parts s = subst (λ p. total p ≤ sum_of sizes + control_words flow) (sym s.made) (laid_le forms flow sizes forks s.count)

-- there is no room for all of them
pub full : (o : OutlineModel) (parts slice : List LayoutPart) (len : ℕ) → ArePartsOf o parts → slice ≡ parts → len ≡ total slice
    → sum_of o.sizes + control_words o.flow ≤ o.bound → o.words < len → IsImageFull o len
full o parts slice len q e t b lt =
    let m = settled_le o.forms o.flow o.sizes o.branches parts q in
    let n : len ≡ total parts = t ∙ ap total e in
    record { parts = parts; settled = q; long = n; above = lt; most = omega (arith, m, n, b) }

pub laid_by : (o : OutlineModel) (laid : Laid) (parts slice other : List LayoutPart) (len : ℕ) → ArePartsOf o parts → slice ≡ parts → len ≡ total slice → other ≡ parts
    → sum_of o.sizes + control_words o.flow ≤ o.bound → o.bound ≤ o.reach → len ≤ o.words
    → laid.items ≡ items_from o.forms (jump_form o.forms o.reach) (starts other) 0 other → laid.marks ≡ marks_from 0 other → IsLaid o laid
laid_by o laid parts slice other len q e t same b reach le items marks =
    let m = settled_le o.forms o.flow o.sizes o.branches parts q in
    let n : len ≡ total parts = t ∙ ap total e in
    let are : laid.items ≡ items_from o.forms (jump_form o.forms o.reach) (starts parts) 0 parts = items ∙ (λ j. items_from o.forms (jump_form o.forms o.reach) (starts (same j)) 0 (same j)) in
    let long : length laid.items ≡ total parts = ap length are ∙ items_length o.forms (jump_form o.forms o.reach) (starts parts) 0 parts in
    let own : laid.marks ≡ marks_from 0 parts = marks ∙ ap (marks_from 0) same in
    let marked : AreMarked o.flow (total parts) (marks_from 0 parts) = are_marked o.forms o.flow parts (settled_fit o.forms o.flow o.sizes o.branches parts q) in
    record {
      parts = parts;
      settled = q;
      items = are;
      long = long;
      marks = own;
      marked = subst (λ n. AreMarked o.flow n laid.marks) (sym long) (subst (λ ms. AreMarked o.flow (total parts) ms) (sym own) marked);
      reached = reach;
      fits = omega (arith, n, le, long);
      most = omega (arith, m, b, long);
    }
