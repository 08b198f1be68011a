-- The marks of a flow's parts: one for each test and the end, in order.
use Rattle.std.proofs.Common.{ℕ, ◌≡◌, ◌≤◌, ◌+◌, List, [], ◌∷◌, ◌++◌, map, Option, Some, None, refl, ap, arith}
use Rattle.code_model.specs.declared.image.Mark.{Mark}
use Rattle.form_model.specs.declared.flow.Flow.{Flow}
use Rattle.form_model.specs.declared.flow.Flow.TheVariants.{Assign, Test as Tested, Jump as Jumped, End as Ended}
use Rattle.form_model.specs.Forms.{FormModel}
use Rattle.branch_fix.specs.declared.part.LayoutPart.{LayoutPart}
use Rattle.branch_fix.specs.declared.part.LayoutPart.TheVariants.{Block, Inner, Test, Jump, End}
use Rattle.branch_fix.specs.Parts.{branch_words, room, marks_from, total, FitsPart, PartsFit}
use Rattle.branch_fix.specs.Marked.{labels, Ascend, AreMarked}
use Rattle.branch_fix.proofs.Addresses.{some_words}

abbrev label_of : Mark → Option ℕ
label_of mark = mark.label

each_label : (forms : List FormModel) (flow : List Flow) (at : ℕ) (rest : List Flow) (parts : List LayoutPart) (a : ℕ) → PartsFit forms flow at rest parts
    → map (λ (mark : Mark). mark.label) (marks_from a parts) ≡ labels rest
each_label forms flow at [] [] a h = refl
each_label forms flow at [] (p ∷ parts) a h = absurd h
each_label forms flow at (f ∷ rest) [] a h = absurd h
each_label forms flow at (f ∷ rest) (p ∷ parts) a h = by f p h.0 (each_label forms flow (at + 1) rest parts (a + room p) h.1)
  where
    by : (f : Flow) (p : LayoutPart) → FitsPart forms flow at f p → map (λ (mark : Mark). mark.label) (marks_from (a + room p) parts) ≡ labels rest
        → map (λ (mark : Mark). mark.label) (marks_from a (p ∷ parts)) ≡ labels (f ∷ rest)
    by (Assign tree) (Block block words) g k = k
    by (Assign tree) Inner g k = k
    by (Assign tree) (Test x) g k = absurd g
    by (Assign tree) (Jump to) g k = absurd g
    by (Assign tree) End g k = absurd g
    by (Tested tree one none) (Test x) g k = (λ j. Some (g.0 j) ∷ k j)
    by (Tested tree one none) (Block block words) g k = absurd g
    by (Tested tree one none) Inner g k = absurd g
    by (Tested tree one none) (Jump to) g k = absurd g
    by (Tested tree one none) End g k = absurd g
    by (Jumped to) (Jump place) g k = k
    by (Jumped to) (Block block words) g k = absurd g
    by (Jumped to) Inner g k = absurd g
    by (Jumped to) (Test x) g k = absurd g
    by (Jumped to) End g k = absurd g
    by Ended End g k = ap (λ xs. None ∷ xs) k
    by Ended (Block block words) g k = absurd g
    by Ended Inner g k = absurd g
    by Ended (Test x) g k = absurd g
    by Ended (Jump to) g k = absurd g

less : (from at end : ℕ) (marks : List Mark) → from ≤ at → Ascend at marks end → Ascend from marks end
less from at end [] le h = omega (arith, h)
less from at end (m ∷ marks) le h = (omega (arith, h.0), h.1)

ascending : (a end : ℕ) (parts : List LayoutPart) → a + total parts ≤ end → Ascend a (marks_from a parts) end
ascending a end [] le = omega arith
ascending a end (Block block words ∷ parts) le = less a (a + words) end (marks_from (a + words) parts) (omega arith) (ascending (a + words) end parts (omega arith))
ascending a end (Inner ∷ parts) le = less a (a + 0) end (marks_from (a + 0) parts) (omega arith) (ascending (a + 0) end parts (omega arith))
ascending a end (Test f ∷ parts) le =
    let s = some_words f.next f.long in
    (omega arith, less (a + 1) (a + (f.words + branch_words f.next f.long)) end (marks_from (a + (f.words + branch_words f.next f.long)) parts) (omega (arith, s)) (ascending (a + (f.words + branch_words f.next f.long)) end parts (omega arith)))
ascending a end (Jump to ∷ parts) le = less a (a + 1) end (marks_from (a + 1) parts) (omega arith) (ascending (a + 1) end parts (omega arith))
ascending a end (End ∷ parts) le = (omega arith, ascending (a + 1) end parts (omega arith))

pub are_marked : (forms : List FormModel) (flow : List Flow) (parts : List LayoutPart) → PartsFit forms flow 0 flow parts
    → AreMarked flow (total parts) (marks_from 0 parts)
are_marked forms flow parts h = record { each = each_label forms flow 0 flow parts 0 h; apart = ascending 0 (total parts) parts (omega arith) }

-- a flow with an end has a label
pub some_label : (flow : List Flow) → labels (flow ++ Ended ∷ []) ≡ [] → ⊥
some_label [] e = cc
some_label (Assign tree ∷ flow) e = some_label flow e
some_label (Tested tree when_one when_zero ∷ flow) e = cc
some_label (Jumped to ∷ flow) e = some_label flow e
some_label (Ended ∷ flow) e = cc

-- marks stand before the last word's end
pub ascend_within : (from end : ℕ) (marks : List Mark) → Ascend from marks end → from ≤ end
ascend_within from end [] h = h
ascend_within from end (mark ∷ marks) h = omega (arith, h.0, ascend_within (mark.address + 1) end marks h.1)
