-- An image that is made for a task fits the netlist.
use Rattle.std.proofs.Common.{◌≡◌, ℕ, suc, ◌+◌, ◌<◌, ◌≤◌, ◌^◌, Bool, true, false, if◌then◌else◌, List, [], ◌∷◌, ◌++◌, map, Option, Some, None, length, slice_get, slice_index, refl, sym, ap, subst, ◌∙◌, arith}
use Rattle.std.specs.List.{AllByRecursion}
use Rattle.std.proofs.lemmas.List.{length-map}
use Rattle.rec_bits.proofs.Lists.{all_append}
use Rattle.net_model.specs.declared.hardware.Code.{Code}
use Rattle.net_model.specs.CheckedRules.{code_size}
use Rattle.net_model.specs.ModeRules.{KeepsInOrder, base_at}
use Rattle.net_model.proofs.Bases.{base_of}
use Rattle.net_model.proofs.ModeFaults.{first_keeps}
use Rattle.form_set.specs.Listing.{greatest_reach}
use Rattle.net_model.specs.Nets.{code_bits}
use Rattle.src_model.specs.declared.program.Cmp.{Cmp}
use Rattle.src_model.specs.declared.program.Cmp.TheVariants.{Ne}
use Rattle.src_model.specs.Written.{StmtModel, assign, choice, while, count, StmtsModel, no_acts, act, ElseModel, without, otherwise, ProgramModel, stmts_of}
use Rattle.src_model.specs.Sizes.{statements, statements_in, statements_else}
use Rattle.code_model.specs.declared.image.Mark.{Mark}
use Rattle.code_model.specs.declared.image.Word.{Word}
use Rattle.code_model.specs.ImageFits.{AreMarksAfter, AscendFrom, CodeFits, CostFits, HasNumber, IsFitting, LabelFits, MarkFits, MayFollow, PlaceFits, limits_in, limits_of}
use Rattle.form_model.specs.declared.flow.Flow.{Flow}
use Rattle.form_model.specs.declared.flow.Flow.TheVariants.{Assign, Test, Jump, End}
use Rattle.src_trees.specs.Flows.{asked, else_entry, flow_else, flow_in, flow_of, places_in, program_flow}
use Rattle.src_trees.specs.Lowered.{holds_at_one}
use Rattle.src_trees.specs.Turned.{Turns, turned_flow}
use Rattle.net_model.proofs.WordWidths.{has_bits}
use Rattle.net_model.specs.Nets.{word_width}
use Rattle.src_model.proofs.Bounds.{few_temps, rules_hold}
use Rattle.code_model.specs.declared.image.Image.{Image}
use Rattle.code_model.specs.Places.{words_of}
use Rattle.code_gen.proofs.Packing.{lists_ascend}
use Rattle.right_code.specs.Images.{IsMadeFor}
use Rattle.right_code.specs.Tasks.{HasJobs, IsChecked, Task}
use Rattle.right_code.proofs.Right.{image_fits}
use Rattle.branch_fix.specs.Marked.{AreMarked, Ascend, labels}

-- ---- limits

pub limit_bits : (codes : List Code) → code_bits (slice_get codes 0) ≡ (limits_in codes).bits
limit_bits [] = refl
limit_bits (code ∷ codes) = refl

pub limit_words : (codes : List Code) → code_size codes ≡ (limits_in codes).words
limit_words [] = refl
limit_words (code ∷ codes) = refl

-- ---- the labels of a program are its trees' numbers, and then that of the end

labels_append : (a b : List Flow) → labels (a ++ b) ≡ labels a ++ labels b
labels_append [] b = refl
labels_append (Assign tree ∷ a) b = labels_append a b
labels_append (Test tree one none ∷ a) b = ap (λ (ls : List (Option ℕ)). Some tree ∷ ls) (labels_append a b)
labels_append (Jump to ∷ a) b = labels_append a b
labels_append (End ∷ a) b = ap (λ (ls : List (Option ℕ)). None ∷ ls) (labels_append a b)

-- labels of trees below a number
abbrev IsBelow : ℕ → Option ℕ → Type 0
IsBelow n None = ⊥
IsBelow n (Some tree) = tree < n

asked_labels : (cmp : Cmp) (tree one none : ℕ) → labels (asked cmp tree one none ∷ []) ≡ Some tree ∷ []
asked_labels cmp tree one none = by (holds_at_one cmp)
  where
    by : (b : Bool) → labels ((if b then Test tree one none else Test tree none one) ∷ []) ≡ Some tree ∷ []
    by true = refl
    by false = refl

both_below : (n : ℕ) (a b : List Flow) → AllByRecursion (IsBelow n) (labels a) → AllByRecursion (IsBelow n) (labels b) → AllByRecursion (IsBelow n) (labels (a ++ b))
both_below n a b h k = subst (AllByRecursion (IsBelow n)) (sym (labels_append a b)) (all_append (IsBelow n) (labels a) (labels b) h k)

asked_below : (n : ℕ) (cmp : Cmp) (tree one none : ℕ) (rest : List Flow) → tree < n → AllByRecursion (IsBelow n) (labels rest) → AllByRecursion (IsBelow n) (labels (asked cmp tree one none ∷ rest))
asked_below n cmp tree one none rest lt h =
    both_below n (asked cmp tree one none ∷ []) rest (subst (AllByRecursion (IsBelow n)) (sym (asked_labels cmp tree one none)) (lt, tt)) h

mutual
  stmt_below : (n : ℕ) (a : StmtModel) (tree at : ℕ) → tree + statements a ≤ n → AllByRecursion (IsBelow n) (labels (flow_of a tree at))
  stmt_below n (assign place e) tree at le = tt
  stmt_below n (choice test taken other) tree at le =
      asked_below n test.cmp tree (at + 1) (else_entry other (at + 1 + places_in taken))
      (flow_in taken (tree + 1) (at + 1) ++ flow_else other (tree + 1 + statements_in taken) (at + 1 + places_in taken)) (omega arith)
      (both_below n (flow_in taken (tree + 1) (at + 1)) (flow_else other (tree + 1 + statements_in taken) (at + 1 + places_in taken))
      (stmts_below n taken (tree + 1) (at + 1) (omega arith)) (else_below n other (tree + 1 + statements_in taken) (at + 1 + places_in taken) (omega arith)))
  stmt_below n (while test body) tree at le =
      asked_below n test.cmp tree (at + 1) (at + 1 + places_in body + 1) (flow_in body (tree + 1) (at + 1) ++ Jump at ∷ []) (omega arith)
      (both_below n (flow_in body (tree + 1) (at + 1)) (Jump at ∷ []) (stmts_below n body (tree + 1) (at + 1) (omega arith)) tt)
  stmt_below n (count counter from_at from to body) tree at le =
      asked_below n Ne (tree + 1) (at + 2) (at + 2 + places_in body + 2)
      (flow_in body (tree + 2) (at + 2) ++ Assign (tree + 2 + statements_in body) ∷ (Jump (at + 1) ∷ [])) (omega arith)
      (both_below n (flow_in body (tree + 2) (at + 2)) (Assign (tree + 2 + statements_in body) ∷ (Jump (at + 1) ∷ [])) (stmts_below n body (tree + 2) (at + 2) (omega arith)) tt)

  stmts_below : (n : ℕ) (l : StmtsModel) (tree at : ℕ) → tree + statements_in l ≤ n → AllByRecursion (IsBelow n) (labels (flow_in l tree at))
  stmts_below n no_acts tree at le = tt
  stmts_below n (act a rest) tree at le =
      both_below n (flow_of a tree at) (flow_in rest (tree + statements a) _) (stmt_below n a tree at (omega arith)) (stmts_below n rest (tree + statements a) _ (omega arith))

  else_below : (n : ℕ) (o : ElseModel) (tree at : ℕ) → tree + statements_else o ≤ n → AllByRecursion (IsBelow n) (labels (flow_else o tree at))
  else_below n without tree at le = tt
  else_below n (otherwise body) tree at le = stmts_below n body tree (at + 1) (omega arith)

-- ---- marks

label_fits : (n : ℕ) → n ≤ 2 ^ 32 → (o : Option ℕ) → IsBelow n o → LabelFits o
label_fits n le None h = absurd h
label_fits n le (Some tree) h = omega (arith, h, le)

has_number : (n : ℕ) (o : Option ℕ) → IsBelow n o → HasNumber o
has_number n None h = absurd h
has_number n (Some tree) h = tt

-- what may come before a mark from an address on
abbrev IsLastBefore : Option Mark → ℕ → Type 0
IsLastBefore None from = Unit {0}
IsLastBefore (Some mark) from = (mark.address < from) × HasNumber mark.label

may_follow : (last : Option Mark) (from : ℕ) (m : Mark) → IsLastBefore last from → from ≤ m.address → MayFollow last m
may_follow None from m h le = tt
may_follow (Some x) from m h le = (omega (arith, h.0, le), h.1)

ascend_le : (from : ℕ) (marks : List Mark) (words : ℕ) → Ascend from marks words → from ≤ words
ascend_le from [] words h = h
ascend_le from (m ∷ marks) words h = let k = ascend_le (m.address + 1) marks words h.1 in omega (arith, h.0, k)

-- marks in order, of which all but the last have numbers
marks_follow : (n : ℕ) → n ≤ 2 ^ 32 → (words : ℕ) → words ≤ 2 ^ 32 → (ls : List (Option ℕ)) → AllByRecursion (IsBelow n) ls → (marks : List Mark) (last : Option Mark) (from : ℕ)
    → map (λ (mark : Mark). mark.label) marks ≡ ls ++ None ∷ [] → Ascend from marks words → IsLastBefore last from → AllByRecursion MarkFits marks × AreMarksAfter last marks
marks_follow n few words short [] below [] last from e up before = absurd cc
marks_follow n few words short [] below (m ∷ []) last from e up before =
    let label : m.label ≡ None = cc in
    let le = up.0 in let past = up.1 in (
      (record { address = omega (arith, le, past, short); label = subst LabelFits (sym label) tt }, tt),
      (may_follow last from m before le, tt),
    )
marks_follow n few words short [] below (m ∷ x ∷ marks) last from e up before = absurd (let more : (m.label ∷ x.label ∷ map (λ (mark : Mark). mark.label) marks) ≡ None ∷ [] = e in cc)
marks_follow n few words short (l ∷ ls) below [] last from e up before = absurd cc
marks_follow n few words short (l ∷ ls) below (m ∷ marks) last from e up before =
    let label : m.label ≡ l = cc in
    let rest : map (λ (mark : Mark). mark.label) marks ≡ ls ++ None ∷ [] = cc in
    let is_below : IsBelow n m.label = subst (IsBelow n) (sym label) below.0 in
    let past = ascend_le (m.address + 1) marks words up.1 in
    let h = marks_follow n few words short ls below.1 marks (Some m) (m.address + 1) rest up.1 (omega arith, has_number n m.label is_below) in (
      (record { address = omega (arith, past, short); label = label_fits n few m.label is_below }, h.0),
      (may_follow last from m before up.0, h.1),
    )

-- a turned test keeps its number
turned_labels : (turned : Turns) (flow : List Flow) → labels (turned_flow turned flow) ≡ labels flow
turned_labels turned [] = refl
turned_labels turned (Assign tree ∷ rest) = turned_labels turned rest
turned_labels turned (Test tree one none ∷ rest) = by (turned tree) ∙ ap (λ (ls : List (Option ℕ)). Some tree ∷ ls) (turned_labels turned rest)
  where
    by : (b : Bool) → labels ((if b then Test tree none one else Test tree one none) ∷ turned_flow turned rest) ≡ Some tree ∷ labels (turned_flow turned rest)
    by true = refl
    by false = refl
turned_labels turned (Jump to ∷ rest) = turned_labels turned rest
turned_labels turned (End ∷ rest) = ap (λ (ls : List (Option ℕ)). None ∷ ls) (turned_labels turned rest)

program_labels : (l : ProgramModel) → labels (program_flow l) ≡ labels (flow_in (stmts_of l.body) 0 0) ++ None ∷ []
program_labels l = labels_append (flow_in (stmts_of l.body) 0 0) (End ∷ [])

-- the marks of a task's code fit an image
pub marks_fit : (task : Task) → HasJobs task → (words : ℕ) (marks : List Mark) → statements_in (stmts_of task.program.body) ≤ 65536 → words ≤ 2 ^ 32 → AreMarked task.flow words marks → AllByRecursion MarkFits marks × AreMarksAfter None marks
marks_fit task jobs words marks few short h =
    let l = task.program in
    let own : labels task.flow ≡ labels (program_flow l) = ap labels jobs.flow ∙ turned_labels jobs.turned (program_flow l) in
    marks_follow 65536 (omega arith) words short (labels (flow_in (stmts_of l.body) 0 0)) (stmts_below 65536 (stmts_of l.body) 0 0 (omega arith)) marks None 0 (h.each ∙ own ∙ program_labels l) h.apart tt

-- ---- words

-- words of so many bits whose patterns ascend
pub codes_fit : (bits : ℕ) (words : List Word) → ((k : ℕ) → slice_index (map (λ (w : Word). w.word) words) k < 2 ^ bits) → AllByRecursion (λ (word : Word). AscendFrom 0 word.patterns) words → AllByRecursion (CodeFits bits) words
codes_fit bits [] fits ascend = tt
codes_fit bits (w ∷ words) fits ascend =
    (record { word = fits 0; patterns = ascend.0 }, codes_fit bits words (λ k. fits (suc k)) ascend.1)

-- ---- images

pub codes_small : (codes : List Code) → AllByRecursion (λ (code : Code). code.words ≤ 65536) codes → code_size codes ≤ 65536
codes_small [] h = omega arith
codes_small (code ∷ codes) h = h.0

-- an image that is made for a task fits its netlist
pub image_fitting : (task : Task) → IsChecked task → (image : Image) (made : IsMadeFor task image) → length (words_of image) ≤ code_size task.netlist.codes → length (words_of image) ≤ greatest_reach (made.isas 0).keeping
    → AllByRecursion PlaceFits image.places → AllByRecursion CostFits image.costs → IsFitting (limits_of task.netlist) image
image_fitting task checked image made room reached places costs =
    let first : KeepsInOrder (base_at task.netlist 0) = first_keeps task.netlist checked.netlist in
    let codes : (base_at task.netlist 0).codes ≡ task.netlist.codes = (base_of task.netlist task.netlist.special 0).codes in
    let small : code_size task.netlist.codes ≤ 65536 = subst (λ (list : List Code). code_size list ≤ 65536) codes (codes_small (base_at task.netlist 0).codes first.rules.formed.limits.words) in
    let statements : statements_in (stmts_of task.program.body) ≤ 65536 = (rules_hold task.width task.program checked.program).few_statements in
    let temps = few_temps task.width task.program checked.program in
    let as_told = made.layout.temps in
    let marks = marks_fit task checked.jobs (length (words_of image)) image.marks statements (omega (arith, room, small)) made.marked in
    let long : length (words_of image) ≡ length image.words = length-map image.words (λ (w : Word). w.word) in
    let bits : word_width task.netlist ≡ (limits_of task.netlist).bits = limit_bits task.netlist.codes in
    let some : 0 < word_width task.netlist = subst (λ (list : List Code). 0 < code_bits (slice_get list 0)) codes (has_bits (base_at task.netlist 0) first.order first.rules) in
    record {
      bits = made.bits ∙ bits;
      few = let words = limit_words task.netlist.codes in omega (arith, room, long, words);
      temps = omega (arith, temps, as_told);
      places = places;
      costs = costs;
      marks = marks.0;
      in_order = marks.1;
      words =
          codes_fit (limits_of task.netlist).bits image.words
          (λ k. subst (λ b. slice_index (words_of image) k < 2 ^ b) bits ((image_fits task checked image made room reached k).fits 0 some)) (lists_ascend made.groups _ image.words made.lists);
    }
