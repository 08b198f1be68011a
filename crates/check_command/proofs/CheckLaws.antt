-- The answers on three texts exclude each other.
use Rattle.std.proofs.Common.{◌≡◌, ℕ, ◌<◌, ◌==◌, ◌&&◌, false, zero, suc, List, [], ◌∷◌, length, Option, Some, None, IsSomeAnd, refl, sym, ap, subst, ◌∙◌, arith, rules, inl, inr, map, slice_get}
use Rattle.std.proofs.lemmas.Bool.{cases_lt}
use Rattle.std.proofs.lemmas.List.{length-map}
use Rattle.rec_bits.proofs.Options.{same_Some}
use Rattle.rec_bits.specs.Faults.{same_name}
use Rattle.net_model.specs.declared.fault.NetFault.{NetFault}
use Rattle.net_model.specs.declared.hardware.Netlist.{Netlist}
use Rattle.net_model.specs.Exprs.{model_of_expr}
use Rattle.net_model.specs.Written.{UnitsModel}
use Rattle.net_front.specs.Fronts.{taken_of}
use Rattle.net_front.specs.Taken.{BreaksTaken, IsLater, IsTakenFile, added_role}
use Rattle.net_front.proofs.TakenLaws.{no_broken_for, not_later}
use Rattle.src_model.specs.declared.fault.SrcFault.{SrcFault}
use Rattle.src_front.specs.Fronts.{BreaksSrcRule}
use Rattle.src_front.proofs.FrontLaws.{no_broken_rule, one_broken_rule as one_broken_src_rule}
use Rattle.code_model.specs.declared.image.Image.{Image}
use Rattle.code_model.specs.declared.views.View.{View}
use Rattle.code_model.specs.Views.{IsPlainView}
use Rattle.viewed_text.specs.Texts.{IsRemarkedFault}
use Rattle.viewed_text.proofs.Once.{one_remarked_fault}
use Rattle.view_parts.specs.Said.{ViewModel, hidden_said, model_of_view, views_said}
use Rattle.std.proofs.lemmas.Option.{slice_get_within}
use Rattle.src_model.specs.declared.checkpoint.Checkpoint.TheVariants.{At}
use Rattle.src_model.specs.declared.program.Var.{Var as Declared}
use Rattle.src_model.specs.Written.{ProgramModel}
use Rattle.code_model.specs.declared.image.Mark.{Mark as ImageMark}
use Rattle.code_model.specs.declared.views.Hidden.{Hidden}
use Rattle.code_model.specs.Places.{label_at}
use Rattle.form_model.specs.declared.flow.Flow.{Flow}
use Rattle.form_model.specs.declared.flow.Flow.TheVariants.{Test}
use Rattle.follow.specs.MarkFaults.{AreMarksRight, IsMarkFault, IsUnmarked}
use Rattle.follow.specs.RightByViews.{IsTestOf}
use Rattle.follow.specs.declared.mark_faults.MarkFault.TheVariants.{Unmarked, End as EndMark, Stray}
use Rattle.follow.specs.declared.mark_faults.MarkFault.{MarkFault}
use Rattle.check_command.specs.Checked.{BreaksCheckedSrc, BreaksImageRule, HasCheckedNet, HasCheckedSrc, IsNoViewedFile, KeepsAllRules}
use Rattle.check_command.specs.Places.{ArePlacesRight, IsNameAt, IsPlaceFault}
use Rattle.check_command.specs.Rules.{ArePlaced, HasPlainViews, IsRuleFault, KeepsImageRules}
use Rattle.check_command.specs.Tasks.{CheckHolds, CheckTask, IsCheckTask, IsViewedText, checked_edition, word_bits}
use Rattle.check_command.specs.Views.{AreViewsRight, IsModest, IsRightView, IsViewFault}
use Rattle.check_command.specs.declared.fault.RuleFault.{RuleFault}
use Rattle.check_command.specs.declared.fault.RuleFault.TheVariants.{Place, Temps, Mark, View as ViewAt, EndWord}

-- bytes say one list of items
pub one_list : (net : List ℕ) (e f : UnitsModel) → IsTakenFile checked_edition net e → IsTakenFile checked_edition net f → f ≡ e
one_list net e f p q = q.file.says.only e p.file.says.text

-- ---- the netlist and the program

pub none_broken : (net : List ℕ) → HasCheckedNet net → (fault : NetFault) → BreaksTaken checked_edition net fault → ⊥
none_broken net h fault breaks =
    no_broken_for (IsLater checked_edition) added_role net h.entries fault h.file.file (not_later checked_edition h.entries.edition h.file.taken) breaks

pub one_broken_src : (net src : List ℕ) (fault later : SrcFault) → BreaksCheckedSrc net src fault → BreaksCheckedSrc net src later → fault ≡ later
one_broken_src net src fault later a b =
    one_broken_src_rule src (word_bits a.entries) fault later a.breaks
    (subst (λ e. BreaksSrcRule src (word_bits e) later) (one_list net a.entries b.entries a.net_file b.net_file) b.breaks)

pub none_broken_src : (net src : List ℕ) → HasCheckedSrc net src → (fault : SrcFault) → BreaksCheckedSrc net src fault → ⊥
none_broken_src net src h fault b =
    no_broken_rule src (word_bits h.entries) h.program fault h.src_file
    (subst (λ e. BreaksSrcRule src (word_bits e) fault) (one_list net h.entries b.entries h.net_file b.net_file) b.breaks)

pub has_net : (net src : List ℕ) → HasCheckedSrc net src → HasCheckedNet net
has_net net src h = record { entries = h.entries; file = h.net_file }

pub has_src : (net src img : List ℕ) (P : CheckTask → Type 0) → CheckHolds net src img P → HasCheckedSrc net src
has_src net src img P h = record {
  entries = h.is.entries;
  net_file = h.is.net_file;
  program = h.task.program;
  src_file = rw (sym h.is.width) h.is.src_file;
}

-- ---- the text of the image

pub one_no_image : (net img : List ℕ) (a b : ℕ) → IsNoViewedFile net img a → IsNoViewedFile net img b → a ≡ b
one_no_image net img a b p q =
    one_remarked_fault (taken_of p.entries) img a b p.none
    (subst (λ e. IsRemarkedFault (taken_of e) img b) (one_list net p.entries q.entries p.net_file q.net_file) q.none)

pub none_no_image : (net src img : List ℕ) (P : CheckTask → Type 0) → CheckHolds net src img P → (at : ℕ) → IsNoViewedFile net img at → ⊥
none_no_image net src img P h at q =
    let fault : IsRemarkedFault (taken_of h.is.entries) img at =
    subst (λ e. IsRemarkedFault (taken_of e) img at) (one_list net h.is.entries q.entries h.is.net_file q.net_file) q.none in
    fault.whole h.task.viewed.image h.is.image_text.remarks (rw (sym h.is.netlist) h.is.image_text.says.text)

-- ---- views that the same remarks say

record Alike (a b : View) : Type 0 where
  address : a.address ≡ b.address
  name : a.name ≡ b.name
  value : model_of_expr a.value ≡ model_of_expr b.value

record AlikeAt (views : List View) (k : ℕ) (a : View) : Type 0 where
  other : View
  there : slice_get views k ≡ Some other
  alike : Alike a other

alike_at : (v w : List View) → map model_of_view v ≡ map model_of_view w → (k : ℕ) (a : View) → slice_get v k ≡ Some a → AlikeAt w k a
alike_at [] w e k a f = absurd (cc f)
alike_at (x ∷ v) [] e k a f = absurd (cc e)
alike_at (x ∷ v) (y ∷ w) e zero a f =
    let same : x ≡ a = same_Some x a f in
    let first : model_of_view x ≡ model_of_view y = cc in
    record {
      other = y;
      there = refl;
      alike = record {
        address = ap (λ (one : View). one.address) (sym same) ∙ ap (λ (one : ViewModel). one.address) first;
        name = ap (λ (one : View). one.name) (sym same) ∙ ap (λ (one : ViewModel). one.name) first;
        value = ap (λ (one : View). model_of_expr one.value) (sym same) ∙ ap (λ (one : ViewModel). one.value) first;
      };
    }
alike_at (x ∷ v) (y ∷ w) e (suc k) a f =
    let rest : map model_of_view v ≡ map model_of_view w = cc in
    let found = alike_at v w rest k a f in
    record { other = found.other; there = found.there; alike = found.alike }

plain_alike : (netlist : Netlist) (image : Image) (a b : View) → Alike a b → IsPlainView netlist image a → IsPlainView netlist image b
plain_alike netlist image a b e p = record {
  tree = p.tree;
  marked = rw (sym e.address) p.marked;
  later = rw (sym e.address) p.later;
  place = p.place;
  named = rw (sym e.name) p.named;
  one = p.one;
  registers = rw (sym e.value) p.registers;
  wide = rw (sym e.value) p.wide;
}

modest_alike : (netlist : Netlist) (a b : View) → Alike a b → IsModest netlist (model_of_expr a.value) → IsModest netlist (model_of_expr b.value)
modest_alike netlist a b e h = rw (sym e.value) h

apart_alike : (a b c d : View) → Alike a b → Alike d c → ((a.address == c.address) && same_name a.name c.name) ≡ false → ((b.address == d.address) && same_name b.name d.name) ≡ false
apart_alike a b c d e f h = rw (sym e.address, sym e.name, f.address, f.name) h

-- views that the same remarks say are right alike
right_alike : (netlist : Netlist) (image : Image) (v w : List View) → map model_of_view v ≡ map model_of_view w → (k : ℕ) → IsRightView netlist image v k → IsRightView netlist image w k
right_alike netlist image v w same k r =
    let found = alike_at v w same k r.view r.there in
    record {
      view = found.other;
      there = found.there;
      plain = plain_alike netlist image r.view found.other found.alike r.plain;
      modest = modest_alike netlist r.view found.other found.alike r.modest;
      only = λ later o lt e.
          (let back = alike_at w v (sym same) later o e in
          apart_alike r.view found.other back.other o found.alike back.alike (r.only later back.other lt back.there));
    }

-- ---- rules

-- no place is wrong where all are right
none_misplaced : (vars : List Declared) (image : Image) (size : ℕ) (name : List ℕ) → ArePlacesRight vars image size → IsPlaceFault vars image size name → ⊥
none_misplaced vars image size name right fault = by fault.named
  where
    by : IsNameAt vars image.places fault.at name → ⊥
    by (inl (var, declared, is)) = fault.wrong (right.all fault.at (slice_get_within vars fault.at var declared))
    by (inr (none, place, there, is)) =
        let inside : fault.at < length image.places = slice_get_within image.places fault.at place there in
        let same = right.no_more in
        let wrong : fault.at < length vars = omega (arith, inside, same) in
        fault.wrong (right.all fault.at wrong)

none_of_some : (name : Option (List ℕ)) (P : List ℕ → Type 0) → ((n : List ℕ) → P n → ⊥) → IsSomeAnd name P → ⊥
none_of_some None P none h = absurd (search rules)
none_of_some (Some n) P none h = none n h

-- marks that are right have no fault, and others have one
none_mismarked : (flow : List Flow) (image : Image) (fault : MarkFault) → AreMarksRight flow image → IsMarkFault flow image fault → ⊥
none_mismarked flow image (Unmarked tree) right h =
    h.unmarked (right.marks.all tree (record { at = h.at; when_one = h.when_one; when_zero = h.when_zero; is = h.is }))
none_mismarked flow image EndMark right h = h.1 right.end
none_mismarked flow image (Stray address tree) right h = h.2.none (right.marks.only address tree h.2.marked)

test_of : (flow : List Flow) (image : Image) (tree : ℕ) → IsUnmarked flow image tree → IsTestOf flow tree
test_of flow image tree h = record { at = h.at; when_one = h.when_one; when_zero = h.when_zero; is = h.is }

same_tree : (flow : List Flow) (k l a b c d e f : ℕ) → k ≡ l → slice_get flow k ≡ Some (Test a b c) → slice_get flow l ≡ Some (Test d e f) → a ≡ d
same_tree flow k l a b c d e f same p q = let r = ap (slice_get flow) same in cc

same_marked : (marks : List ImageMark) (k l a b : ℕ) → k ≡ l → label_at marks k ≡ Some (At a) → label_at marks l ≡ Some (At b) → a ≡ b
same_marked marks k l a b same p q = let r = ap (label_at marks) same in cc

one_mark : (flow : List Flow) (image : Image) (f g : MarkFault) → IsMarkFault flow image f → IsMarkFault flow image g → f ≡ g
one_mark flow image (Unmarked a) (Unmarked b) p q = elim (cases_lt p.at q.at) [
  | inl lt ↦ absurd (p.unmarked (q.before p.at a p.when_one p.when_zero lt p.is))
  | inr le ↦ elim (cases_lt q.at p.at) [
    | inl more ↦ absurd (q.unmarked (p.before q.at b q.when_one q.when_zero more q.is))
    | inr also ↦ ap Unmarked (same_tree flow p.at q.at a p.when_one p.when_zero b q.when_one q.when_zero (omega arith) p.is q.is)
  ]
]
one_mark flow image (Unmarked a) EndMark p q = absurd (p.unmarked (q.0 a (test_of flow image a p)))
one_mark flow image (Unmarked a) (Stray address tree) p q = absurd (p.unmarked (q.0 a (test_of flow image a p)))
one_mark flow image EndMark (Unmarked b) p q = absurd (q.unmarked (p.0 b (test_of flow image b q)))
one_mark flow image EndMark EndMark p q = refl
one_mark flow image EndMark (Stray address tree) p q = absurd (p.1 q.1)
one_mark flow image (Stray address tree) (Unmarked b) p q = absurd (q.unmarked (p.0 b (test_of flow image b q)))
one_mark flow image (Stray address tree) EndMark p q = absurd (q.1 p.1)
one_mark flow image (Stray a x) (Stray b y) p q = elim (cases_lt a b) [
  | inl lt ↦ absurd (p.2.none (q.2.before a x lt p.2.marked))
  | inr le ↦ elim (cases_lt b a) [
    | inl more ↦ absurd (q.2.none (p.2.before b y more q.2.marked))
    | inr also ↦
        let here : a ≡ b = omega arith in
        let there : x ≡ y = same_marked image.marks a b x y here p.2.marked q.2.marked in
        cc
  ]
]

-- a view that isn't right is the first
none_misviewed : (netlist : Netlist) (image : Image) (views : List View) (address : ℕ) (name : List ℕ) → AreViewsRight netlist image views → IsViewFault netlist image views address name → ⊥
none_misviewed netlist image views address name right h = h.wrong (right h.at (slice_get_within views h.at h.view h.there))

same_view : (views : List View) (k l : ℕ) (a b : View) → k ≡ l → slice_get views k ≡ Some a → slice_get views l ≡ Some b → a ≡ b
same_view views k l a b same p q = let r = ap (slice_get views) same in same_Some a b (sym p ∙ r ∙ q)

one_misviewed : (netlist : Netlist) (image : Image) (views : List View) (a b : ℕ) (n m : List ℕ) → IsViewFault netlist image views a n → IsViewFault netlist image views b m → a ≡ b
one_misviewed netlist image views a b n m p q = elim (cases_lt p.at q.at) [
  | inl lt ↦ absurd (p.wrong (q.before p.at lt))
  | inr le ↦ elim (cases_lt q.at p.at) [
    | inl more ↦ absurd (q.wrong (p.before q.at more))
    | inr also ↦ p.address_is ∙ ap (λ (one : View). one.address) (same_view views p.at q.at p.view q.view (omega arith) p.there q.there) ∙ sym q.address_is
  ]
]

both_some : (n m : Option (List ℕ)) (P Q : List ℕ → Type 0) (G : Type 0) → ((x y : List ℕ) → P x → Q y → G) → IsSomeAnd n P → IsSomeAnd m Q → G
both_some None m P Q G f p q = absurd (search rules)
both_some (Some x) None P Q G f p q = absurd (search rules)
both_some (Some x) (Some y) P Q G f p q = f x y p q

module _ (task : CheckTask) where
  placed : ArePlaced task → (name : Option (List ℕ)) → IsRuleFault task Place name → ⊥
  placed right name h = none_of_some name _ (λ n fault. none_misplaced _ _ _ n right fault) h

  viewed : HasPlainViews task → (address : ℕ) (name : Option (List ℕ)) → IsSomeAnd name (IsViewFault task.netlist task.viewed.image task.viewed.views address) → ⊥
  viewed right address name h = none_of_some name _ (λ n fault. none_misviewed _ _ _ address n right fault) h

  pub one_rule : (f g : RuleFault) (n m : Option (List ℕ)) → IsRuleFault task f n → IsRuleFault task g m → f ≡ g
  one_rule Place Place n m p q = refl
  one_rule Place Temps n m p q = absurd (placed q.1 n p)
  one_rule Place (Mark fault) n m p q = absurd (placed q.1 n p)
  one_rule Place (ViewAt address) n m p q = absurd (placed q.0 n p)
  one_rule Place EndWord n m p q = absurd (placed q.1 n p)
  one_rule Temps Place n m p q = absurd (placed p.1 m q)
  one_rule Temps Temps n m p q = refl
  one_rule Temps (Mark fault) n m p q = absurd (p.2 q.2)
  one_rule Temps (ViewAt address) n m p q = absurd (p.2 q.1)
  one_rule Temps EndWord n m p q = absurd (p.2 q.2)
  one_rule (Mark fault) Place n m p q = absurd (placed p.1 m q)
  one_rule (Mark fault) Temps n m p q = absurd (q.2 p.2)
  one_rule (Mark f) (Mark g) n m p q = ap Mark (one_mark _ _ f g p.3 q.3)
  one_rule (Mark fault) (ViewAt address) n m p q = absurd (none_mismarked _ _ fault q.2 p.3)
  one_rule (Mark fault) EndWord n m p q = absurd (none_mismarked _ _ fault q.3 p.3)
  one_rule (ViewAt address) Place n m p q = absurd (placed p.0 m q)
  one_rule (ViewAt address) Temps n m p q = absurd (q.2 p.1)
  one_rule (ViewAt address) (Mark fault) n m p q = absurd (none_mismarked _ _ fault p.2 q.3)
  one_rule (ViewAt a) (ViewAt b) n m p q = ap ViewAt (both_some n m _ _ (a ≡ b) (λ x y. one_misviewed _ _ _ a b x y) p.3 q.3)
  one_rule (ViewAt address) EndWord n m p q = absurd (viewed q.4 address n p.3)
  one_rule EndWord Place n m p q = absurd (placed p.1 m q)
  one_rule EndWord Temps n m p q = absurd (q.2 p.2)
  one_rule EndWord (Mark fault) n m p q = absurd (none_mismarked _ _ fault p.3 q.3)
  one_rule EndWord (ViewAt address) n m p q = absurd (viewed p.4 address m q.3)
  one_rule EndWord EndWord n m p q = refl

  pub none_rule : KeepsImageRules task → (f : RuleFault) (n : Option (List ℕ)) → IsRuleFault task f n → ⊥
  none_rule h Place n p = placed h.places n p
  none_rule h Temps n p = p.2 h.temps
  none_rule h (Mark fault) n p = none_mismarked _ _ fault h.marks p.3
  none_rule h (ViewAt address) n p = viewed h.views address n p.3
  none_rule h EndWord n p = p.5 h.end_word

-- ---- the tasks of three texts

same_length : (v w : List View) → map model_of_view v ≡ map model_of_view w → length v ≡ length w
same_length v w same = sym (length-map v model_of_view) ∙ (ap length same ∙ length-map w model_of_view)

-- a rule that an image breaks first with some views it breaks with any that the same remarks say
rule_alike : (netlist : Netlist) (width : ℕ) (l : ProgramModel) (image : Image) (hid : List Hidden) (v w : List View)
    → map model_of_view v ≡ map model_of_view w → (f : RuleFault) (n : Option (List ℕ))
    → IsRuleFault (record { netlist = netlist; width = width; program = l; viewed = record { image = image; views = v; hidden = hid } }) f n
    → IsRuleFault (record { netlist = netlist; width = width; program = l; viewed = record { image = image; views = w; hidden = hid } }) f n
rule_alike netlist width l image hid v w same Place n h = h
rule_alike netlist width l image hid v w same Temps n h = h
rule_alike netlist width l image hid v w same (Mark fault) n h = h
rule_alike netlist width l image hid v w same (ViewAt address) n h = (h.0, h.1, h.2, by n h.3)
  where
    by : (name : Option (List ℕ)) → IsSomeAnd name (IsViewFault netlist image v address) → IsSomeAnd name (IsViewFault netlist image w address)
    by None x = x
    by (Some name) x =
        let found = alike_at v w same x.at x.view x.there in
        record {
          at = x.at;
          view = found.other;
          there = found.there;
          address_is = x.address_is ∙ found.alike.address;
          name_is = x.name_is ∙ found.alike.name;
          before = λ k lt. right_alike netlist image v w same k (x.before k lt);
          wrong = λ right. x.wrong (right_alike netlist image w v (sym same) x.at right);
        }
rule_alike netlist width l image hid v w same EndWord n h = (
  h.0,
  h.1,
  h.2,
  h.3,
  λ k lt. right_alike netlist image v w same k (h.4 k (let long = same_length v w same in omega (arith, lt, long))),
  h.5,
)

-- what is broken first of one task of three texts is broken first of the other
rule_of : (net src img : List ℕ) (t u : CheckTask) → IsCheckTask net src img t → IsCheckTask net src img u → (f : RuleFault) (n : Option (List ℕ)) → IsRuleFault u f n → IsRuleFault t f n
rule_of net src img t u p q f n h =
    let entries : q.entries ≡ p.entries = one_list net p.entries q.entries p.net_file q.net_file in
    let netlist : u.netlist ≡ t.netlist = q.netlist ∙ (ap taken_of entries ∙ sym p.netlist) in
    let width : u.width ≡ t.width = q.width ∙ (ap word_bits entries ∙ sym p.width) in
    let program : u.program ≡ t.program = q.src_file.says.only t.program p.src_file.says.text in
    let text : IsViewedText t.netlist img u.viewed = subst (λ (x : Netlist). IsViewedText x img u.viewed) netlist q.image_text in
    let same = p.image_text.says.only u.viewed.image text.remarks text.says.text in
    let views : map model_of_view u.viewed.views ≡ map model_of_view t.viewed.views =
    same_Some _ _ (sym text.views ∙ (ap (views_said t.netlist.storages) (sym same.1) ∙ p.image_text.views)) in
    let hidden : u.viewed.hidden ≡ t.viewed.hidden = text.hidden ∙ (ap hidden_said (sym same.1) ∙ sym p.image_text.hidden) in
    let a = subst (λ (x : Netlist). IsRuleFault (record { netlist = x; width = u.width; program = u.program; viewed = u.viewed }) f n) netlist h in
    let b = subst (λ (x : ℕ). IsRuleFault (record { netlist = t.netlist; width = x; program = u.program; viewed = u.viewed }) f n) width a in
    let c = subst (λ (x : ProgramModel). IsRuleFault (record { netlist = t.netlist; width = t.width; program = x; viewed = u.viewed }) f n) program b in
    let d =
    subst (λ (x : Image). IsRuleFault (record { netlist = t.netlist; width = t.width; program = t.program; viewed = record { image = x; views = u.viewed.views; hidden = u.viewed.hidden } }) f n)
    (sym same.0) c in
    let e =
    subst (λ (x : List Hidden). IsRuleFault (record { netlist = t.netlist; width = t.width; program = t.program; viewed = record { image = t.viewed.image; views = u.viewed.views; hidden = x } }) f n)
    hidden d in
    rule_alike t.netlist t.width t.program t.viewed.image t.viewed.hidden u.viewed.views t.viewed.views views f n e

pub one_broken_rule : (net src img : List ℕ) (f g : RuleFault) (n m : Option (List ℕ)) → BreaksImageRule net src img f n → BreaksImageRule net src img g m → f ≡ g
one_broken_rule net src img f g n m a b = one_rule a.task f g n m a.holds (rule_of net src img a.task b.task a.is b.is g m b.holds)

pub none_broken_rule : (net src img : List ℕ) → KeepsAllRules net src img → (f : RuleFault) (n : Option (List ℕ)) → BreaksImageRule net src img f n → ⊥
none_broken_rule net src img a f n b = none_rule a.task a.holds f n (rule_of net src img a.task b.task a.is b.is f n b.holds)
