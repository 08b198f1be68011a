-- Jump and branch forms are made of their patterns, and show the addresses that the code has.
use Rattle.std.proofs.Common.{◌≡◌, ℕ, ◌^◌, ◌<◌, ◌≤◌, ◌==◌, ◌&&◌, ◌||◌, ◌⊎◌, inl, inr, Bool, true, false, bit_and, if◌then◌else◌, List, ◌∷◌, Option, Some, None, slice_get, refl, sym, ◌∙◌, ap, subst, arith, eqb-true}
use Rattle.std.proofs.lemmas.Bool.{leb-true, and_parts}
use Rattle.rec_bits.specs.declared.operator.Op2.TheVariants.{Add}
use Rattle.rec_bits.proofs.Options.{same_Some}
use Rattle.net_model.specs.declared.hardware.Netlist.{Netlist}
use Rattle.net_model.specs.Fields.{fields}
use Rattle.net_model.specs.CheckedRules.{KeepsRules}
use Rattle.net_model.specs.declared.hardware.Space.TheVariants.{File as InFile}
use Rattle.net_model.specs.Nets.{counter_of, counter_width, size_in, word_width}
use Rattle.net_model.specs.Patterns.{Pattern}
use Rattle.net_model.specs.Exprs.{ExprModel, reg, const, bin, select, write, next_of, swapped_next_of, expr_width}
use Rattle.sym_expr.specs.Pools.{ExprFits}
use Rattle.transfer_set.specs.Inner.Widths.{TransferFits}
use Rattle.transfer_set.specs.Stepping.{is_next, is_one, is_reg}
use Rattle.transfer_set.specs.TextMarks.{IsTransferOf, IsExprOf}
use Rattle.transfer_set.specs.declared.stepping.Counter.{Counter}
use Rattle.form_model.specs.Forms.{TargetModel, absolute, relative}
use Rattle.form_model.specs.Shapes.{is_shape, is_shape_in, reach_of, shows}
use Rattle.form_set.proofs.Editions.{shape_from}
use Rattle.form_model.proofs.ShapeLaws.{exact_shape}
use Rattle.form_set.specs.Inner.Linear.{are_apart, is_linear, transfer_linear}
use Rattle.form_set.specs.Listing.{IsBranch, IsJump, branch_form_model, counter_at, jump_form_model, test_sides}
use Rattle.operand_swaps.specs.Swaps.{picks, swap_paths, swapped}
use Rattle.form_set.specs.Targets.{Branch, allowed_target, branch_if, distance_if, first_of, is_absolute, relative_target, expr_branch}
use Rattle.form_set.proofs.LinearLaws.{linear_is}
use Rattle.form_set.proofs.ShapeBits.{shape_fits}
use Rattle.operand_swaps.proofs.SwapLaws.{swapped_alike}
use Rattle.emit_seq.specs.Formed.{CellsShown, IsOnce}
use Rattle.right_code.proofs.Filed.{shown_of, swapped_shown}
use Rattle.right_code.specs.Inner.Forks.{IsBranchForm, IsJumpForm, IsTargetExpr, one_side}
use Rattle.right_code.specs.Inner.Known.{AreKnown}
use Rattle.right_code.specs.Inner.Laid.{TargetReaches}
use Rattle.right_code.proofs.Narrow.{jump_within}
use Rattle.right_code.proofs.Once.{meet_none, once_of}
use Rattle.right_code.proofs.Plain.{alike_of, words_in}
use Rattle.right_code.proofs.Swapping.{IsSwapped, swapped_sides}

-- ---- the next address

reg_is : (pc : Counter) (t : ExprModel) → is_reg pc t ≡ true → t ≡ reg pc.storage pc.width
reg_is pc (reg q w) h =
    let k = and_parts (q == pc.storage) (w == pc.width) h in
    ap (λ n. reg n w) (eqb-true q pc.storage k.0) ∙ ap (λ n. reg pc.storage n) (eqb-true w pc.width k.1)
reg_is pc _ h = absurd (cc)

one_is : (bits : ℕ) (t : ExprModel) → is_one bits t ≡ true → t ≡ const bits 1
one_is bits (const w v) h =
    let k = and_parts (w == bits) (v == 1) h in ap (λ n. const n v) (eqb-true w bits k.0) ∙ ap (λ n. const bits n) (eqb-true v 1 k.1)
one_is bits _ h = absurd (cc)

next_is : (pc : Counter) (t : ExprModel) → is_next pc t ≡ true → (t ≡ next_of pc.storage pc.width) ⊎ (t ≡ swapped_next_of pc.storage pc.width)
next_is pc (bin Add a b) h = by (is_reg pc a && is_one pc.width b) refl h
  where
    by : (p : Bool) → (is_reg pc a && is_one pc.width b) ≡ p → (p || (is_one pc.width a && is_reg pc b)) ≡ true → (bin Add a b ≡ next_of pc.storage pc.width) ⊎ (bin Add a b ≡ swapped_next_of pc.storage pc.width)
    by true e k = inl (let q = and_parts (is_reg pc a) (is_one pc.width b) e in let x = reg_is pc a q.0 in let y = one_is pc.width b q.1 in (λ j. bin Add (x j) (y j)))
    by false e k = inr (let q = and_parts (is_one pc.width a) (is_reg pc b) k in let x = one_is pc.width a q.0 in let y = reg_is pc b q.1 in (λ j. bin Add (x j) (y j)))
next_is pc _ h = absurd (cc)

-- ---- the parts of a branch

-- a branch of a select, whose sides are the target and the step
record IsOpened (edition : ℕ) (pc : Counter) (reach : ℕ) (value : ExprModel) (branch : Branch) : Type 0 where
  target : ExprModel
  step : ExprModel
  is : value ≡ select branch.test (one_side branch.when_one target step) (one_side branch.when_one step target)
  next : is_next pc step ≡ true
  allowed : allowed_target edition pc reach target ≡ Some branch.to

opened : (edition : ℕ) (pc : Counter) (reach : ℕ) (value : ExprModel) (branch : Branch) → expr_branch edition pc reach value ≡ Some branch → IsOpened edition pc reach value branch
opened edition pc reach (select c a b) branch e = go (is_next pc b) (is_next pc a) (allowed_target edition pc reach a) (allowed_target edition pc reach b) refl refl refl refl e
  where
    at_one : (to : TargetModel) → is_next pc b ≡ true → allowed_target edition pc reach a ≡ Some to → IsOpened edition pc reach (select c a b) (record { when_one = true; test = c; to = to })
    at_one to n t = record { target = a; step = b; is = refl; next = n; allowed = t }

    at_zero : (to : TargetModel) → is_next pc a ≡ true → allowed_target edition pc reach b ≡ Some to → IsOpened edition pc reach (select c a b) (record { when_one = false; test = c; to = to })
    at_zero to n t = record { target = b; step = a; is = refl; next = n; allowed = t }

    go : (p r : Bool) (o q : Option TargetModel) → is_next pc b ≡ p → is_next pc a ≡ r → allowed_target edition pc reach a ≡ o → allowed_target edition pc reach b ≡ q
        → first_of (branch_if p true c o) (branch_if r false c q) ≡ Some branch → IsOpened edition pc reach (select c a b) branch
    go true r (Some to) q ep er eo eq h = subst (IsOpened edition pc reach (select c a b)) (same_Some _ branch h) (at_one to ep eo)
    go true true None (Some to) ep er eo eq h = subst (IsOpened edition pc reach (select c a b)) (same_Some _ branch h) (at_zero to er eq)
    go true true None None ep er eo eq h = absurd (cc)
    go true false None q ep er eo eq h = absurd (cc)
    go false true o (Some to) ep er eo eq h = subst (IsOpened edition pc reach (select c a b)) (same_Some _ branch h) (at_zero to er eq)
    go false true o None ep er eo eq h = absurd (cc)
    go false false o q ep er eo eq h = absurd (cc)
opened edition pc reach _ branch e = absurd (cc)

-- what is known of the select is known of its parts
record Parts (netlist : Netlist) (free : ℕ) (c x : ExprModel) : Type 0 where
  test_fits : ExprFits c
  test_exprs : IsExprOf netlist c
  test_linear : is_linear free c ≡ true
  target_fits : ExprFits x
  target_exprs : IsExprOf netlist x
  apart : bit_and (fields c) (fields x) ≡ 0

parts_of : (netlist : Netlist) (free : ℕ) (w : Bool) (c x y : ExprModel) → ExprFits (select c (one_side w x y) (one_side w y x)) → IsExprOf netlist (select c (one_side w x y) (one_side w y x))
    → is_linear free (select c (one_side w x y) (one_side w y x)) ≡ true → Parts netlist free c x
parts_of netlist free true c x y f t l =
    let k = and_parts (are_apart free c x && (are_apart free c y && are_apart free x y)) (is_linear free c && (is_linear free x && is_linear free y)) l in
    record {
      test_fits = f.0;
      test_exprs = t.0;
      test_linear = (and_parts (is_linear free c) (is_linear free x && is_linear free y) k.1).0;
      target_fits = f.1;
      target_exprs = t.1;
      apart = meet_none free c x (and_parts (are_apart free c x) (are_apart free c y && are_apart free x y) k.0).0;
    }
parts_of netlist free false c x y f t l =
    let k = and_parts (are_apart free c y && (are_apart free c x && are_apart free y x)) (is_linear free c && (is_linear free y && is_linear free x)) l in
    let m = and_parts (are_apart free c y) (are_apart free c x && are_apart free y x) k.0 in
    record {
      test_fits = f.0;
      test_exprs = t.0;
      test_linear = (and_parts (is_linear free c) (is_linear free y && is_linear free x) k.1).0;
      target_fits = f.2;
      target_exprs = t.2;
      apart = meet_none free c x (and_parts (are_apart free c x) (are_apart free y x) m.1).0;
    }

module _ (netlist : Netlist) where
  -- ---- what targets show

  below_shown : (t : ExprModel) → is_shape t ≡ true → ExprFits t → IsExprOf netlist t → (v : ℕ) → v < reach_of t → shows t v ≡ true
  below_shown t shape fits exprs v lt = let x = exact_shape (word_width netlist) t shape (shape_fits netlist t shape exprs fits) in (x.shown v).1 (x.reach.below v lt)

  -- a target so many words on
  distance_goes : (reach : ℕ) (t : ExprModel) (way : TargetModel) → ExprFits t → relative_target netlist.edition (counter_at netlist) t ≡ Some way → IsTargetExpr netlist way t × TargetReaches reach way
  distance_goes reach (bin Add a b) way fits e = by (is_reg (counter_at netlist) a && (is_shape_in netlist.edition b && shows b 2)) refl e
    where
      last : (p : Bool) → (is_reg (counter_at netlist) b && (is_shape_in netlist.edition a && shows a 2)) ≡ p → (if p then Some (relative a) else None) ≡ Some way
          → IsTargetExpr netlist way (bin Add a b) × TargetReaches reach way
      last true k h =
          (let x = and_parts (is_reg (counter_at netlist) b) (is_shape_in netlist.edition a && shows a 2) k in
          let y = and_parts (is_shape_in netlist.edition a) (shows a 2) x.1 in
          let r = reg_is (counter_at netlist) b x.0 in
          subst (λ w. IsTargetExpr netlist w (bin Add a b) × TargetReaches reach w) (same_Some (relative a) way h)
          ((shape_from netlist.edition _ y.0, sym fits.2 ∙ ap expr_width r, inr (ap (λ n. bin Add a n) r)), y.1))
      last false k h = absurd (cc)

      by : (p : Bool) → (is_reg (counter_at netlist) a && (is_shape_in netlist.edition b && shows b 2)) ≡ p
          → first_of (if p then Some (relative b) else None) (distance_if netlist.edition (is_reg (counter_at netlist) b) a) ≡ Some way → IsTargetExpr netlist way (bin Add a b) × TargetReaches reach way
      by true k h =
          (let x = and_parts (is_reg (counter_at netlist) a) (is_shape_in netlist.edition b && shows b 2) k in
          let y = and_parts (is_shape_in netlist.edition b) (shows b 2) x.1 in
          let r = reg_is (counter_at netlist) a x.0 in
          subst (λ w. IsTargetExpr netlist w (bin Add a b) × TargetReaches reach w) (same_Some (relative b) way h)
          ((shape_from netlist.edition _ y.0, fits.2 ∙ ap expr_width r, inl (ap (λ n. bin Add n b) r)), y.1))
      by false k h = last (is_reg (counter_at netlist) b && (is_shape_in netlist.edition a && shows a 2)) refl h
  distance_goes reach _ way fits e = absurd (cc)

  target_goes : (reach : ℕ) (t : ExprModel) (way : TargetModel) → ExprFits t → IsExprOf netlist t → allowed_target netlist.edition (counter_at netlist) reach t ≡ Some way → IsTargetExpr netlist way t × TargetReaches reach way
  target_goes reach t way fits exprs e = by (is_absolute netlist.edition reach t) refl e
    where
      by : (b : Bool) → is_absolute netlist.edition reach t ≡ b → first_of (if b then Some (absolute t) else None) (relative_target netlist.edition (counter_at netlist) t) ≡ Some way → IsTargetExpr netlist way t × TargetReaches reach way
      by true a h =
          (let k = and_parts (is_shape_in netlist.edition t) _ a in
          let le : reach ≤ reach_of t = leb-true reach (reach_of t) k.1 in
          subst (λ w. IsTargetExpr netlist w t × TargetReaches reach w) (same_Some (absolute t) way h) (refl, λ v lt. below_shown t (shape_from netlist.edition t k.0) fits exprs v (omega (arith, le, lt))))
      by false a h = distance_goes reach t way fits h

  module _ (some : 0 < word_width netlist) (patterns : List Pattern) (known : AreKnown netlist patterns) where
    -- ---- jump forms

    pub jump_made : (number : ℕ) (p : Pattern) → slice_get patterns number ≡ Some p → (h : IsJump netlist p) (fields : ℕ) → IsJumpForm netlist patterns (jump_form_model netlist number h.target fields)
    jump_made number p at h fields = record { is = at ∙ ap Some (λ j. record { storage = h.storage j; move = h.move j }) }

    pub jump_shows : (number : ℕ) (p : Pattern) → slice_get patterns number ≡ Some p → (h : IsJump netlist p) (v : ℕ) → v < reach_of h.target → shows h.target v ≡ true
    jump_shows number p at h = below_shown h.target (shape_from netlist.edition h.target h.shape) (subst TransferFits h.move (known number p at).fits) (subst (IsTransferOf netlist) h.move (known number p at).exprs)

    -- ---- branch forms

    module _ (reach number : ℕ) (p : Pattern) (at : slice_get patterns number ≡ Some p) (parts : Branch) (h : IsBranch netlist reach p parts) where
      abbrev free : ℕ
      free = 2 ^ counter_of netlist.codes

      o : IsOpened netlist.edition (counter_at netlist) reach h.value parts
      o = opened netlist.edition (counter_at netlist) reach h.value parts h.parts

      known_parts : Parts netlist free parts.test o.target
      known_parts =
          parts_of netlist free parts.when_one parts.test o.target o.step (subst ExprFits o.is (subst TransferFits h.move (known number p at).fits))
          (subst (IsExprOf netlist) o.is (subst (IsTransferOf netlist) h.move (known number p at).exprs))
          (ap (is_linear free) (sym o.is) ∙ ap (transfer_linear free) (sym h.move) ∙ (linear_is free p.move).1 h.linear)

      pub test_exprs : IsExprOf netlist parts.test
      test_exprs = known_parts.test_exprs

      pub test_swapped : (choice : ℕ) → IsSwapped parts.test (swapped choice (test_sides parts)).value
      test_swapped choice = (swapped_sides choice (test_sides parts)).value

      pub test_once : (choice : ℕ) → IsOnce (swapped choice (test_sides parts)).value
      test_once choice = (test_swapped choice).once (once_of (word_width netlist) free parts.test some (words_in netlist parts.test test_exprs known_parts.test_fits) known_parts.test_linear)

      -- its reads of the file show every cell
      pub test_shown : (choice : ℕ) → CellsShown (size_in InFile netlist.storages) (swapped choice (test_sides parts)).value
      test_shown choice =
          swapped_shown (size_in InFile netlist.storages) (λ path. picks choice (swap_paths (test_sides parts)) (1 ∷ path)) parts.test
          (shown_of (size_in InFile netlist.storages) parts.test h.cells)

      pub branch_made : (choice : ℕ) → IsBranchForm netlist patterns (branch_form_model netlist number p parts choice) parts.when_one parts.to
      branch_made choice = record {
        goal = refl;
        condition = parts.test;
        target = o.target;
        step = o.step;
        is = at ∙ ap Some (λ j. record { storage = h.storage j; move = (h.move ∙ ap write o.is) j });
        goes = (target_goes reach o.target parts.to known_parts.target_fits known_parts.target_exprs o.allowed).0;
        steps = next_is (counter_at netlist) o.step o.next;
        alike = alike_of parts.test (swapped choice (test_sides parts)).value known_parts.test_fits (swapped_alike choice (test_sides parts)).value (test_swapped choice);
        same_fields = sym (test_swapped choice).fields_same;
        apart = known_parts.apart;
      }

      pub branch_reaches : TargetReaches reach parts.to
      branch_reaches = (target_goes reach o.target parts.to known_parts.target_fits known_parts.target_exprs o.allowed).1

  -- a jump form reaches no further than the program counter counts
  pub jump_narrow : (order : List ℕ) (keeps : KeepsRules netlist order) (some : 0 < word_width netlist) (patterns : List Pattern) (known : AreKnown netlist patterns) (number : ℕ) (p : Pattern) → slice_get patterns number ≡ Some p → (h : IsJump netlist p) → reach_of h.target ≤ 2 ^ counter_width netlist
  jump_narrow order keeps some patterns known number p at h =
      jump_within netlist order keeps (word_width netlist) p (known number p at).is h.storage h.target h.move
      (shape_fits netlist h.target (shape_from netlist.edition h.target h.shape) (subst (IsTransferOf netlist) h.move (known number p at).exprs) (subst TransferFits h.move (known number p at).fits))
