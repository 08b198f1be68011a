-- Swaps by levels, the deepest first, are those of the chosen paths.
use Rattle.std.proofs.Common.{◌≡◌, ◌≢◌, ℕ, zero, suc, ◌+◌, ◌-◌, ◌*◌, ◌/◌, ◌%◌, ◌^◌, ◌<◌, ◌≤◌, ◌==◌, ◌||◌, ◌&&◌, min, max, Option, Some, None, sym, subst, Bool, true, false, if◌then◌else◌, List, [], ◌∷◌, ◌++◌, length, take, refl, ap, ◌∙◌, arith}
use Rattle.std.specs.Prelude.{option_map}
use Rattle.std.specs.Int.{bit_at}
use Rattle.std.proofs.lemmas.Bool.{true≢false, eqb-true, eq-eqb, false_from_ne_true}
use Rattle.std.proofs.lemmas.List.{length-append, length-map, length-take}
use Rattle.std.proofs.lemmas.Nat.{mod-pow-add}
use Rattle.std.proofs.lemmas.Nat.Bits.{bit_at_lowest}
use Rattle.std.specs.List.{AllByRecursion}
use Rattle.rec_bits.proofs.Lists.{all_append, all_weaker}
use Rattle.rec_bits.specs.declared.operator.Op2.{Op2}
use Rattle.rec_bits.proofs.Booleans.{or-false, and-false, or_assoc}
use Rattle.net_model.specs.Exprs.{ExprModel, word, reg, const, read, un, bin, slice, cat, zext, sext, select}
use Rattle.operand_swaps.specs.Swaps.{Path, SidesModel, addr_paths, at_level, level_paths, levels, operator_paths, ordered, paths_from, picks, same_path, swap_at, swap_count, swapped, swaps_here, under}
use Rattle.operand_swaps.proofs.SumSwaps.{here_stays}
use Rattle.operand_swaps.specs.Inner.LevelSwaps.{addr_swaps, left_behind, left_levels, left_of, root_swaps, swap_level, swap_levels, swaps_of}

-- ---- paths that a choice picks

picks_append : (choice : ℕ) (ps qs : List Path) (p : Path) → picks choice (ps ++ qs) p ≡ (picks choice ps p || picks (left_behind choice ps) qs p)
picks_append choice [] qs p = refl
picks_append choice (first ∷ rest) qs p =
    let here : Bool = same_path first p && bit_at choice 0 == 1 in
    ap (λ x. here || x) (picks_append (choice / 2) rest qs p) ∙ sym (or_assoc here (picks (choice / 2) rest p) (picks (left_behind (choice / 2) rest) qs p))

picks_under : (step choice : ℕ) (ps : List Path) (p : Path) → picks choice (under step ps) (step ∷ p) ≡ picks choice ps p
picks_under step choice [] p = refl
picks_under step choice (first ∷ rest) p =
    (λ j. ((eq-eqb step step refl j && same_path first p) && bit_at choice 0 == 1) || picks_under step (choice / 2) rest p j)

picks_other : (step other choice : ℕ) (ps : List Path) (p : Path) → (step == other) ≡ false → picks choice (under step ps) (other ∷ p) ≡ false
picks_other step other choice [] p e = refl
picks_other step other choice (first ∷ rest) p e =
    (λ j. ((e j && same_path first p) && bit_at choice 0 == 1) || picks_other step other (choice / 2) rest p e j)

picks_root : (step choice : ℕ) (ps : List Path) → picks choice (under step ps) [] ≡ false
picks_root step choice [] = refl
picks_root step choice (first ∷ rest) = picks_root step (choice / 2) rest

-- ---- what is left of a choice

left_append : (choice : ℕ) (ps qs : List Path) → left_behind choice (ps ++ qs) ≡ left_behind (left_behind choice ps) qs
left_append choice [] qs = refl
left_append choice (first ∷ rest) qs = left_append (choice / 2) rest qs

left_under : (step choice : ℕ) (ps : List Path) → left_behind choice (under step ps) ≡ left_behind choice ps
left_under step choice [] = refl
left_under step choice (first ∷ rest) = left_under step (choice / 2) rest

-- ---- paths of two and three operands

abbrev two : List Path → List Path → List Path
two ps qs = under 0 ps ++ under 1 qs

abbrev three : List Path → List Path → List Path → List Path
three ps qs rs = under 0 ps ++ (under 1 qs ++ under 2 rs)

two_left : (choice : ℕ) (ps qs : List Path) → left_behind choice (two ps qs) ≡ left_behind (left_behind choice ps) qs
two_left choice ps qs =
    left_append choice (under 0 ps) (under 1 qs) ∙ left_under 1 _ qs ∙ ap (λ k. left_behind k qs) (left_under 0 choice ps)

three_left : (choice : ℕ) (ps qs rs : List Path) → left_behind choice (three ps qs rs) ≡ left_behind (left_behind (left_behind choice ps) qs) rs
three_left choice ps qs rs =
    left_append choice (under 0 ps) (under 1 qs ++ under 2 rs) ∙ left_append _ (under 1 qs) (under 2 rs) ∙ left_under 2 _ rs
    ∙ ap (λ k. left_behind k rs) (left_under 1 _ qs ∙ ap (λ k. left_behind k qs) (left_under 0 choice ps))

-- behind the paths of an operand that the path isn't in
picks_past : (step other choice : ℕ) (ps qs : List Path) (p : Path) → (step == other) ≡ false
    → picks choice (under step ps ++ qs) (other ∷ p) ≡ picks (left_behind choice ps) qs (other ∷ p)
picks_past step other choice ps qs p e =
    picks_append choice (under step ps) qs (other ∷ p) ∙ (λ j. picks_other step other choice ps p e j || picks (left_under step choice ps j) qs (other ∷ p))

-- among those of the operand that it is in, where no others follow that it is in
picks_here : (step choice : ℕ) (ps qs : List Path) (p : Path) → ((k : ℕ) → picks k qs (step ∷ p) ≡ false) → picks choice (under step ps ++ qs) (step ∷ p) ≡ picks choice ps p
picks_here step choice ps qs p none =
    picks_append choice (under step ps) qs (step ∷ p) ∙ (λ j. picks_under step choice ps p j || none (left_behind choice (under step ps)) j) ∙ or-false _

two_first : (choice : ℕ) (ps qs : List Path) (p : Path) → picks choice (two ps qs) (0 ∷ p) ≡ picks choice ps p
two_first choice ps qs p = picks_here 0 choice ps (under 1 qs) p (λ k. picks_other 1 0 k qs p refl)

two_second : (choice : ℕ) (ps qs : List Path) (p : Path) → picks choice (two ps qs) (1 ∷ p) ≡ picks (left_behind choice ps) qs p
two_second choice ps qs p = picks_past 0 1 choice ps (under 1 qs) p refl ∙ picks_under 1 (left_behind choice ps) qs p

two_root : (choice : ℕ) (ps qs : List Path) → picks choice (two ps qs) [] ≡ false
two_root choice ps qs =
    picks_append choice (under 0 ps) (under 1 qs) [] ∙ (λ j. picks_root 0 choice ps j || picks_root 1 (left_behind choice (under 0 ps)) qs j)

three_first : (choice : ℕ) (ps qs rs : List Path) (p : Path) → picks choice (three ps qs rs) (0 ∷ p) ≡ picks choice ps p
three_first choice ps qs rs p =
    picks_here 0 choice ps (under 1 qs ++ under 2 rs) p (λ k. picks_past 1 0 k qs (under 2 rs) p refl ∙ picks_other 2 0 (left_behind k qs) rs p refl)

three_second : (choice : ℕ) (ps qs rs : List Path) (p : Path) → picks choice (three ps qs rs) (1 ∷ p) ≡ picks (left_behind choice ps) qs p
three_second choice ps qs rs p =
    picks_past 0 1 choice ps (under 1 qs ++ under 2 rs) p refl ∙ picks_here 1 (left_behind choice ps) qs (under 2 rs) p (λ k. picks_other 2 1 k rs p refl)

three_third : (choice : ℕ) (ps qs rs : List Path) (p : Path) → picks choice (three ps qs rs) (2 ∷ p) ≡ picks (left_behind (left_behind choice ps) qs) rs p
three_third choice ps qs rs p =
    picks_past 0 2 choice ps (under 1 qs ++ under 2 rs) p refl ∙ picks_past 1 2 (left_behind choice ps) qs (under 2 rs) p refl
    ∙ picks_under 2 (left_behind (left_behind choice ps) qs) rs p

-- ---- a level passes its bits

one_passes : (here : Bool) (choice n : ℕ) (ps : List Path) → n ≡ left_behind choice ps → (if here then choice else n) ≡ left_behind choice (if here then [] else under 0 ps)
one_passes true choice n ps e = refl
one_passes false choice n ps e = e ∙ sym (left_under 0 choice ps)

two_pass : (here : Bool) (choice h n : ℕ) (hs ps qs : List Path) → h ≡ left_behind choice hs → n ≡ left_behind (left_behind choice ps) qs
    → (if here then h else n) ≡ left_behind choice (if here then hs else two ps qs)
two_pass true choice h n hs ps qs d e = d
two_pass false choice h n hs ps qs d e = e ∙ sym (two_left choice ps qs)

three_pass : (here : Bool) (choice n : ℕ) (ps qs rs : List Path) → n ≡ left_behind (left_behind (left_behind choice ps) qs) rs
    → (if here then choice else n) ≡ left_behind choice (if here then [] else three ps qs rs)
three_pass true choice n ps qs rs e = refl
three_pass false choice n ps qs rs e = e ∙ sym (three_left choice ps qs rs)

root_passes : (can : Bool) (choice : ℕ) → (if can then choice / 2 else choice) ≡ left_behind choice (if can then [] ∷ [] else [])
root_passes true choice = refl
root_passes false choice = refl

level_left : (level choice : ℕ) (t : ExprModel) → left_of level choice t ≡ left_behind choice (level_paths level t)
level_left level choice (word w) = refl
level_left level choice (reg r w) = refl
level_left level choice (const w v) = refl
level_left level choice (read space a w) = one_passes (level == 0) choice _ _ (level_left (level - 1) choice a)
level_left level choice (un o a) = one_passes (level == 0) choice _ _ (level_left (level - 1) choice a)
level_left level choice (slice a hi lo) = one_passes (level == 0) choice _ _ (level_left (level - 1) choice a)
level_left level choice (zext a w) = one_passes (level == 0) choice _ _ (level_left (level - 1) choice a)
level_left level choice (sext a w) = one_passes (level == 0) choice _ _ (level_left (level - 1) choice a)
level_left level choice (bin o a b) =
    two_pass (level == 0) choice _ _ (if swaps_here o a b then [] ∷ [] else []) (level_paths (level - 1) a) (level_paths (level - 1) b) (root_passes (swaps_here o a b) choice)
    (level_left (level - 1) (left_of (level - 1) choice a) b ∙ ap (λ k. left_behind k (level_paths (level - 1) b)) (level_left (level - 1) choice a))
level_left level choice (cat a b) =
    two_pass (level == 0) choice choice _ [] (level_paths (level - 1) a) (level_paths (level - 1) b) refl
    (level_left (level - 1) (left_of (level - 1) choice a) b ∙ ap (λ k. left_behind k (level_paths (level - 1) b)) (level_left (level - 1) choice a))
level_left level choice (select c a b) =
    three_pass (level == 0) choice _ (level_paths (level - 1) c) (level_paths (level - 1) a) (level_paths (level - 1) b)
    (level_left (level - 1) (left_of (level - 1) (left_of (level - 1) choice c) a) b
    ∙ ap (λ k. left_behind k (level_paths (level - 1) b))
    (level_left (level - 1) (left_of (level - 1) choice c) a ∙ ap (λ k. left_behind k (level_paths (level - 1) a)) (level_left (level - 1) choice c)))

-- ---- a level is swapped at its paths

swap_same : (f g : Path → Bool) (t : ExprModel) → ((p : Path) → f p ≡ g p) → swap_at f t ≡ swap_at g t
swap_same f g t h = (λ j. swap_at (λ p. h p j) t)

swap_none : (t : ExprModel) → swap_at (λ p. false) t ≡ t
swap_none (word w) = refl
swap_none (reg r w) = refl
swap_none (const w v) = refl
swap_none (read space a w) = (λ j. read space (swap_none a j) w)
swap_none (un o a) = (λ j. un o (swap_none a j))
swap_none (slice a hi lo) = (λ j. slice (swap_none a j) hi lo)
swap_none (zext a w) = (λ j. zext (swap_none a j) w)
swap_none (sext a w) = (λ j. sext (swap_none a j) w)
swap_none (bin o a b) = (λ j. ordered (and-false (swaps_here o a b) j) o (swap_none a j) (swap_none b j))
swap_none (cat a b) = (λ j. cat (swap_none a j) (swap_none b j))
swap_none (select c a b) = (λ j. select (swap_none c j) (swap_none a j) (swap_none b j))

pub swap_no : (f : Path → Bool) (t : ExprModel) → ((p : Path) → f p ≡ false) → swap_at f t ≡ t
swap_no f t h = swap_same f (λ p. false) t h ∙ swap_none t

one_swaps : (k : ExprModel → ExprModel) (here : Bool) (choice : ℕ) (ps : List Path) (a x : ExprModel) → x ≡ swap_at (picks choice ps) a
    → (if here then k a else k x) ≡ k (swap_at (λ p. picks choice (if here then [] else under 0 ps) (0 ∷ p)) a)
one_swaps k true choice ps a x e = ap k (sym (swap_none a))
one_swaps k false choice ps a x e = ap k (e ∙ swap_same _ _ a (λ p. sym (picks_under 0 choice ps p)))

bin_swaps : (o : Op2) (here : Bool) (choice : ℕ) (ps qs : List Path) (a b x y : ExprModel)
    → x ≡ swap_at (picks choice ps) a → y ≡ swap_at (picks (left_behind choice ps) qs) b
    → (if here then ordered (swaps_here o a b && bit_at choice 0 == 1) o a b else bin o x y)
    ≡ swap_at (picks choice (if here then (if swaps_here o a b then [] ∷ [] else []) else two ps qs)) (bin o a b)
bin_swaps o true choice ps qs a b x y d e = by (swaps_here o a b)
  where
    root : (is : Bool) → is ≡ ((true && is) || false)
    root true = refl
    root false = refl

    by : (can : Bool) → ordered (can && bit_at choice 0 == 1) o a b
        ≡ ordered (can && picks choice (if can then [] ∷ [] else []) []) o
        (swap_at (λ p. picks choice (if can then [] ∷ [] else []) (0 ∷ p)) a) (swap_at (λ p. picks choice (if can then [] ∷ [] else []) (1 ∷ p)) b)
    by true = (λ j. ordered (root (bit_at choice 0 == 1) j) o (sym (swap_none a) j) (sym (swap_none b) j))
    by false = (λ j. ordered false o (sym (swap_none a) j) (sym (swap_none b) j))
bin_swaps o false choice ps qs a b x y d e =
    (λ j. bin o ((d ∙ swap_same _ _ a (λ p. sym (two_first choice ps qs p))) j) ((e ∙ swap_same _ _ b (λ p. sym (two_second choice ps qs p))) j))
    ∙ (λ j. ordered (sym (ap (λ is. swaps_here o a b && is) (two_root choice ps qs) ∙ and-false (swaps_here o a b)) j) o
    (swap_at (λ p. picks choice (two ps qs) (0 ∷ p)) a) (swap_at (λ p. picks choice (two ps qs) (1 ∷ p)) b))

cat_swaps : (here : Bool) (choice : ℕ) (ps qs : List Path) (a b x y : ExprModel)
    → x ≡ swap_at (picks choice ps) a → y ≡ swap_at (picks (left_behind choice ps) qs) b
    → (if here then cat a b else cat x y) ≡ swap_at (picks choice (if here then [] else two ps qs)) (cat a b)
cat_swaps true choice ps qs a b x y d e = (λ j. cat (sym (swap_none a) j) (sym (swap_none b) j))
cat_swaps false choice ps qs a b x y d e =
    (λ j. cat ((d ∙ swap_same _ _ a (λ p. sym (two_first choice ps qs p))) j) ((e ∙ swap_same _ _ b (λ p. sym (two_second choice ps qs p))) j))

select_swaps : (here : Bool) (choice : ℕ) (ps qs rs : List Path) (c a b x y z : ExprModel)
    → x ≡ swap_at (picks choice ps) c → y ≡ swap_at (picks (left_behind choice ps) qs) a → z ≡ swap_at (picks (left_behind (left_behind choice ps) qs) rs) b
    → (if here then select c a b else select x y z) ≡ swap_at (picks choice (if here then [] else three ps qs rs)) (select c a b)
select_swaps true choice ps qs rs c a b x y z d e f = (λ j. select (sym (swap_none c) j) (sym (swap_none a) j) (sym (swap_none b) j))
select_swaps false choice ps qs rs c a b x y z d e f =
    (λ j. select ((d ∙ swap_same _ _ c (λ p. sym (three_first choice ps qs rs p))) j) ((e ∙ swap_same _ _ a (λ p. sym (three_second choice ps qs rs p))) j)
    ((f ∙ swap_same _ _ b (λ p. sym (three_third choice ps qs rs p))) j))

level_swaps : (level choice : ℕ) (t : ExprModel) → swap_level level choice t ≡ swap_at (picks choice (level_paths level t)) t
level_swaps level choice (word w) = refl
level_swaps level choice (reg r w) = refl
level_swaps level choice (const w v) = refl
level_swaps level choice (read space a w) = one_swaps (λ t. read space t w) (level == 0) choice _ a _ (level_swaps (level - 1) choice a)
level_swaps level choice (un o a) = one_swaps (λ t. un o t) (level == 0) choice _ a _ (level_swaps (level - 1) choice a)
level_swaps level choice (slice a hi lo) = one_swaps (λ t. slice t hi lo) (level == 0) choice _ a _ (level_swaps (level - 1) choice a)
level_swaps level choice (zext a w) = one_swaps (λ t. zext t w) (level == 0) choice _ a _ (level_swaps (level - 1) choice a)
level_swaps level choice (sext a w) = one_swaps (λ t. sext t w) (level == 0) choice _ a _ (level_swaps (level - 1) choice a)
level_swaps level choice (bin o a b) =
    bin_swaps o (level == 0) choice (level_paths (level - 1) a) (level_paths (level - 1) b) a b _ _ (level_swaps (level - 1) choice a)
    (level_swaps (level - 1) (left_of (level - 1) choice a) b ∙ ap (λ k. swap_at (picks k (level_paths (level - 1) b)) b) (level_left (level - 1) choice a))
level_swaps level choice (cat a b) =
    cat_swaps (level == 0) choice (level_paths (level - 1) a) (level_paths (level - 1) b) a b _ _ (level_swaps (level - 1) choice a)
    (level_swaps (level - 1) (left_of (level - 1) choice a) b ∙ ap (λ k. swap_at (picks k (level_paths (level - 1) b)) b) (level_left (level - 1) choice a))
level_swaps level choice (select c a b) =
    select_swaps (level == 0) choice (level_paths (level - 1) c) (level_paths (level - 1) a) (level_paths (level - 1) b) c a b _ _ _ (level_swaps (level - 1) choice c)
    (level_swaps (level - 1) (left_of (level - 1) choice c) a ∙ ap (λ k. swap_at (picks k (level_paths (level - 1) a)) a) (level_left (level - 1) choice c))
    (level_swaps (level - 1) (left_of (level - 1) (left_of (level - 1) choice c) a) b
    ∙ ap (λ k. swap_at (picks k (level_paths (level - 1) b)) b)
    (level_left (level - 1) (left_of (level - 1) choice c) a ∙ ap (λ k. left_behind k (level_paths (level - 1) a)) (level_left (level - 1) choice c)))

-- ---- one swap after another

-- where no path of the second has one of the first above it, the first may come before
swap_both : (f g : Path → Bool) (t : ExprModel) → ((p q : Path) → g p ≡ true → f (p ++ q) ≡ false) → swap_at f (swap_at g t) ≡ swap_at (λ p. f p || g p) t
swap_both f g (word w) h = refl
swap_both f g (reg r w) h = refl
swap_both f g (const w v) h = refl
swap_both f g (read space a w) h = (λ j. read space (swap_both (λ p. f (0 ∷ p)) (λ p. g (0 ∷ p)) a (λ p q. h (0 ∷ p) q) j) w)
swap_both f g (un o a) h = (λ j. un o (swap_both (λ p. f (0 ∷ p)) (λ p. g (0 ∷ p)) a (λ p q. h (0 ∷ p) q) j))
swap_both f g (slice a hi lo) h = (λ j. slice (swap_both (λ p. f (0 ∷ p)) (λ p. g (0 ∷ p)) a (λ p q. h (0 ∷ p) q) j) hi lo)
swap_both f g (zext a w) h = (λ j. zext (swap_both (λ p. f (0 ∷ p)) (λ p. g (0 ∷ p)) a (λ p q. h (0 ∷ p) q) j) w)
swap_both f g (sext a w) h = (λ j. sext (swap_both (λ p. f (0 ∷ p)) (λ p. g (0 ∷ p)) a (λ p q. h (0 ∷ p) q) j) w)
swap_both f g (bin o a b) h =
    by (g []) refl (swap_both (λ p. f (0 ∷ p)) (λ p. g (0 ∷ p)) a (λ p q. h (0 ∷ p) q)) (swap_both (λ p. f (1 ∷ p)) (λ p. g (1 ∷ p)) b (λ p q. h (1 ∷ p) q))
  where
    by : (is : Bool) → g [] ≡ is
        → swap_at (λ p. f (0 ∷ p)) (swap_at (λ p. g (0 ∷ p)) a) ≡ swap_at (λ p. f (0 ∷ p) || g (0 ∷ p)) a
        → swap_at (λ p. f (1 ∷ p)) (swap_at (λ p. g (1 ∷ p)) b) ≡ swap_at (λ p. f (1 ∷ p) || g (1 ∷ p)) b
        → swap_at f (swap_at g (bin o a b)) ≡ swap_at (λ p. f p || g p) (bin o a b)
    by true e k l =
        swap_no f (swap_at g (bin o a b)) (λ q. h [] q e) ∙ swap_same g (λ p. f p || g p) (bin o a b) (λ p. (λ j. sym (h [] p e) j || g p))
    by false e k l =
        ap (λ is. swap_at f (ordered is o (swap_at (λ p. g (0 ∷ p)) a) (swap_at (λ p. g (1 ∷ p)) b))) (ap (λ x. swaps_here o a b && x) e ∙ and-false (swaps_here o a b))
        ∙ (λ j. ordered (here_stays o a b (λ p. g (0 ∷ p)) (λ p. g (1 ∷ p)) j && (sym (ap (λ x. f [] || x) e ∙ or-false (f [])) j)) o (k j) (l j))
swap_both f g (cat a b) h =
    (λ j. cat (swap_both (λ p. f (0 ∷ p)) (λ p. g (0 ∷ p)) a (λ p q. h (0 ∷ p) q) j) (swap_both (λ p. f (1 ∷ p)) (λ p. g (1 ∷ p)) b (λ p q. h (1 ∷ p) q) j))
swap_both f g (select c a b) h =
    (λ j. select (swap_both (λ p. f (0 ∷ p)) (λ p. g (0 ∷ p)) c (λ p q. h (0 ∷ p) q) j) (swap_both (λ p. f (1 ∷ p)) (λ p. g (1 ∷ p)) a (λ p q. h (1 ∷ p) q) j)
    (swap_both (λ p. f (2 ∷ p)) (λ p. g (2 ∷ p)) b (λ p q. h (2 ∷ p) q) j))

-- ---- how long paths are

same_is : (p q : Path) → same_path p q ≡ true → p ≡ q
same_is [] [] e = refl
same_is [] (n ∷ q) e = absurd (true≢false (sym e))
same_is (m ∷ p) [] e = absurd (true≢false (sym e))
same_is (m ∷ p) (n ∷ q) e = by (m == n) refl e (same_is p q)
  where
    by : (is : Bool) → (m == n) ≡ is → (is && same_path p q) ≡ true → (same_path p q ≡ true → p ≡ q) → m ∷ p ≡ n ∷ q
    by true d k rest = (λ j. eqb-true m n d j ∷ rest k j)
    by false d k rest = absurd (true≢false (sym k))

-- what holds of all paths of a list holds of one that is picked
picked_has : (P : Path → Type 0) (choice : ℕ) (ps : List Path) (p : Path) → AllByRecursion P ps → picks choice ps p ≡ true → P p
picked_has P choice [] p h e = absurd (true≢false (sym e))
picked_has P choice (first ∷ rest) p h e = by (same_path first p) refl (bit_at choice 0 == 1) e (picked_has P (choice / 2) rest p h.1)
  where
    by : (is : Bool) → same_path first p ≡ is → (set : Bool) → ((is && set) || picks (choice / 2) rest p) ≡ true → (picks (choice / 2) rest p ≡ true → P p) → P p
    by true d true k others = subst P (same_is first p d) h.0
    by true d false k others = others k
    by false d set k others = others k

abbrev Long : ℕ → List Path → Type 0
Long level ps = AllByRecursion (λ p. length p ≡ level) ps

not_zero : (level : ℕ) → (level == 0) ≡ false → level ≢ 0
not_zero level e z = true≢false (sym (eq-eqb level 0 z) ∙ e)

longer : (level step : ℕ) (ps : List Path) → (level == 0) ≡ false → Long (level - 1) ps → Long level (under step ps)
longer level step [] e h = tt
longer level step (p ∷ ps) e h = (by (not_zero level e) h.0, longer level step ps e h.1)
  where
    by : level ≢ 0 → length p ≡ level - 1 → length (step ∷ p) ≡ level
    by pos k = omega (arith, pos, k)

one_long : (here : Bool) (level : ℕ) (ps : List Path) → (level == 0) ≡ here → Long (level - 1) ps → Long level (if here then [] else under 0 ps)
one_long true level ps e h = tt
one_long false level ps e h = longer level 0 ps e h

two_long : (here : Bool) (level : ℕ) (hs ps qs : List Path) → (level == 0) ≡ here → ((level == 0) ≡ true → Long level hs) → Long (level - 1) ps → Long (level - 1) qs
    → Long level (if here then hs else two ps qs)
two_long true level hs ps qs e r h k = r e
two_long false level hs ps qs e r h k = all_append (λ p. length p ≡ level) (under 0 ps) (under 1 qs) (longer level 0 ps e h) (longer level 1 qs e k)

three_long : (here : Bool) (level : ℕ) (ps qs rs : List Path) → (level == 0) ≡ here → Long (level - 1) ps → Long (level - 1) qs → Long (level - 1) rs
    → Long level (if here then [] else three ps qs rs)
three_long true level ps qs rs e h k l = tt
three_long false level ps qs rs e h k l =
    all_append (λ p. length p ≡ level) (under 0 ps) (under 1 qs ++ under 2 rs) (longer level 0 ps e h)
    (all_append (λ p. length p ≡ level) (under 1 qs) (under 2 rs) (longer level 1 qs e k) (longer level 2 rs e l))

root_long : (can : Bool) (level : ℕ) → (level == 0) ≡ true → Long level (if can then [] ∷ [] else [])
root_long true level e = (sym (eqb-true level 0 e), tt)
root_long false level e = tt

level_long : (level : ℕ) (t : ExprModel) → Long level (level_paths level t)
level_long level (word w) = tt
level_long level (reg r w) = tt
level_long level (const w v) = tt
level_long level (read space a w) = one_long (level == 0) level (level_paths (level - 1) a) refl (level_long (level - 1) a)
level_long level (un o a) = one_long (level == 0) level (level_paths (level - 1) a) refl (level_long (level - 1) a)
level_long level (slice a hi lo) = one_long (level == 0) level (level_paths (level - 1) a) refl (level_long (level - 1) a)
level_long level (zext a w) = one_long (level == 0) level (level_paths (level - 1) a) refl (level_long (level - 1) a)
level_long level (sext a w) = one_long (level == 0) level (level_paths (level - 1) a) refl (level_long (level - 1) a)
level_long level (bin o a b) =
    two_long (level == 0) level (if swaps_here o a b then [] ∷ [] else []) (level_paths (level - 1) a) (level_paths (level - 1) b) refl (root_long (swaps_here o a b) level)
    (level_long (level - 1) a) (level_long (level - 1) b)
level_long level (cat a b) =
    two_long (level == 0) level [] (level_paths (level - 1) a) (level_paths (level - 1) b) refl (λ e. tt) (level_long (level - 1) a) (level_long (level - 1) b)
level_long level (select c a b) =
    three_long (level == 0) level (level_paths (level - 1) c) (level_paths (level - 1) a) (level_paths (level - 1) b) refl
    (level_long (level - 1) c) (level_long (level - 1) a) (level_long (level - 1) b)

paths_far : (more level : ℕ) (t : ExprModel) → AllByRecursion (λ p. level ≤ length p) (paths_from more level t)
paths_far zero level t = tt
paths_far (suc more) level t =
    all_append (λ p. level ≤ length p) (level_paths level t) (paths_from more (level + 1) t)
    (all_weaker (λ p. length p ≡ level) (λ p. level ≤ length p) (λ p e. omega (arith, e)) (level_paths level t) (level_long level t))
    (all_weaker (λ p. level + 1 ≤ length p) (λ p. level ≤ length p) (λ p l. omega (arith, l)) (paths_from more (level + 1) t) (paths_far more (level + 1) t))

-- ---- swaps below a level leave its paths as they were

deeper : (level step : ℕ) (p : Path) → (level == 0) ≡ false → length p ≤ level - 1 → length (step ∷ p) ≤ level
deeper level step p e l = (let pos = not_zero level e in omega (arith, pos, l))

one_stays : (here : Bool) (level : ℕ) (ps qs : List Path) → (level == 0) ≡ here → ((level == 0) ≡ false → ps ≡ qs) → (if here then [] else under 0 ps) ≡ (if here then [] else under 0 qs)
one_stays true level ps qs e h = refl
one_stays false level ps qs e h = ap (under 0) (h e)

two_stay : (here : Bool) (level : ℕ) (hs ps qs xs ys : List Path) → (level == 0) ≡ here → ((level == 0) ≡ false → ps ≡ xs) → ((level == 0) ≡ false → qs ≡ ys)
    → (if here then hs else two ps qs) ≡ (if here then hs else two xs ys)
two_stay true level hs ps qs xs ys e h k = refl
two_stay false level hs ps qs xs ys e h k = (λ j. two (h e j) (k e j))

bin_stays : (level : ℕ) (o : Op2) (a b c d : ExprModel) → swaps_here o c d ≡ swaps_here o a b
    → ((level == 0) ≡ false → level_paths (level - 1) c ≡ level_paths (level - 1) a) → ((level == 0) ≡ false → level_paths (level - 1) d ≡ level_paths (level - 1) b)
    → level_paths level (bin o c d) ≡ level_paths level (bin o a b)
bin_stays level o a b c d e h k =
    ap (λ (can : Bool). if level == 0 then (if can then [] ∷ [] else []) else two (level_paths (level - 1) c) (level_paths (level - 1) d)) e
    ∙ two_stay (level == 0) level (if swaps_here o a b then [] ∷ [] else []) (level_paths (level - 1) c) (level_paths (level - 1) d) (level_paths (level - 1) a) (level_paths (level - 1) b) refl h k

level_stays : (level : ℕ) (f : Path → Bool) (t : ExprModel) → ((p : Path) → length p ≤ level → f p ≡ false) → level_paths level (swap_at f t) ≡ level_paths level t
level_stays level f (word w) h = refl
level_stays level f (reg r w) h = refl
level_stays level f (const w v) h = refl
level_stays level f (read space a w) h =
    one_stays (level == 0) level _ _ refl (λ e. level_stays (level - 1) (λ p. f (0 ∷ p)) a (λ p l. h (0 ∷ p) (deeper level 0 p e l)))
level_stays level f (un o a) h =
    one_stays (level == 0) level _ _ refl (λ e. level_stays (level - 1) (λ p. f (0 ∷ p)) a (λ p l. h (0 ∷ p) (deeper level 0 p e l)))
level_stays level f (slice a hi lo) h =
    one_stays (level == 0) level _ _ refl (λ e. level_stays (level - 1) (λ p. f (0 ∷ p)) a (λ p l. h (0 ∷ p) (deeper level 0 p e l)))
level_stays level f (zext a w) h =
    one_stays (level == 0) level _ _ refl (λ e. level_stays (level - 1) (λ p. f (0 ∷ p)) a (λ p l. h (0 ∷ p) (deeper level 0 p e l)))
level_stays level f (sext a w) h =
    one_stays (level == 0) level _ _ refl (λ e. level_stays (level - 1) (λ p. f (0 ∷ p)) a (λ p l. h (0 ∷ p) (deeper level 0 p e l)))
level_stays level f (bin o a b) h =
    ap (λ is. level_paths level (ordered is o (swap_at (λ p. f (0 ∷ p)) a) (swap_at (λ p. f (1 ∷ p)) b))) (ap (λ x. swaps_here o a b && x) (h [] (omega arith)) ∙ and-false (swaps_here o a b))
    ∙ bin_stays level o a b (swap_at (λ p. f (0 ∷ p)) a) (swap_at (λ p. f (1 ∷ p)) b) (here_stays o a b (λ p. f (0 ∷ p)) (λ p. f (1 ∷ p)))
    (λ e. level_stays (level - 1) (λ p. f (0 ∷ p)) a (λ p l. h (0 ∷ p) (deeper level 0 p e l)))
    (λ e. level_stays (level - 1) (λ p. f (1 ∷ p)) b (λ p l. h (1 ∷ p) (deeper level 1 p e l)))
level_stays level f (cat a b) h =
    two_stay (level == 0) level [] _ _ _ _ refl (λ e. level_stays (level - 1) (λ p. f (0 ∷ p)) a (λ p l. h (0 ∷ p) (deeper level 0 p e l)))
    (λ e. level_stays (level - 1) (λ p. f (1 ∷ p)) b (λ p l. h (1 ∷ p) (deeper level 1 p e l)))
level_stays level f (select c a b) h =
    by (level == 0) refl (λ e. level_stays (level - 1) (λ p. f (0 ∷ p)) c (λ p l. h (0 ∷ p) (deeper level 0 p e l)))
    (λ e. level_stays (level - 1) (λ p. f (1 ∷ p)) a (λ p l. h (1 ∷ p) (deeper level 1 p e l)))
    (λ e. level_stays (level - 1) (λ p. f (2 ∷ p)) b (λ p l. h (2 ∷ p) (deeper level 2 p e l)))
  where
    by : (here : Bool) → (level == 0) ≡ here
        → ((level == 0) ≡ false → level_paths (level - 1) (swap_at (λ p. f (0 ∷ p)) c) ≡ level_paths (level - 1) c)
        → ((level == 0) ≡ false → level_paths (level - 1) (swap_at (λ p. f (1 ∷ p)) a) ≡ level_paths (level - 1) a)
        → ((level == 0) ≡ false → level_paths (level - 1) (swap_at (λ p. f (2 ∷ p)) b) ≡ level_paths (level - 1) b)
        → (if here then [] else three (level_paths (level - 1) (swap_at (λ p. f (0 ∷ p)) c)) (level_paths (level - 1) (swap_at (λ p. f (1 ∷ p)) a)) (level_paths (level - 1) (swap_at (λ p. f (2 ∷ p)) b)))
        ≡ (if here then [] else three (level_paths (level - 1) c) (level_paths (level - 1) a) (level_paths (level - 1) b))
    by true e k l m = refl
    by false e k l m = (λ j. three (k e j) (l e j) (m e j))

-- ---- all levels

pub all_left : (more level choice : ℕ) (t : ExprModel) → left_levels more level choice t ≡ left_behind choice (paths_from more level t)
all_left zero level choice t = refl
all_left (suc more) level choice t =
    all_left more (level + 1) (left_of level choice t) t ∙ ap (λ k. left_behind k (paths_from more (level + 1) t)) (level_left level choice t)
    ∙ sym (left_append choice (level_paths level t) (paths_from more (level + 1) t))

not_picked : (choice : ℕ) (ps : List Path) (p : Path) → (picks choice ps p ≡ true → ⊥) → picks choice ps p ≡ false
not_picked choice ps p h = false_from_ne_true (picks choice ps p) h

pub all_swap : (more level choice : ℕ) (t : ExprModel) → swap_levels more level choice t ≡ swap_at (picks choice (paths_from more level t)) t
all_swap zero level choice t = sym (swap_none t)
all_swap (suc more) level choice t =
    ap (swap_level level choice) (all_swap more (level + 1) rest t) ∙ level_swaps level choice (swap_at below t)
    ∙ ap (λ ps. swap_at (picks choice ps) (swap_at below t)) (level_stays level below t (λ p l. not_picked rest others p (λ e. (let far = is_far p e in omega (arith, l, far)))))
    ∙ swap_both (picks choice here) below t (λ p q e. not_picked choice here (p ++ q) (λ d. apart p q (is_far p e) (is_long (p ++ q) d)))
    ∙ swap_same (λ p. picks choice here p || below p) (picks choice (here ++ others)) t
    (λ p. ap (λ k. picks choice here p || picks k others p) (level_left level choice t) ∙ sym (picks_append choice here others p))
  where
    rest : ℕ
    rest = left_of level choice t

    here : List Path
    here = level_paths level t

    others : List Path
    others = paths_from more (level + 1) t

    below : Path → Bool
    below = picks rest others

    is_far : (p : Path) → picks rest others p ≡ true → level + 1 ≤ length p
    is_far p e = picked_has (λ q. level + 1 ≤ length q) rest others p (paths_far more (level + 1) t) e

    is_long : (p : Path) → picks choice here p ≡ true → length p ≡ level
    is_long p e = picked_has (λ q. length q ≡ level) choice here p (level_long level t) e

    apart : (p q : Path) → level + 1 ≤ length p → length (p ++ q) ≡ level → ⊥
    apart p q l e = (let n = length-append p q in omega (arith, l, e, n))

-- ---- how many operators there are

abbrev total : ℕ → ℕ → (ℕ → ℕ) → ℕ
total zero level f = 0
total (suc n) level f = f level + total n (level + 1) f

paths_total : (n level : ℕ) (t : ExprModel) → length (paths_from n level t) ≡ total n level (λ k. length (level_paths k t))
paths_total zero level t = refl
paths_total (suc n) level t =
    length-append (level_paths level t) (paths_from n (level + 1) t) ∙ ap (λ m. length (level_paths level t) + m) (paths_total n (level + 1) t)

total_up : (n level : ℕ) (f : ℕ → ℕ) → total n (level + 1) f ≡ total n level (λ k. f (k + 1))
total_up zero level f = refl
total_up (suc n) level f = ap (λ m. f (level + 1) + m) (total_up n (level + 1) f)

total_add : (n level : ℕ) (f g : ℕ → ℕ) → total n level (λ k. f k + g k) ≡ total n level f + total n level g
total_add zero level f g = refl
total_add (suc n) level f g = (let h = total_add n (level + 1) f g in omega (arith, h))

total_none : (n level : ℕ) → total n level (λ k. 0) ≡ 0
total_none zero level = refl
total_none (suc n) level = (let h = total_none n (level + 1) in omega (arith, h))

step_total : (n : ℕ) (c d : ℕ → ℕ) (m s : ℕ) → m + 1 ≤ n → ((k : ℕ) → c (k + 1) ≡ d k) → ((x : ℕ) → m ≤ x → total x 0 d ≡ s) → total n 0 c ≡ c 0 + s
step_total zero c d m s h e f = absurd (omega (arith, h))
step_total (suc x) c d m s h e f = ap (λ y. c 0 + y) (total_up x 0 c ∙ (λ j. total x 0 (λ k. e k j)) ∙ f x (omega (arith, h)))

up_level : {A : Type 0} (k : ℕ) (x y : A) → at_level (k + 1) x y ≡ y
up_level k x y = (λ j. if (not_first j) then x else y)
  where
    not_first : (k + 1 == 0) ≡ false
    not_first = false_from_ne_true (k + 1 == 0) (λ e. (let z = eqb-true (k + 1) 0 e in omega (arith, z)))

length_under : (step k : ℕ) (a : ExprModel) → length (under step (level_paths (k + 1 - 1) a)) ≡ length (level_paths k a)
length_under step k a =
    length-map (level_paths (k + 1 - 1) a) (λ path. step ∷ path) ∙ ap (λ m. length (level_paths m a)) (let e : k + 1 - 1 ≡ k = omega arith in e)

one_up : (k : ℕ) (a : ExprModel) → length (at_level (k + 1) [] (under 0 (level_paths (k + 1 - 1) a))) ≡ length (level_paths k a)
one_up k a = ap length (up_level k [] (under 0 (level_paths (k + 1 - 1) a))) ∙ length_under 0 k a

two_up : (k : ℕ) (hs : List Path) (a b : ExprModel)
    → length (at_level (k + 1) hs (two (level_paths (k + 1 - 1) a) (level_paths (k + 1 - 1) b))) ≡ length (level_paths k a) + length (level_paths k b)
two_up k hs a b =
    ap length (up_level k hs (two (level_paths (k + 1 - 1) a) (level_paths (k + 1 - 1) b)))
    ∙ length-append (under 0 (level_paths (k + 1 - 1) a)) (under 1 (level_paths (k + 1 - 1) b)) ∙ (λ j. length_under 0 k a j + length_under 1 k b j)

three_up : (k : ℕ) (c a b : ExprModel)
    → length (at_level (k + 1) [] (three (level_paths (k + 1 - 1) c) (level_paths (k + 1 - 1) a) (level_paths (k + 1 - 1) b)))
    ≡ length (level_paths k c) + (length (level_paths k a) + length (level_paths k b))
three_up k c a b =
    ap length (up_level k [] (three (level_paths (k + 1 - 1) c) (level_paths (k + 1 - 1) a) (level_paths (k + 1 - 1) b)))
    ∙ length-append (under 0 (level_paths (k + 1 - 1) c)) (under 1 (level_paths (k + 1 - 1) a) ++ under 2 (level_paths (k + 1 - 1) b))
    ∙ (λ j. length_under 0 k c j + (length-append (under 1 (level_paths (k + 1 - 1) a)) (under 2 (level_paths (k + 1 - 1) b)) ∙ (λ i. length_under 1 k a i + length_under 2 k b i)) j)

one_total : (n m : ℕ) (c : ℕ → ℕ) (a : ExprModel) → levels a + 1 ≤ n → c 0 ≡ 0 → ((k : ℕ) → c (k + 1) ≡ length (level_paths k a))
    → ((x : ℕ) → levels a ≤ x → total x 0 (λ k. length (level_paths k a)) ≡ m) → total n 0 c ≡ m
one_total n m c a h z e f = (let s = step_total n c (λ k. length (level_paths k a)) (levels a) m h e f in omega (arith, s, z))

root_count : (o : Op2) (a b : ExprModel) → length {A = Path} (if swaps_here o a b then [] ∷ [] else []) ≡ root_swaps (bin o a b)
root_count o a b = by (swaps_here o a b)
  where
    by : (can : Bool) → length {A = Path} (if can then [] ∷ [] else []) ≡ (if can then 1 else 0)
    by true = refl
    by false = refl

levels_count : (t : ExprModel) (n : ℕ) → levels t ≤ n → total n 0 (λ k. length (level_paths k t)) ≡ swaps_of t
levels_count (word w) n h = total_none n 0
levels_count (reg r w) n h = total_none n 0
levels_count (const w v) n h = total_none n 0
levels_count (read space a w) n h = one_total n (swaps_of a) (λ k. length (level_paths k (read space a w))) a h refl (λ k. one_up k a) (levels_count a)
levels_count (un o a) n h = one_total n (swaps_of a) (λ k. length (level_paths k (un o a))) a h refl (λ k. one_up k a) (levels_count a)
levels_count (slice a hi lo) n h = one_total n (swaps_of a) (λ k. length (level_paths k (slice a hi lo))) a h refl (λ k. one_up k a) (levels_count a)
levels_count (zext a w) n h = one_total n (swaps_of a) (λ k. length (level_paths k (zext a w))) a h refl (λ k. one_up k a) (levels_count a)
levels_count (sext a w) n h = one_total n (swaps_of a) (λ k. length (level_paths k (sext a w))) a h refl (λ k. one_up k a) (levels_count a)
levels_count (bin o a b) n h =
    step_total n (λ k. length (level_paths k (bin o a b))) (λ k. length (level_paths k a) + length (level_paths k b)) (max (levels a) (levels b)) (swaps_of a + swaps_of b) h
    (λ k. two_up k (if swaps_here o a b then [] ∷ [] else []) a b)
    (λ x l. total_add x 0 (λ k. length (level_paths k a)) (λ k. length (level_paths k b)) ∙ (λ j. levels_count a x (omega (arith, l)) j + levels_count b x (omega (arith, l)) j))
    ∙ ap (λ r. r + (swaps_of a + swaps_of b)) (root_count o a b)
levels_count (cat a b) n h =
    (let s = step_total n (λ k. length (level_paths k (cat a b))) (λ k. length (level_paths k a) + length (level_paths k b)) (max (levels a) (levels b)) (swaps_of a + swaps_of b) h
    (λ k. two_up k [] a b)
    (λ x l. total_add x 0 (λ k. length (level_paths k a)) (λ k. length (level_paths k b)) ∙ (λ j. levels_count a x (omega (arith, l)) j + levels_count b x (omega (arith, l)) j))
    in omega (arith, s))
levels_count (select c a b) n h =
    (let s = step_total n (λ k. length (level_paths k (select c a b))) (λ k. length (level_paths k c) + (length (level_paths k a) + length (level_paths k b)))
    (max (levels c) (max (levels a) (levels b))) (swaps_of c + (swaps_of a + swaps_of b)) h (λ k. three_up k c a b)
    (λ x l. total_add x 0 (λ k. length (level_paths k c)) (λ k. length (level_paths k a) + length (level_paths k b))
    ∙ (λ j. levels_count c x (omega (arith, l)) j
    + (total_add x 0 (λ k. length (level_paths k a)) (λ k. length (level_paths k b)) ∙ (λ i. levels_count a x (omega (arith, l)) i + levels_count b x (omega (arith, l)) i)) j))
    in omega (arith, s))

paths_count : (t : ExprModel) → length (operator_paths t) ≡ swaps_of t
paths_count t = paths_total (levels t) 0 t ∙ levels_count t (levels t) (omega arith)

addr_count : (a : Option ExprModel) → length (addr_paths a) ≡ addr_swaps a
addr_count None = refl
addr_count (Some a) = paths_count a

pub sides_count : (sides : SidesModel) → swap_count sides ≡ min 8 (addr_swaps sides.addr + swaps_of sides.value)
sides_count sides =
    length-take 8 (under 0 (addr_paths sides.addr) ++ under 1 (operator_paths sides.value))
    ∙ ap (min 8) (length-append (under 0 (addr_paths sides.addr)) (under 1 (operator_paths sides.value))
    ∙ (λ j. (length-map (addr_paths sides.addr) (λ path. 0 ∷ path) ∙ addr_count sides.addr) j + (length-map (operator_paths sides.value) (λ path. 1 ∷ path) ∙ paths_count sides.value) j))

-- ---- an address and a value

-- the operators of a list that are swapped are those of its first places
picks_take : (n choice : ℕ) (ps : List Path) (p : Path) → picks choice (take n ps) p ≡ picks (choice % 2 ^ n) ps p
picks_take zero choice ps p = sym (ap (λ k. picks k ps p) (let e : choice % 1 ≡ 0 = omega arith in e) ∙ picks_zero ps)
  where
    picks_zero : (qs : List Path) → picks 0 qs p ≡ false
    picks_zero [] = refl
    picks_zero (first ∷ rest) = ap (λ x. x || picks 0 rest p) (and-false (same_path first p)) ∙ picks_zero rest
picks_take (suc n) choice [] p = refl
picks_take (suc n) choice (first ∷ rest) p =
    (λ j. (same_path first p && low j == 1) || (picks_take n (choice / 2) rest p ∙ ap (λ k. picks k rest p) half) j)
  where
    split : choice % 2 ^ suc n ≡ (choice / 2 % 2 ^ n) * 2 + choice % 2
    split = ap (λ k. choice % 2 ^ k) (let e : suc n ≡ n + 1 = omega arith in e) ∙ mod-pow-add choice n 1

    half : choice / 2 % 2 ^ n ≡ choice % 2 ^ suc n / 2
    half = (let s = split in omega (arith, s))

    low : bit_at choice 0 ≡ bit_at (choice % 2 ^ suc n) 0
    low = bit_at_lowest choice ∙ (let s = split in omega (arith, s)) ∙ sym (bit_at_lowest (choice % 2 ^ suc n))

-- the swaps of the address by the lowest bits, and those of the value by what they leave
pub sides_swap : (choice : ℕ) (sides new : SidesModel)
    → new.addr ≡ option_map (swap_at (picks (choice % 256) (addr_paths sides.addr))) sides.addr
    → new.value ≡ swap_at (picks (left_behind (choice % 256) (addr_paths sides.addr)) (operator_paths sides.value)) sides.value
    → new ≡ swapped choice sides
sides_swap choice sides new a v = (λ j. record { addr = (a ∙ addr_is sides.addr) j; value = (v ∙ swap_same _ _ sides.value (λ p. sym (value_at p))) j })
  where
    ps : List Path
    ps = addr_paths sides.addr

    qs : List Path
    qs = operator_paths sides.value

    addr_at : (p : Path) → picks choice (take 8 (two ps qs)) (0 ∷ p) ≡ picks (choice % 256) ps p
    addr_at p = picks_take 8 choice (two ps qs) (0 ∷ p) ∙ two_first (choice % 256) ps qs p

    value_at : (p : Path) → picks choice (take 8 (two ps qs)) (1 ∷ p) ≡ picks (left_behind (choice % 256) ps) qs p
    value_at p = picks_take 8 choice (two ps qs) (1 ∷ p) ∙ two_second (choice % 256) ps qs p

    addr_is : (o : Option ExprModel) → option_map (swap_at (picks (choice % 256) ps)) o ≡ option_map (swap_at (λ p. picks choice (take 8 (two ps qs)) (0 ∷ p))) o
    addr_is None = refl
    addr_is (Some t) = (λ j. Some (swap_same (picks (choice % 256) ps) (λ p. picks choice (take 8 (two ps qs)) (0 ∷ p)) t (λ p. sym (addr_at p)) j))
