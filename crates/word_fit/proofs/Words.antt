-- Words that fit the groups leave what the groups leave, in memory and in the live registers.
use Rattle.std.proofs.Common.{◌≡◌, ℕ, ◌≤◌, ◌==◌, ◌||◌, ◌&&◌, inl, inr, Bool, true, false, not, List, [], ◌∷◌, length, slice_index, slice_set, refl, sym, ◌∙◌, ap, arith, subst}
use Rattle.std.proofs.lemmas.Bool.{ne_eqb, cases_eq, cases_lt, or_left, or_right}
use Rattle.std.proofs.Math.Bool.{or_assoc}
use Rattle.std.proofs.lemmas.List.{get_or-set_same, get_or-set_other, length-set, set_past, get_or_past}
use Rattle.rec_bits.proofs.Booleans.{left_true}
use Rattle.net_model.specs.declared.hardware.Space.{Space}
use Rattle.net_model.specs.declared.hardware.Space.TheVariants.{Memory as InMemory, File as InFile}
use Rattle.net_model.specs.MemoryText.{with_cell}
use Rattle.net_model.proofs.Spaces.{by_space}
use Rattle.net_model.specs.Nets.{held}
use Rattle.net_model.specs.declared.states.State.{State}
use Rattle.net_model.specs.Exprs.{ExprModel, TransferModel, keep, write, write_at}
use Rattle.net_model.specs.Meaning.{mean}
use Rattle.net_model.specs.Occurs.{AgreeOn}
use Rattle.net_model.proofs.TermLaws.{mean_alike, agree_less as on_less}
use Rattle.form_model.specs.Effects.{Operation, register, expr_reads, transfer_reads, reads, transfer_writes, writes, apply_transfer, apply_operation, apply_all, group_effect}
use Rattle.form_model.specs.Live.{Regs, group_reads, group_writes}
use Rattle.word_fit.specs.Groups.{Agree}
use Rattle.word_fit.proofs.Occurring.{reads_occurs}

pub agree_less : (k l : Regs) (s t : State) → ((r : ℕ) → l r ≡ true → k r ≡ true) → Agree k s t → Agree l s t
agree_less k l s t h a = record { size = a.size; cells = a.cells; file = a.file; regs = λ r e. a.regs r (h r e) }

pub agree_trans : (l : Regs) (s t u : State) → Agree l s t → Agree l t u → Agree l s u
agree_trans l s t u a b = record { size = a.size ∙ b.size; cells = a.cells ∙ b.cells; file = a.file ∙ b.file; regs = λ r e. a.regs r e ∙ b.regs r e }

-- two states with the same memory and file, and the same in each register that is read
abbrev SeenAlike : Regs → State → State → Type 0
SeenAlike reads o p = AgreeOn reads true o p

seen_less : (k l : Regs) (o p : State) → ((r : ℕ) → l r ≡ true → k r ≡ true) → SeenAlike k o p → SeenAlike l o p
seen_less k l o p h a = on_less l k true true o p h (λ e. e) a

mean_seen : (t : ExprModel) (i : ℕ) (o p : State) → SeenAlike (λ r. expr_reads i t (register r)) o p → mean t o i ≡ mean t p i
mean_seen t i o p a = mean_alike t i o p (record { regs = λ r e. a.regs r (reads_occurs t i r ∙ e); cells = λ e. a.cells refl })

-- the same value goes into the same register of two files
set_alike : (xs ys : List ℕ) (q x r : ℕ) (b : Bool) → length xs ≡ length ys → (b ≡ true → slice_index xs r ≡ slice_index ys r) → (b || (q == r)) ≡ true → slice_index (slice_set xs q x) r ≡ slice_index (slice_set ys q x) r
set_alike xs ys q x r b n h e =
    elim (cases_eq r q) as (λ _. slice_index (slice_set xs q x) r ≡ slice_index (slice_set ys q x) r) [
      | inl k ↦ subst (λ i. slice_index (slice_set xs q x) i ≡ slice_index (slice_set ys q x) i) (sym k)
          (elim (cases_lt q (length xs)) as (λ _. slice_index (slice_set xs q x) q ≡ slice_index (slice_set ys q x) q) [
            | inl u ↦ get_or-set_same xs q x 0 u ∙ sym (get_or-set_same ys q x 0 (omega arith))
            | inr u ↦ past xs ys q x n u
          ])
      | inr k ↦ get_or-set_other xs q r x 0 k ∙ h (left_true b (q == r) e (ne_eqb q r (λ z. k (sym z)))) ∙ sym (get_or-set_other ys q r x 0 k)
    ]
  where
    past : (xs ys : List ℕ) (q x : ℕ) → length xs ≡ length ys → length xs ≤ q → slice_index (slice_set xs q x) q ≡ slice_index (slice_set ys q x) q
    past xs ys q x n u =
        let v : length ys ≤ q = omega arith in
        ap (λ (z : List ℕ). slice_index z q) (set_past xs q x u) ∙ get_or_past xs q 0 u ∙ sym (ap (λ (z : List ℕ). slice_index z q) (set_past ys q x v) ∙ get_or_past ys q 0 v)

-- one value goes into one cell of two states
put_alike : (n k : State) (l : Regs) (space : Space) (i j x y : ℕ) → i ≡ j → x ≡ y → Agree l n k → Agree l (with_cell n space i x) (with_cell k space j y)
put_alike n k l InMemory i j x y e f b = record { size = b.size; cells = rw (e, f, b.cells) refl; file = b.file; regs = b.regs }
put_alike n k l InFile i j x y e f b = record { size = b.size; cells = b.cells; file = rw (e, f, b.file) refl; regs = b.regs }

transfer_alike : (move : TransferModel) (storage setting : ℕ) (space : Space) (o u n k : State) (l : Regs) → SeenAlike (λ r. transfer_reads setting move (register r)) o u → Agree l n k → Agree (λ r. l r || transfer_writes storage move r) (apply_transfer storage space move setting o n) (apply_transfer storage space move setting u k)
transfer_alike keep storage setting space o u n k l a b = agree_less l _ n k (λ r e. left_true (l r) false e refl) b
transfer_alike (write v) storage setting space o u n k l a b =
    let e : mean v o setting ≡ mean v u setting = mean_seen v setting o u (a) in
    subst (λ x. Agree (λ r. l r || transfer_writes storage (write v) r) (apply_transfer storage space (write v) setting o n) (let s : State = record { regs = slice_set k.regs storage x; cells = k.cells; file = k.file } in s)) e
    (record {
      size = length-set n.regs storage (mean v o setting) ∙ b.size ∙ sym (length-set k.regs storage (mean v o setting));
      cells = b.cells;
      file = b.file;
      regs = λ r f. set_alike n.regs k.regs storage (mean v o setting) r (l r) b.size (b.regs r) f;
    })
transfer_alike (write_at c v) storage setting space o u n k l a b =
    let e : mean c o setting ≡ mean c u setting = mean_seen c setting o u (seen_less _ _ o u (λ r z. or_left (expr_reads setting c (register r)) (expr_reads setting v (register r)) z) a) in
    let f : mean v o setting ≡ mean v u setting = mean_seen v setting o u (seen_less _ _ o u (λ r z. or_right (expr_reads setting c (register r)) (expr_reads setting v (register r)) z) a) in
    agree_less l _ _ _ (λ r z. left_true (l r) false z refl) (put_alike n k l space _ _ _ _ e f b)

operation_alike : (p : Operation) (o u n k : State) (l : Regs) → SeenAlike (λ r. reads p (register r)) o u → Agree l n k → Agree (λ r. l r || writes p r) (apply_operation p o n) (apply_operation p u k)
operation_alike p o u n k l a b = transfer_alike p.move p.storage p.setting p.space o u n k l a b

module _ {A : Type 0} (m : A → Operation) where
  all_alike : (g : List A) (o u n k : State) (l : Regs) → SeenAlike (group_reads m g) o u → Agree l n k → Agree (λ r. l r || group_writes m g r) (apply_all m g o n) (apply_all m g u k)
  all_alike [] o u n k l a b = agree_less l _ n k (λ r e. left_true (l r) false e refl) b
  all_alike (x ∷ g) o u n k l a b =
      let c : Agree (λ r. l r || writes (m x) r) (apply_operation (m x) o n) (apply_operation (m x) u k) =
      operation_alike (m x) o u n k l (seen_less _ _ o u (λ r z. or_left (reads (m x) (register r)) (group_reads m g r) z) a) b in
      let d : Agree (λ r. (l r || writes (m x) r) || group_writes m g r) (apply_all m g o (apply_operation (m x) o n)) (apply_all m g u (apply_operation (m x) u k)) =
      all_alike g o u (apply_operation (m x) o n) (apply_operation (m x) u k) (λ r. l r || writes (m x) r) (seen_less _ _ o u (λ r z. or_right (reads (m x) (register r)) (group_reads m g r) z) a) c in
      agree_less _ _ _ _ (λ r z. or_assoc (l r) (writes (m x) r) (group_writes m g r) ∙ z) d

  kept_or_written : (a w : Bool) → (a || w) ≡ true → ((a && not w) || w) ≡ true
  kept_or_written true true e = refl
  kept_or_written true false e = refl
  kept_or_written false w e = e

  kept_live : (a l w : Bool) → (l && not w) ≡ true → (a || (l && not w)) ≡ true
  kept_live a l w e = or_right a (l && not w) e

  -- a group leaves alike what was alike in the registers live before it
  pub effect_alike : (g : List A) (l : Regs) (s t : State) → Agree (λ r. group_reads m g r || (l r && not (group_writes m g r))) s t → Agree (λ r. l r || group_writes m g r) (group_effect m g s) (group_effect m g t)
  effect_alike g l s t a =
      agree_less _ _ _ _ (λ r z. kept_or_written (l r) (group_writes m g r) z)
      (all_alike g s t s t (λ r. l r && not (group_writes m g r))
      (record { cells = λ z. by_space (λ space. held s space ≡ held t space) a.cells a.file; regs = λ r z. a.regs r (or_left (group_reads m g r) (l r && not (group_writes m g r)) z) })
      (agree_less _ _ s t (λ r z. or_right (group_reads m g r) (l r && not (group_writes m g r)) z) a))
