-- Swapped operands change no register and no bit that occurs.
use Rattle.std.proofs.Common.{◌≡◌, ℕ, ◌&&◌, Bool, true, false, [], ◌∷◌, Option, Some, None, refl, sym, ◌∙◌}
use Rattle.std.specs.Option.{option_map}
use Rattle.std.proofs.lemmas.Bool.{true≢false}
use Rattle.std.proofs.lemmas.Nat.{or_comm as join_comm}
use Rattle.rec_bits.specs.declared.operator.Op1.{Op1}
use Rattle.rec_bits.specs.declared.operator.Op2.{Op2}
use Rattle.rec_bits.proofs.Booleans.{or_comm}
use Rattle.net_model.specs.declared.hardware.Space.{Space}
use Rattle.net_model.specs.declared.hardware.Space.TheVariants.{Memory as InMemory, File as InFile}
use Rattle.net_model.specs.Fields.{fields}
use Rattle.net_model.specs.Exprs.{ExprModel, word, reg, const, read, un, bin, slice, cat, zext, sext, select}
use Rattle.form_model.specs.Effects.{register, expr_reads}
use Rattle.operand_swaps.specs.Swaps.{Path, SidesModel, ordered, picks, swap_at, swap_paths, swapped, swaps_here}
use Rattle.emit_seq.specs.ReadWords.{ReadsWords}
use Rattle.form_model.specs.Bits.{uses}
use Rattle.emit_seq.specs.Formed.{BitsApart, IsOnce}

abbrev pub is_word : ExprModel → Bool
is_word (word w) = true
is_word _ = false

-- two expressions in which the same registers and bits occur, none of them oftener, and reads of
-- the same words
pub record IsSwapped (t u : ExprModel) : Type 0 where
  pub reads : (i r : ℕ) → expr_reads i t (register r) ≡ expr_reads i u (register r)
  pub used : (k : ℕ) → uses t k ≡ uses u k
  pub fields_same : fields t ≡ fields u
  pub word_same : is_word t ≡ is_word u
  pub once : IsOnce t → IsOnce u
  pub words : (bits : ℕ) → ReadsWords bits t → ReadsWords bits u

pub unswapped : (t : ExprModel) → IsSwapped t t
unswapped t = record { reads = λ i r. refl; used = λ k. refl; fields_same = refl; word_same = refl; once = λ h. h; words = λ bits h. h }

pub swapped_then : (t u v : ExprModel) → IsSwapped t u → IsSwapped u v → IsSwapped t v
swapped_then t u v a b = record {
  reads = λ i r. a.reads i r ∙ b.reads i r;
  used = λ k. a.used k ∙ b.used k;
  fields_same = a.fields_same ∙ b.fields_same;
  word_same = a.word_same ∙ b.word_same;
  once = λ h. b.once (a.once h);
  words = λ bits h. b.words bits (a.words bits h);
}

apart_same : (a b a' b' : ExprModel) → ((k : ℕ) → uses a k ≡ uses a' k) → ((k : ℕ) → uses b k ≡ uses b' k) → BitsApart a b → BitsApart a' b'
apart_same a b a' b' f g h k e = sym (g k) ∙ h k (f k ∙ e)

-- ---- inside operators

in_un : (o : Op1) (a b : ExprModel) → IsSwapped a b → IsSwapped (un o a) (un o b)
in_un o a b h = record {
  reads = h.reads;
  used = h.used;
  fields_same = h.fields_same;
  word_same = refl;
  once = h.once;
  words = h.words;
}

in_read : (space : Space) (w : ℕ) (a b : ExprModel) → IsSwapped a b → IsSwapped (read space a w) (read space b w)
in_read InMemory w a b h = record {
  reads = h.reads;
  used = h.used;
  fields_same = h.fields_same;
  word_same = refl;
  once = h.once;
  words = λ bits e. (e.0, h.words bits e.1);
}
in_read InFile w a b h = record {
  reads = h.reads;
  used = h.used;
  fields_same = h.fields_same;
  word_same = refl;
  once = h.once;
  words = h.words;
}

in_zext : (w : ℕ) (a b : ExprModel) → IsSwapped a b → IsSwapped (zext a w) (zext b w)
in_zext w a b h = record { reads = h.reads; used = h.used; fields_same = h.fields_same; word_same = refl; once = h.once; words = h.words }

in_sext : (w : ℕ) (a b : ExprModel) → IsSwapped a b → IsSwapped (sext a w) (sext b w)
in_sext w a b h = record {
  reads = h.reads;
  used = h.used;
  fields_same = h.fields_same;
  word_same = refl;
  once = h.once;
  words = h.words;
}

slice_uses : (a : ExprModel) (hi lo k : ℕ) → is_word a ≡ false → uses (slice a hi lo) k ≡ uses a k
slice_uses (word w) hi lo k e = absurd (true≢false e)
slice_uses a hi lo k e = refl

slice_fields : (a : ExprModel) (hi lo : ℕ) → is_word a ≡ false → fields (slice a hi lo) ≡ fields a
slice_fields (word w) hi lo e = absurd (true≢false e)
slice_fields a hi lo e = refl

in_slice : (hi lo : ℕ) (a b : ExprModel) → is_word a ≡ false → IsSwapped a b → IsSwapped (slice a hi lo) (slice b hi lo)
in_slice hi lo a b n h = record {
  reads = h.reads;
  used = λ k. slice_uses a hi lo k n ∙ h.used k ∙ sym (slice_uses b hi lo k (sym h.word_same ∙ n));
  fields_same = slice_fields a hi lo n ∙ h.fields_same ∙ sym (slice_fields b hi lo (sym h.word_same ∙ n));
  word_same = refl;
  once = h.once;
  words = h.words;
}

in_bin : (o : Op2) (a b c d : ExprModel) → IsSwapped a c → IsSwapped b d → IsSwapped (bin o a b) (bin o c d)
in_bin o a b c d h k = record {
  reads = λ i r. cc (h.reads i r, k.reads i r);
  used = λ j. cc (h.used j, k.used j);
  fields_same = cc (h.fields_same, k.fields_same);
  word_same = refl;
  once = λ e. (h.once e.0, k.once e.1, apart_same a b c d h.used k.used e.2, apart_same b a d c k.used h.used e.3);
  words = λ bits e. (h.words bits e.0, k.words bits e.1);
}

in_cat : (a b c d : ExprModel) → IsSwapped a c → IsSwapped b d → IsSwapped (cat a b) (cat c d)
in_cat a b c d h k = record {
  reads = λ i r. cc (h.reads i r, k.reads i r);
  used = λ j. cc (h.used j, k.used j);
  fields_same = cc (h.fields_same, k.fields_same);
  word_same = refl;
  once = λ e. (h.once e.0, k.once e.1, apart_same a b c d h.used k.used e.2, apart_same b a d c k.used h.used e.3);
  words = λ bits e. (h.words bits e.0, k.words bits e.1);
}

in_select : (c a b d e f : ExprModel) → IsSwapped c d → IsSwapped a e → IsSwapped b f → IsSwapped (select c a b) (select d e f)
in_select c a b d e f g h k = record {
  reads = λ i r. cc (g.reads i r, h.reads i r, k.reads i r);
  used = λ j. cc (g.used j, h.used j, k.used j);
  fields_same = cc (g.fields_same, h.fields_same, k.fields_same);
  word_same = refl;
  once = λ q. (g.once q.0, h.once q.1, k.once q.2, apart_same c a d e g.used h.used q.3, apart_same a b e f h.used k.used q.4, apart_same b c f d k.used g.used q.5);
  words = λ bits q. (g.words bits q.0, h.words bits q.1, k.words bits q.2);
}

-- ---- one swap

at_root : (o : Op2) (a b : ExprModel) → IsSwapped (bin o a b) (bin o b a)
at_root o a b = record {
  reads = λ i r. or_comm (expr_reads i a (register r)) (expr_reads i b (register r));
  used = λ k. or_comm (uses a k) (uses b k);
  fields_same = join_comm (fields a) (fields b);
  word_same = refl;
  once = λ h. (h.1, h.0, h.3, h.2);
  words = λ bits h. (h.1, h.0);
}

-- ---- the swaps of a form

-- swaps at any operators. A slice of the word has none in it
pub swap_at_swapped : (chosen : Path → Bool) (t : ExprModel) → IsSwapped t (swap_at chosen t)
swap_at_swapped chosen (word w) = unswapped (word w)
swap_at_swapped chosen (reg r w) = unswapped (reg r w)
swap_at_swapped chosen (const w v) = unswapped (const w v)
swap_at_swapped chosen (read space a w) = in_read space w a (swap_at (λ path. chosen (0 ∷ path)) a) (swap_at_swapped (λ path. chosen (0 ∷ path)) a)
swap_at_swapped chosen (un o a) = in_un o a (swap_at (λ path. chosen (0 ∷ path)) a) (swap_at_swapped (λ path. chosen (0 ∷ path)) a)
swap_at_swapped chosen (bin o a b) =
    by (swaps_here o a b && chosen []) (in_bin o a b c d (swap_at_swapped (λ path. chosen (0 ∷ path)) a) (swap_at_swapped (λ path. chosen (1 ∷ path)) b))
  where
    c : ExprModel
    c = swap_at (λ path. chosen (0 ∷ path)) a

    d : ExprModel
    d = swap_at (λ path. chosen (1 ∷ path)) b

    by : (swaps : Bool) → IsSwapped (bin o a b) (bin o c d) → IsSwapped (bin o a b) (ordered swaps o c d)
    by true h = swapped_then (bin o a b) (bin o c d) (bin o d c) h (at_root o c d)
    by false h = h
swap_at_swapped chosen (slice (word w) hi lo) = unswapped (slice (word w) hi lo)
swap_at_swapped chosen (slice a hi lo) = in_slice hi lo a (swap_at (λ path. chosen (0 ∷ path)) a) refl (swap_at_swapped (λ path. chosen (0 ∷ path)) a)
swap_at_swapped chosen (cat a b) =
    in_cat a b (swap_at (λ path. chosen (0 ∷ path)) a) (swap_at (λ path. chosen (1 ∷ path)) b) (swap_at_swapped (λ path. chosen (0 ∷ path)) a)
    (swap_at_swapped (λ path. chosen (1 ∷ path)) b)
swap_at_swapped chosen (zext a w) = in_zext w a (swap_at (λ path. chosen (0 ∷ path)) a) (swap_at_swapped (λ path. chosen (0 ∷ path)) a)
swap_at_swapped chosen (sext a w) = in_sext w a (swap_at (λ path. chosen (0 ∷ path)) a) (swap_at_swapped (λ path. chosen (0 ∷ path)) a)
swap_at_swapped chosen (select c a b) =
    in_select c a b (swap_at (λ path. chosen (0 ∷ path)) c) (swap_at (λ path. chosen (1 ∷ path)) a) (swap_at (λ path. chosen (2 ∷ path)) b)
    (swap_at_swapped (λ path. chosen (0 ∷ path)) c) (swap_at_swapped (λ path. chosen (1 ∷ path)) a) (swap_at_swapped (λ path. chosen (2 ∷ path)) b)

-- ---- address and value

abbrev pub AddrSwapped : Option ExprModel → Option ExprModel → Type 0
AddrSwapped None None = Unit {0}
AddrSwapped (Some a) (Some b) = IsSwapped a b
AddrSwapped _ _ = ⊥

pub record AreSwapped (x y : SidesModel) : Type 0 where
  pub addr : AddrSwapped x.addr y.addr
  pub value : IsSwapped x.value y.value

addr_swapped : (chosen : Path → Bool) (o : Option ExprModel) → AddrSwapped o (option_map (swap_at chosen) o)
addr_swapped chosen None = tt
addr_swapped chosen (Some a) = swap_at_swapped chosen a

-- each form of a pattern is another way to write it
pub swapped_sides : (choice : ℕ) (x : SidesModel) → AreSwapped x (swapped choice x)
swapped_sides choice x = record {
  addr = addr_swapped (λ path. picks choice (swap_paths x) (0 ∷ path)) x.addr;
  value = swap_at_swapped (λ path. picks choice (swap_paths x) (1 ∷ path)) x.value;
}
