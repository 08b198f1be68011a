-- The texts of a netlist's transfers: each is a place, ` := ` and a value, unbroken, and names its
-- storage.
use Rattle.std.proofs.Common.{◌≡◌, ◌==◌, ◌||◌, ◌&&◌, not, ℕ, ◌^◌, ◌<◌, Bool, true, false, true≢false, cond, List, [], ◌∷◌, ◌++◌, codes, refl, sym, ap, ◌∙◌, append_assoc}
use Rattle.std.specs.Fmt.{decimal}
use Rattle.std.specs.List.{AllByRecursion, AllPass, concat, list_all, take_while}
use Rattle.std.proofs.lemmas.Bool.{and_parts, ne_eqb}
use Rattle.std.proofs.lemmas.List.Elements.{All-head, All-tail}
use Rattle.std.proofs.lemmas.List.Folds.{list_all-append}
use Rattle.std.proofs.lemmas.List.Sums.{take_while-cons}
use Rattle.lexing.specs.Bytes.{is_name_byte}
use Rattle.rec_bits.specs.declared.operator.Op1.{Op1}
use Rattle.rec_bits.specs.declared.operator.Op1.TheVariants.{Not, Neg}
use Rattle.rec_bits.specs.declared.operator.Op2.{Op2}
use Rattle.rec_bits.specs.declared.operator.Op2.TheVariants.{Add, Sub, Mul, And, Or, Xor, Shl, Shr, Sar, Eq, Ltu, Lts}
use Rattle.rec_bits.proofs.Booleans.{or_parts}
use Rattle.net_model.specs.declared.hardware.Netlist.{Netlist}
use Rattle.net_model.specs.Nets.{place_in}
use Rattle.net_model.specs.Exprs.{ExprModel, word, reg, const, read, un, bin, slice, cat, zext, sext, select, TransferModel, keep, write, write_at}
use Rattle.net_model.specs.Texts.{first_name, text_of_transfer, name_of, op1_text, op2_text, space_name, expr_text}
use Rattle.transfer_set.specs.TextMarks.{IsTransferOf, IsExprOf, Plain, is_close, is_mark}
use Rattle.isa_extract.proofs.PlainNames.{HasSpelledNames}
use Rattle.asm_text.specs.Lines.{IsTransferText, IsUnbroken, Lacks, storage_in}
use Rattle.asm_text.proofs.Words.{lacks_decimal}

-- ---- bytes that are neither a space nor an LF

abbrev is_solid : ℕ → Bool
is_solid b = not ((b == 32) || (b == 10))

abbrev Solid : List ℕ → Type 0
Solid text = list_all is_solid text ≡ true

solid_append : (x y : List ℕ) → Solid x → Solid y → Solid (x ++ y)
solid_append x y p q = list_all-append is_solid x y ∙ (λ k. p k && q k)

solid_concat : (parts : List (List ℕ)) → AllByRecursion Solid parts → Solid (concat parts)
solid_concat [] h = refl
solid_concat (part ∷ parts) h = solid_append part (concat parts) h.0 (solid_concat parts h.1)

solid_of : (text : List ℕ) → Lacks 32 text → Lacks 10 text → Solid text
solid_of [] s e = refl
solid_of (b ∷ bs) s e = (λ k. not (s.0 k || e.0 k) && solid_of bs s.1 e.1 k)

solid_decimal : (n : ℕ) → n < 2 ^ 64 → Solid (decimal n)
solid_decimal n lt = solid_of (decimal n) (lacks_decimal 32 n refl lt) (lacks_decimal 10 n refl lt)

neither : (x y : Bool) → not (x || y) ≡ true → (x ≡ false) × (y ≡ false)
neither false false e = (refl, refl)
neither false true e = absurd (true≢false (sym e))
neither true y e = absurd (true≢false (sym e))

solid_space : (text : List ℕ) → Solid text → Lacks 32 text
solid_space [] h = tt
solid_space (b ∷ bs) h =
    let p = and_parts (is_solid b) (list_all is_solid bs) h in
    ((neither (b == 32) (b == 10) p.0).0, solid_space bs p.1)

solid_end : (text : List ℕ) → Solid text → Lacks 10 text
solid_end [] h = tt
solid_end (b ∷ bs) h =
    let p = and_parts (is_solid b) (list_all is_solid bs) h in
    ((neither (b == 32) (b == 10) p.0).1, solid_end bs p.1)

unbroken : (text : List ℕ) → Solid text → IsUnbroken text
unbroken text h = record { space = solid_space text h; end = solid_end text h }

-- ---- names

name_byte : (b mark : ℕ) → is_name_byte mark ≡ false → is_name_byte b ≡ true → (b == mark) ≡ false
name_byte b mark out named = ne_eqb b mark (λ e. true≢false (sym named ∙ ap is_name_byte e ∙ out))

solid_name : (name : List ℕ) → AllPass is_name_byte name → Solid name
solid_name [] h = refl
solid_name (b ∷ bs) h =
    let named = All-head (λ x. is_name_byte x ≡ true) b bs h in
    let space = name_byte b 32 refl named in
    let end = name_byte b 10 refl named in
    (λ k. not (space k || end k) && solid_name bs (All-tail (λ x. is_name_byte x ≡ true) b bs h) k)

-- ---- expressions and transfers

solid_op1 : (op : Op1) → Solid (op1_text op)
solid_op1 Not = refl
solid_op1 Neg = refl

solid_op2 : (op : Op2) → Solid (op2_text op)
solid_op2 Add = refl
solid_op2 Sub = refl
solid_op2 Mul = refl
solid_op2 And = refl
solid_op2 Or = refl
solid_op2 Xor = refl
solid_op2 Shl = refl
solid_op2 Shr = refl
solid_op2 Sar = refl
solid_op2 Eq = refl
solid_op2 Ltu = refl
solid_op2 Lts = refl

module _ (netlist : Netlist) (names : HasSpelledNames netlist) where
  solid_storage : (id : ℕ) → Solid (name_of netlist id)
  solid_storage id = solid_name (name_of netlist id) (names.storages id)

  solid_expr : (t : ExprModel) → IsExprOf netlist t → Solid (expr_text netlist t)
  solid_expr (word w) f = solid_name (first_name netlist.codes) names.code
  solid_expr (reg r w) f = solid_storage r
  solid_expr (const w v) f = solid_concat (decimal v ∷ codes "#" ∷ decimal w ∷ []) (solid_decimal v f.1, (refl, (solid_decimal w f.0, tt)))
  solid_expr (read space a w) f =
      solid_concat (codes "read(" ∷ space_name netlist space ∷ codes "," ∷ expr_text netlist a ∷ codes ")" ∷ [])
      (refl, (solid_storage (place_in space netlist.storages), (refl, (solid_expr a f.0, (refl, tt)))))
  solid_expr (un o a) f = solid_concat (op1_text o ∷ codes "(" ∷ expr_text netlist a ∷ codes ")" ∷ []) (solid_op1 o, (refl, (solid_expr a f, (refl, tt))))
  solid_expr (bin o a b) f =
      solid_concat (op2_text o ∷ codes "(" ∷ expr_text netlist a ∷ codes "," ∷ expr_text netlist b ∷ codes ")" ∷ [])
      (solid_op2 o, (refl, (solid_expr a f.0, (refl, (solid_expr b f.1, (refl, tt))))))
  solid_expr (slice a hi lo) f =
      solid_concat (codes "slice(" ∷ expr_text netlist a ∷ codes "," ∷ decimal hi ∷ codes "," ∷ decimal lo ∷ codes ")" ∷ [])
      (refl, (solid_expr a f.0, (refl, (solid_decimal hi f.1, (refl, (solid_decimal lo f.2, (refl, tt)))))))
  solid_expr (cat a b) f =
      solid_concat (codes "cat(" ∷ expr_text netlist a ∷ codes "," ∷ expr_text netlist b ∷ codes ")" ∷ [])
      (refl, (solid_expr a f.0, (refl, (solid_expr b f.1, (refl, tt)))))
  solid_expr (zext a w) f =
      solid_concat (codes "zext(" ∷ expr_text netlist a ∷ codes "," ∷ decimal w ∷ codes ")" ∷ [])
      (refl, (solid_expr a f.0, (refl, (solid_decimal w f.1, (refl, tt)))))
  solid_expr (sext a w) f =
      solid_concat (codes "sext(" ∷ expr_text netlist a ∷ codes "," ∷ decimal w ∷ codes ")" ∷ [])
      (refl, (solid_expr a f.0, (refl, (solid_decimal w f.1, (refl, tt)))))
  solid_expr (select c a b) f =
      solid_concat (codes "select(" ∷ expr_text netlist c ∷ codes "," ∷ expr_text netlist a ∷ codes "," ∷ expr_text netlist b ∷ codes ")" ∷ [])
      (refl, (solid_expr c f.0, (refl, (solid_expr a f.1, (refl, (solid_expr b f.2, (refl, tt)))))))

  -- a place at an address in front of what follows
  addressed : (name addr rest : List ℕ) → concat (name ∷ codes "[" ∷ addr ∷ codes "]" ∷ []) ++ rest ≡ name ++ (91 ∷ (addr ++ (93 ∷ rest)))
  addressed name addr rest =
      append_assoc name (91 ∷ (addr ++ (93 ∷ []))) rest ∙ ap (λ (x : List ℕ). name ++ (91 ∷ x)) (append_assoc addr (93 ∷ []) rest)

  pub transfer_text : (id : ℕ) (move : TransferModel) → (move ≡ keep → ⊥) → IsTransferOf netlist move → IsTransferText (text_of_transfer netlist id move)
  transfer_text id keep changes f = absurd (changes refl)
  transfer_text id (write e) changes f = record {
    place = name_of netlist id;
    value = expr_text netlist e;
    parts = refl;
    place_unbroken = unbroken (name_of netlist id) (solid_storage id);
    value_unbroken = unbroken (expr_text netlist e) (solid_expr e f);
  }
  transfer_text id (write_at a e) changes f =
      let place = concat (name_of netlist id ∷ codes "[" ∷ expr_text netlist a ∷ codes "]" ∷ []) in
      record {
        place = place;
        value = expr_text netlist e;
        parts = sym (addressed (name_of netlist id) (expr_text netlist a) (codes " := " ++ (expr_text netlist e ++ [])));
        place_unbroken = unbroken place (solid_concat (name_of netlist id ∷ codes "[" ∷ expr_text netlist a ∷ codes "]" ∷ []) (solid_storage id, (refl, (solid_expr a f.0, (refl, tt)))));
        value_unbroken = unbroken (expr_text netlist e) (solid_expr e f.1);
      }

-- ---- the storage that a text names

abbrev goes : ℕ → Bool
goes b = not ((b == 32) || (b == 91))

goes_on : (b : ℕ) → is_mark b ≡ false → goes b ≡ true
goes_on b h =
    let open_marks = (or_parts (is_close b) (((b == 35) || (b == 40)) || (b == 91) || (b == 32)) h).1 in
    let last = or_parts (((b == 35) || (b == 40)) || (b == 91)) (b == 32) open_marks in
    let square = or_parts ((b == 35) || (b == 40)) (b == 91) last.0 in
    (λ k. not (last.1 k || square.1 k))

stops_at : (name : List ℕ) (c : ℕ) (rest : List ℕ) → Plain name → goes c ≡ false → storage_in (name ++ (c ∷ rest)) ≡ name
stops_at [] c rest plain e = take_while-cons goes c rest ∙ ap (λ (t : Bool). cond t (c ∷ take_while goes rest) []) e
stops_at (b ∷ bs) c rest plain e =
    let on = goes_on b plain.0 in
    let more = stops_at bs c rest plain.1 e in
    take_while-cons goes b (bs ++ (c ∷ rest)) ∙ (λ k. cond (on k) (b ∷ more k) [])

pub names_storage : (netlist : Netlist) (id : ℕ) (move : TransferModel) → Plain (name_of netlist id) → (move ≡ keep → ⊥) → storage_in (text_of_transfer netlist id move) ≡ name_of netlist id
names_storage netlist id keep plain changes = absurd (changes refl)
names_storage netlist id (write e) plain changes = stops_at (name_of netlist id) 32 _ plain refl
names_storage netlist id (write_at a e) plain changes = stops_at (name_of netlist id) 91 _ plain refl
