-- Plain forms are as the steps of covers want them: each does what it says under any setting of its
-- bits.
use Rattle.std.proofs.Common.{◌≡◌, ℕ, ◌<◌, ◌==◌, ◌&&◌, Bool, true, false, bit_and, if◌then◌else◌, List, ◌∷◌, Option, Some, None, length, slice_get, refl, sym, ◌∙◌, ap, subst, arith, eqb-true}
use Rattle.std.specs.Int.{bit_at}
use Rattle.std.specs.Prelude.{is_some}
use Rattle.std.proofs.lemmas.Bool.{true≢false, eq-eqb, ne_eqb, and_parts}
use Rattle.std.proofs.lemmas.Nat.{and_comm}
use Rattle.net_model.specs.declared.hardware.Space.TheVariants.{Memory as InMemory, File as InFile}
use Rattle.net_model.specs.declared.hardware.Netlist.{Netlist}
use Rattle.net_model.specs.CheckedRules.{KeepsRules}
use Rattle.net_model.specs.declared.hardware.Space.{Space}
use Rattle.net_model.specs.declared.hardware.Storage.{Storage}
use Rattle.net_model.specs.Nets.{IsRegister, file_place, memory_id, place_in, size_in, space_of, word_width}
use Rattle.net_model.specs.Patterns.{Pattern}
use Rattle.net_model.specs.Exprs.{ExprModel, word, reg, const, read, un, bin, slice, cat, zext, sext, select, expr_width, TransferModel, keep, write, write_at}
use Rattle.net_model.specs.Transfers.{transfer_at}
use Rattle.net_model.proofs.KeptRules.{one_each}
use Rattle.net_model.proofs.Storages.{array_no_register, found, memory_no_register, storage_within, stores_cells, writes_register}
use Rattle.sym_expr.specs.Pools.{ExprFits}
use Rattle.net_model.specs.Fields.{fields}
use Rattle.transfer_set.specs.Inner.Widths.{TransferFits}
use Rattle.transfer_set.specs.TextMarks.{IsExprOf, IsTransferOf}
use Rattle.form_model.specs.Effects.{space_in}
use Rattle.form_model.specs.Forms.{FormModel, into_reg, into_memory, into_file}
use Rattle.form_model.specs.Shapes.{is_shape, shows_below}
use Rattle.form_set.specs.Inner.Linear.{is_linear, are_apart, transfer_linear}
use Rattle.form_set.specs.Listing.{IsPlain, goal_at, plain_form_model, sides_of}
use Rattle.operand_swaps.specs.Laws.{AreAlike, IsAlike as AreSame}
use Rattle.form_set.specs.Static.{is_file_at, transfer_shown, reads_shown, shows_cells}
use Rattle.operand_swaps.specs.Swaps.{Path, SidesModel, picks, swap_at, swap_paths, swapped}
use Rattle.form_set.specs.Tied.{counted, tied_of, tied_place}
use Rattle.form_set.specs.Words.{AreClobbers}
use Rattle.form_set.proofs.FormLaws.{own_clobber}
use Rattle.form_set.proofs.LinearLaws.{linear_is}
use Rattle.operand_swaps.proofs.SwapLaws.{swapped_alike}
use Rattle.form_model.specs.Bits.{uses}
use Rattle.emit_seq.specs.Formed.{BitsApart, CellsShown, MeansAlike, IsFormed, IsIntoFile, IsIntoMemory, IsIntoReg, IsOnce, IsTied}
use Rattle.word_fit.proofs.FilePlaces.{own_space}
use Rattle.right_code.proofs.Filed.{reads_at, shape_same, shown_of, swapped_reads, swapped_shown, tied_home}
use Rattle.right_code.specs.Inner.Known.{AreKnown}
use Rattle.right_code.proofs.Once.{WordsIn, apart_of, meet_none, once_of}
use Rattle.right_code.proofs.Swapping.{AreSwapped, IsSwapped, is_word, swapped_sides}

-- an expression with operands swapped is another way to write it
pub alike_of : (t u : ExprModel) → ExprFits t → AreSame t u → IsSwapped t u → MeansAlike u t
alike_of t u fits same h = record { means = same.same fits; reads = λ i r. sym (h.reads i r) }

-- ---- words in an expression have the width of the code

word_is : (netlist : Netlist) (a : ExprModel) → IsExprOf netlist a → is_word a ≡ true → expr_width a ≡ word_width netlist
word_is netlist (word w) h e = h
word_is netlist _ h e = absurd (cc)

pub words_in : (netlist : Netlist) (t : ExprModel) → IsExprOf netlist t → ExprFits t → WordsIn (word_width netlist) t
words_in netlist (word w) h f = h
words_in netlist (reg r w) h f = tt
words_in netlist (const w v) h f = tt
words_in netlist (read space a w) h f = words_in netlist a h.0 f.0
words_in netlist (un o a) h f = words_in netlist a h f
words_in netlist (bin o a b) h f = (words_in netlist a h.0 f.0, words_in netlist b h.1 f.1)
words_in netlist (slice a hi lo) h f = (words_in netlist a h.0 f.0, λ e. (f.1.0, let w = word_is netlist a h.0 e in let lt = f.1.1 in omega (arith, w, lt)))
words_in netlist (cat a b) h f = (words_in netlist a h.0 f.0, words_in netlist b h.1 f.1)
words_in netlist (zext a w) h f = words_in netlist a h.0 f.0
words_in netlist (sext a w) h f = words_in netlist a h.0 f.0
words_in netlist (select c a b) h f = (words_in netlist c h.0 f.0, words_in netlist a h.1 f.1, words_in netlist b h.2 f.2)

module _ (netlist : Netlist) (order : List ℕ) (keeps : KeepsRules netlist order) (some : 0 < word_width netlist) (patterns : List Pattern) (known : AreKnown netlist patterns) where
  -- the number of the file, and its size
  abbrev file : Option ℕ
  file = file_place netlist.storages

  abbrev size : ℕ
  size = size_in InFile netlist.storages

  -- ---- a plain form

  -- what takes a value at an address is the memory or the file
  stored_where : (storage i : ℕ) (a v : ExprModel) → transfer_at netlist i storage ≡ write_at a v → (space : Space) × (storage ≡ place_in space netlist.storages)
  stored_where storage i a v g =
      let o : Option Storage = slice_get netlist.storages storage in
      (space_of o, (found (space_of o) netlist.storages storage (one_each netlist keeps.roles (space_of o)) (stores_cells netlist i storage a v o g)).place)

  -- the memory isn't the file
  memory_no_file : (storage : ℕ) → storage < length netlist.storages → storage ≡ memory_id netlist.storages → is_file_at netlist storage ≡ false
  memory_no_file storage lt same =
      ne_eqb storage (place_in InFile netlist.storages)
      (λ e. spaces_differ (sym (own_space netlist.storages storage InMemory lt same) ∙ own_space netlist.storages storage InFile lt e))
    where
      spaces_differ : InMemory ≡ InFile → ⊥
      spaces_differ e = cc

  into_register : (p : Pattern) (number choice clobbers : ℕ) → slice_get patterns number ≡ Some p → IsPlain netlist p → AreClobbers netlist p clobbers → (storage : ℕ) (move : TransferModel) → p ≡ record { storage = storage; move = move }
      → (storage == memory_id netlist.storages) ≡ false → is_file_at netlist storage ≡ false → IsIntoReg patterns (length netlist.storages) size (plain_form_model netlist number p clobbers choice) storage
  into_register p number choice clobbers at plain are storage keep e ne nf =
      absurd ((known number p at).is.changes (ap (λ (q : Pattern). q.move) e))
  into_register p number choice clobbers at plain are storage (write_at a v) e ne nf =
      let k = known number p at in
      let g : transfer_at netlist k.is.word storage ≡ write_at a v = ap (λ (q : Pattern). transfer_at netlist k.is.word q.storage) (sym e) ∙ k.is.given.gives ∙ ap (λ (q : Pattern). q.move) e in
      let w = stored_where storage k.is.word a v g in
      absurd (by w.0 w.1)
    where
      by : (space : Space) → storage ≡ place_in space netlist.storages → ⊥
      by InMemory same = true≢false (sym (eq-eqb storage (memory_id netlist.storages) same) ∙ ne)
      by InFile same = true≢false (sym (eq-eqb storage (place_in InFile netlist.storages) same) ∙ nf)
  into_register p number choice clobbers at plain are storage (write v) e ne nf =
      let k = known number p at in
      let em : p.move ≡ write v = ap (λ (q : Pattern). q.move) e in
      let es : p.storage ≡ storage = ap (λ (q : Pattern). q.storage) e in
      let fits : ExprFits v = subst (λ m. TransferFits m) em k.fits in
      let exprs : IsExprOf netlist v = subst (λ m. IsTransferOf netlist m) em k.exprs in
      let sides : SidesModel = record { addr = None; value = v } in
      let sw : AreSwapped sides (swapped choice sides) = swapped_sides choice sides in
      let like : AreAlike sides (swapped choice sides) = swapped_alike choice sides in
      let same : (swapped choice (sides_of p.move)).value ≡ (swapped choice sides).value = ap (λ m. (swapped choice (sides_of m)).value) em in
      let linear : is_linear 0 v ≡ true = ap (λ m. transfer_linear 0 (counted (is_file_at netlist p.storage) m)) (sym em) ∙ (linear_is 0 (counted (is_file_at netlist p.storage) p.move)).1 plain.linear in
      let told : reads_shown size v ≡ true = ap (λ m. transfer_shown (is_file_at netlist p.storage) size m) (sym em) ∙ plain.cells in
      record {
        value = v;
        is = at ∙ ap (λ (q : Pattern). Some q) e;
        alike = subst (λ x. MeansAlike x v) (sym same) (alike_of v (swapped choice sides).value fits like.value sw.value);
        once = subst (λ x. IsOnce x) (sym same) (sw.value.once (once_of (word_width netlist) 0 v some (words_in netlist v exprs fits) linear));
        shown = subst (λ x. CellsShown size x) (sym same) (swapped_shown size (λ path. picks choice (swap_paths sides) (1 ∷ path)) v (shown_of size v told));
        clobbered = subst (λ r. bit_at clobbers r ≡ 1) es (own_clobber netlist p clobbers are (λ f. true≢false (sym (eq-eqb storage (place_in InFile netlist.storages) (sym es ∙ f)) ∙ nf)));
        below = subst (λ r. r < length netlist.storages) es (storage_within netlist p k.is);
      }

  used_apart : (a b c d : ExprModel) → ((k : ℕ) → uses a k ≡ uses c k) → ((k : ℕ) → uses b k ≡ uses d k) → BitsApart a b → BitsApart c d
  used_apart a b c d ac bd h = λ k u. sym (bd k) ∙ h k (ac k ∙ u)

  memory_sides : (number choice clobbers storage : ℕ) (a v : ExprModel) (form : FormModel) → space_in file storage ≡ InMemory → reads_shown size a ≡ true → reads_shown size v ≡ true → slice_get patterns number ≡ Some (record { storage = storage; move = write_at a v }) → form.pattern ≡ number
      → form.addr ≡ (swapped choice (record { addr = Some a; value = v })).addr → form.value ≡ (swapped choice (record { addr = Some a; value = v })).value
      → ExprFits a → ExprFits v → IsExprOf netlist a → IsExprOf netlist v → transfer_linear 0 (write_at a v) ≡ true → IsIntoMemory file patterns size form
  memory_sides number choice clobbers storage a v form other sa sv at number_is addr_is value_is fa fv ta tv linear =
      go (swapped choice sides) addr_is value_is (swapped_sides choice sides) (swapped_alike choice sides)
    where
      sides : SidesModel
      sides = record { addr = Some a; value = v }

      linear_parts : (are_apart 0 a v ≡ true) × ((is_linear 0 a && is_linear 0 v) ≡ true)
      linear_parts = and_parts _ _ linear

      both : (is_linear 0 a ≡ true) × (is_linear 0 v ≡ true)
      both = and_parts _ _ linear_parts.1

      none : bit_and (fields a) (fields v) ≡ 0
      none = meet_none 0 a v linear_parts.0

      wa : WordsIn (word_width netlist) a
      wa = words_in netlist a ta fa

      wv : WordsIn (word_width netlist) v
      wv = words_in netlist v tv fv

      -- swaps leave what is shown
      la_shown : (b : ExprModel) → form.addr ≡ Some b → CellsShown size b
      la_shown b e =
          let chosen : Path → Bool = λ path. picks choice (swap_paths sides) (0 ∷ path) in
          let same : swap_at chosen a ≡ b = (let q : Some (swap_at chosen a) ≡ Some b = sym addr_is ∙ e in cc) in
          subst (CellsShown size) same (swapped_shown size chosen a (shown_of size a sa))

      lv_shown : (u : ExprModel) → form.value ≡ u → CellsShown size form.value
      lv_shown u e =
          let chosen : Path → Bool = λ path. picks choice (swap_paths sides) (1 ∷ path) in
          subst (CellsShown size) (sym value_is) (swapped_shown size chosen v (shown_of size v sv))

      made : (b u : ExprModel) → form.addr ≡ Some b → form.value ≡ u → IsSwapped a b → IsSwapped v u → AreSame a b → AreSame v u → IsIntoMemory file patterns size form
      made b u eb eu sa sv la lv = record {
        storage = storage;
        addr = a;
        value = v;
        is = ap (λ n. slice_get patterns n) number_is ∙ at;
        other = other;
        at = b;
        has = eb;
        alike_addr = alike_of a b fa la sa;
        alike_value = subst (λ x. MeansAlike x v) (sym eu) (alike_of v u fv lv sv);
        once_addr = sa.once (once_of (word_width netlist) 0 a some wa both.0);
        once_value = subst (λ x. IsOnce x) (sym eu) (sv.once (once_of (word_width netlist) 0 v some wv both.1));
        shown_addr = la_shown b eb;
        shown_value = lv_shown u eu;
        apart = subst (λ x. BitsApart b x) (sym eu) (used_apart a v b u sa.used sv.used (apart_of (word_width netlist) a v some wa wv none));
        apart_back = subst (λ x. BitsApart x b) (sym eu) (used_apart v a u b sv.used sa.used (apart_of (word_width netlist) v a some wv wa (and_comm (fields v) (fields a) ∙ none)));
      }

      by_addr : (o : Option ExprModel) (u : ExprModel) → form.addr ≡ o → form.value ≡ u → AreSwapped sides (record { addr = o; value = u }) → AreAlike sides (record { addr = o; value = u }) → IsIntoMemory file patterns size form
      by_addr None u eo eu h l = absurd h.addr
      by_addr (Some b) u eo eu h l = made b u eo eu h.addr h.value l.addr l.value

      go : (y : SidesModel) → form.addr ≡ y.addr → form.value ≡ y.value → AreSwapped sides y → AreAlike sides y → IsIntoMemory file patterns size form
      go y eo eu h l = by_addr y.addr y.value eo eu h l

  into_cells : (p : Pattern) (number choice clobbers : ℕ) → slice_get patterns number ≡ Some p → IsPlain netlist p → (storage : ℕ) (move : TransferModel) → p ≡ record { storage = storage; move = move }
      → (storage == memory_id netlist.storages) ≡ true → IsIntoMemory file patterns size (plain_form_model netlist number p clobbers choice)
  into_cells p number choice clobbers at plain storage keep e eq =
      absurd ((known number p at).is.changes (ap (λ (q : Pattern). q.move) e))
  into_cells p number choice clobbers at plain storage (write v) e eq =
      let k = known number p at in
      let g : transfer_at netlist k.is.word storage ≡ write v = ap (λ (q : Pattern). transfer_at netlist k.is.word q.storage) (sym e) ∙ k.is.given.gives ∙ ap (λ (q : Pattern). q.move) e in
      let r : IsRegister (slice_get netlist.storages storage) = writes_register netlist k.is.word storage v (slice_get netlist.storages storage) g in
      absurd (memory_no_register netlist.storages (subst (λ n. IsRegister (slice_get netlist.storages n)) (eqb-true storage (memory_id netlist.storages) eq) r))
  into_cells p number choice clobbers at plain storage (write_at a v) e eq =
      let k = known number p at in
      let em : p.move ≡ write_at a v = ap (λ (q : Pattern). q.move) e in
      let es : p.storage ≡ storage = ap (λ (q : Pattern). q.storage) e in
      let same : storage ≡ memory_id netlist.storages = eqb-true storage (memory_id netlist.storages) eq in
      let lt : storage < length netlist.storages = subst (λ r. r < length netlist.storages) es (storage_within netlist p k.is) in
      let nf : is_file_at netlist p.storage ≡ false = ap (is_file_at netlist) es ∙ memory_no_file storage lt same in
      let fits : ExprFits a × ExprFits v = subst (λ m. TransferFits m) em k.fits in
      let exprs : IsExprOf netlist a × IsExprOf netlist v = subst (λ m. IsTransferOf netlist m) em k.exprs in
      let shown : (reads_shown size a ≡ true) × (reads_shown size v ≡ true) =
      and_parts (reads_shown size a) (reads_shown size v) (sym (λ j. transfer_shown (nf j) size (em j)) ∙ plain.cells) in
      memory_sides number choice clobbers storage a v (plain_form_model netlist number p clobbers choice) (own_space netlist.storages storage InMemory lt same) shown.0 shown.1 (at ∙ ap (λ (q : Pattern). Some q) e) refl
      (ap (λ m. (swapped choice (sides_of m)).addr) em) (ap (λ m. (swapped choice (sides_of m)).value) em) fits.0 fits.1 exprs.0 exprs.1
      (sym (λ j. transfer_linear 0 (counted (nf j) (em j))) ∙ (linear_is 0 (counted (is_file_at netlist p.storage) p.move)).1 plain.linear)

  -- ---- a form that writes the file

  -- with the tied read, or with an address apart from the value
  ties : (a v b u : ExprModel) → IsSwapped a b → IsSwapped v u → reads_at b u ≡ reads_at a v → IsExprOf netlist a → IsExprOf netlist v → ExprFits a → ExprFits v
      → transfer_linear 0 (counted true (write_at a v)) ≡ true → (IsOnce u) × IsTied (tied_place b u) b u
  ties a v b u sa sv same ta tv fa fv linear = by (reads_at a v) refl linear
    where
      wa : WordsIn (word_width netlist) a
      wa = words_in netlist a ta fa

      wv : WordsIn (word_width netlist) v
      wv = words_in netlist v tv fv

      -- where it is read at the address, there is a place
      placed : (o : Option ℕ) → tied_place b u ≡ o → is_some o ≡ true → IsTied o b u
      placed (Some k) e h = tied_home b u k e
      placed None e h = absurd (true≢false (sym h))

      apart : (o : Option ℕ) → is_some o ≡ false → BitsApart b u × BitsApart u b → IsTied o b u
      apart None h k = k
      apart (Some place) h k = absurd (true≢false h)

      by : (t : Bool) → reads_at a v ≡ t → transfer_linear 0 (if true && t then write v else write_at a v) ≡ true → (IsOnce u) × IsTied (tied_place b u) b u
      by true e l = (sv.once (once_of (word_width netlist) 0 v some wv l), placed (tied_place b u) refl (same ∙ e))
      by false e l =
          let p = and_parts (are_apart 0 a v) (is_linear 0 a && is_linear 0 v) l in
          let q = and_parts (is_linear 0 a) (is_linear 0 v) p.1 in
          let none : bit_and (fields a) (fields v) ≡ 0 = meet_none 0 a v p.0 in (
            sv.once (once_of (word_width netlist) 0 v some wv q.1),
            apart (tied_place b u) (same ∙ e) (
              used_apart a v b u sa.used sv.used (apart_of (word_width netlist) a v some wa wv none),
              used_apart v a u b sv.used sa.used (apart_of (word_width netlist) v a some wv wa (and_comm (fields v) (fields a) ∙ none)),
            ),
          )

  into_the_file : (p : Pattern) (number choice clobbers : ℕ) → slice_get patterns number ≡ Some p → IsPlain netlist p → (storage : ℕ) (move : TransferModel) → p ≡ record { storage = storage; move = move }
      → is_file_at netlist storage ≡ true → IsIntoFile file patterns size (plain_form_model netlist number p clobbers choice)
  into_the_file p number choice clobbers at plain storage keep e eq =
      absurd ((known number p at).is.changes (ap (λ (q : Pattern). q.move) e))
  into_the_file p number choice clobbers at plain storage (write v) e eq =
      let k = known number p at in
      let g : transfer_at netlist k.is.word storage ≡ write v = ap (λ (q : Pattern). transfer_at netlist k.is.word q.storage) (sym e) ∙ k.is.given.gives ∙ ap (λ (q : Pattern). q.move) e in
      let r : IsRegister (slice_get netlist.storages storage) = writes_register netlist k.is.word storage v (slice_get netlist.storages storage) g in
      absurd (array_no_register InFile netlist.storages (subst (λ n. IsRegister (slice_get netlist.storages n)) (eqb-true storage (place_in InFile netlist.storages) eq) r))
  into_the_file p number choice clobbers at plain storage (write_at a v) e eq =
      let k = known number p at in
      let em : p.move ≡ write_at a v = ap (λ (q : Pattern). q.move) e in
      let es : p.storage ≡ storage = ap (λ (q : Pattern). q.storage) e in
      let yes : is_file_at netlist p.storage ≡ true = ap (is_file_at netlist) es ∙ eq in
      let lt : storage < length netlist.storages = subst (λ r. r < length netlist.storages) es (storage_within netlist p k.is) in
      let fits : ExprFits a × ExprFits v = subst (λ m. TransferFits m) em k.fits in
      let exprs : IsExprOf netlist a × IsExprOf netlist v = subst (λ m. IsTransferOf netlist m) em k.exprs in
      let shown : (shows_cells size a ≡ true) × (reads_shown size v ≡ true) = and_parts (shows_cells size a) (reads_shown size v) (sym (λ j. transfer_shown (yes j) size (em j)) ∙ plain.cells) in
      let shape : (is_shape a ≡ true) × (shows_below a size ≡ true) = and_parts (is_shape a) (shows_below a size) shown.0 in
      let sides : SidesModel = record { addr = Some a; value = v } in
      let first : Path → Bool = λ path. picks choice (swap_paths sides) (0 ∷ path) in
      let second : Path → Bool = λ path. picks choice (swap_paths sides) (1 ∷ path) in
      let sw : AreSwapped sides (swapped choice sides) = swapped_sides choice sides in
      let like : AreAlike sides (swapped choice sides) = swapped_alike choice sides in
      let stays : swap_at first a ≡ a = shape_same first a shape.0 in
      let cells : CellsShown size v = shown_of size v shown.1 in
      let linear : transfer_linear 0 (counted true (write_at a v)) ≡ true = sym (λ j. transfer_linear 0 (counted (yes j) (em j))) ∙ (linear_is 0 (counted (is_file_at netlist p.storage) p.move)).1 plain.linear in
      let both = ties a v (swap_at first a) (swap_at second v) sw.addr sw.value (ap (λ x. reads_at x (swap_at second v)) stays ∙ swapped_reads size a second v cells) exprs.0 exprs.1 fits.0 fits.1 linear in
      let made : (swapped choice (sides_of p.move)) ≡ swapped choice sides = ap (λ m. swapped choice (sides_of m)) em in
      record {
        storage = storage;
        addr = a;
        value = v;
        is = at ∙ ap (λ (q : Pattern). Some q) e;
        own = own_space netlist.storages storage InFile lt (eqb-true storage (place_in InFile netlist.storages) eq);
        at = swap_at first a;
        has = ap (λ (x : SidesModel). x.addr) made;
        alike_addr = alike_of a (swap_at first a) fits.0 like.addr sw.addr;
        alike_value = subst (λ x. MeansAlike x v) (sym (ap (λ (x : SidesModel). x.value) made)) (alike_of v (swap_at second v) fits.1 like.value sw.value);
        shape = ap is_shape stays ∙ shape.0;
        shown_addr = ap (λ x. shows_below x size) stays ∙ shape.1;
        once_value = subst (λ x. IsOnce x) (sym (ap (λ (x : SidesModel). x.value) made)) both.0;
        shown_value = subst (λ x. CellsShown size x) (sym (ap (λ (x : SidesModel). x.value) made)) (swapped_shown size second v cells);
        tied = subst (λ (t : Bool). IsTied (tied_of t (swapped choice (sides_of p.move))) (swap_at first a) (swapped choice (sides_of p.move)).value) (sym yes)
            (subst (λ (x : SidesModel). IsTied (tied_of true x) (swap_at first a) x.value) (sym made) both.1);
      }

  pub plain_formed : (p : Pattern) (number choice clobbers : ℕ) → slice_get patterns number ≡ Some p → IsPlain netlist p → AreClobbers netlist p clobbers
      → IsFormed file patterns (length netlist.storages) size (plain_form_model netlist number p clobbers choice) (goal_at netlist p.storage)
  plain_formed p number choice clobbers at plain are = go (p.storage == memory_id netlist.storages) (is_file_at netlist p.storage) refl refl
    where
      go : (b c : Bool) → (p.storage == memory_id netlist.storages) ≡ b → is_file_at netlist p.storage ≡ c
          → IsFormed file patterns (length netlist.storages) size (plain_form_model netlist number p clobbers choice) (if b then into_memory else if c then into_file else into_reg p.storage)
      go true c e f = into_cells p number choice clobbers at plain p.storage p.move refl e
      go false true e f = into_the_file p number choice clobbers at plain p.storage p.move refl f
      go false false e f = into_register p number choice clobbers at plain are p.storage p.move refl e f
