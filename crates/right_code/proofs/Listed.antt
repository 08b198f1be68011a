-- The forms of a netlist are as the steps of covers want them.
use Rattle.std.proofs.Common.{◌≡◌, ℕ, ◌+◌, ◌<◌, ◌==◌, ◌⊎◌, inl, inr, true, List, Option, Some, None, length, slice_get, refl, sym, ◌∙◌, ap, subst, arith}
use Rattle.std.proofs.lemmas.Bool.{eq-eqb}
use Rattle.std.proofs.lemmas.Nat.{and_le_l}
use Rattle.mode_set.proofs.Putting.{register_goal}
use Rattle.net_model.specs.declared.hardware.Space.TheVariants.{Memory as InMemory, File as InFile}
use Rattle.net_model.specs.declared.hardware.Netlist.{Netlist}
use Rattle.net_model.specs.CheckedRules.{KeepsRules}
use Rattle.net_model.specs.Fields.{transfer_fields}
use Rattle.net_model.specs.Nets.{counter_of, counter_width, file_place, memory_id, memory_width, size_in, word_width}
use Rattle.net_model.specs.Patterns.{Pattern}
use Rattle.net_model.specs.Exprs.{ExprModel, word, reg, const, read, un, bin, slice, cat, zext, sext, select, TransferModel, keep, write, write_at, next_of, swapped_next_of}
use Rattle.net_model.specs.Transfers.{transfer_at}
use Rattle.transfer_set.specs.TextMarks.{IsTransferOf, IsExprOf}
use Rattle.form_model.specs.Forms.{FormModel, into_reg, jumps, branches}
use Rattle.form_model.specs.Effects.{register, expr_reads}
use Rattle.form_set.specs.Listing.{AreFormModels, sides_of}
use Rattle.form_set.specs.Promises.{IsForm, IsFormOf, of_branch, of_jump, of_plain}
use Rattle.form_set.specs.Static.{is_file_at}
use Rattle.operand_swaps.specs.Swaps.{SidesModel, swapped}
use Rattle.form_set.proofs.FormLaws.{form_at}
use Rattle.form_set.proofs.NoForms.{plain_not_branch}
use Rattle.form_set.proofs.OneList.{clobbers_one}
use Rattle.form_set.proofs.RuleLists.{plain_not_jump}
use Rattle.emit_seq.specs.ReadWords.{AddressReadsWords, AllReadWords, ReadsWords}
use Rattle.emit_seq.specs.Formed.{AreFormed, IsFormed}
use Rattle.emit_seq.specs.Spares.{AreShared, ReadsCounter}
use Rattle.right_code.specs.Inner.Known.{AreKnown}
use Rattle.right_code.proofs.Plain.{plain_formed}
use Rattle.right_code.proofs.Swapping.{AddrSwapped, AreSwapped, swapped_sides}
use Rattle.right_code.proofs.Turning.{test_once, test_shown, test_swapped, test_exprs}

module _ (netlist : Netlist) (order : List ℕ) (keeps : KeepsRules netlist order) (some : 0 < word_width netlist) (patterns : List Pattern) (known : AreKnown netlist patterns) where
  zero_plus : (n : ℕ) → 0 + n ≡ n
  zero_plus n = omega arith

  of_formed : (reach number : ℕ) (p : Pattern) (form : FormModel) → slice_get patterns number ≡ Some p → IsFormOf netlist reach number p form → IsFormed (file_place netlist.storages) patterns (length netlist.storages) (size_in InFile netlist.storages) form form.goal
  of_formed reach number p form at (of_plain choice clobbers plain are e) =
      subst (λ (r : FormModel). IsFormed (file_place netlist.storages) patterns (length netlist.storages) (size_in InFile netlist.storages) r r.goal) (sym e) (plain_formed netlist order keeps some patterns known p number choice clobbers at plain are)
  of_formed reach number p form at (of_jump h e) =
      subst (λ (r : FormModel). IsFormed (file_place netlist.storages) patterns (length netlist.storages) (size_in InFile netlist.storages) r r.goal) (sym e) tt
  of_formed reach number p form at (of_branch choice parts b e) =
      subst (λ (r : FormModel). IsFormed (file_place netlist.storages) patterns (length netlist.storages) (size_in InFile netlist.storages) r r.goal) (sym e)
      (test_once netlist some patterns known reach number p at parts b choice, test_shown netlist some patterns known reach number p at parts b choice)

  module _ (reach : ℕ) (forms : List FormModel) (list : AreFormModels netlist reach 0 patterns forms) where
    -- a form of the list, with the number of its pattern
    pub record Placed (form : FormModel) : Type 0 where
      pub number : ℕ
      pub pattern : Pattern
      pub at : slice_get patterns number ≡ Some pattern
      pub of : IsFormOf netlist reach number pattern form

    pub placed : (k : ℕ) (form : FormModel) → slice_get forms k ≡ Some form → Placed form
    placed k form h =
        let f : IsForm netlist reach 0 patterns form = form_at netlist reach 0 patterns forms list k form h in
        record { number = f.place; pattern = f.pattern; at = f.at; of = subst (λ n. IsFormOf netlist reach n f.pattern form) (zero_plus f.place) f.of }

    pub are_formed : AreFormed (file_place netlist.storages) patterns (length netlist.storages) (size_in InFile netlist.storages) forms
    are_formed k form h = let f = placed k form h in of_formed reach f.number f.pattern form f.at f.of

    number_is : (number : ℕ) (p : Pattern) (form : FormModel) → IsFormOf netlist reach number p form → form.pattern ≡ number
    number_is number p form (of_plain choice clobbers plain are e) = ap (λ (r : FormModel). r.pattern) e
    number_is number p form (of_jump h e) = ap (λ (r : FormModel). r.pattern) e
    number_is number p form (of_branch choice parts b e) = ap (λ (r : FormModel). r.pattern) e

    -- ---- forms of one pattern have the same clobbers

    one_pattern : (a b : FormModel) (number : ℕ) (p : Pattern) → IsFormOf netlist reach number p a → IsFormOf netlist reach number p b → a.clobbers ≡ b.clobbers
    one_pattern a b number p (of_plain i x plain are e) (of_plain j y plain' are' f) = ap (λ (r : FormModel). r.clobbers) e ∙ clobbers_one netlist p x y are are' ∙ sym (ap (λ (r : FormModel). r.clobbers) f)
    one_pattern a b number p (of_plain i x plain are e) (of_jump h f) = absurd (plain_not_jump netlist p plain h)
    one_pattern a b number p (of_plain i x plain are e) (of_branch j parts h f) = absurd (plain_not_branch netlist reach p parts plain h)
    one_pattern a b number p (of_jump h e) (of_plain j y plain are f) = absurd (plain_not_jump netlist p plain h)
    one_pattern a b number p (of_jump h e) (of_jump h' f) = ap (λ (r : FormModel). r.clobbers) e ∙ sym (ap (λ (r : FormModel). r.clobbers) f)
    one_pattern a b number p (of_jump h e) (of_branch j parts h' f) = ap (λ (r : FormModel). r.clobbers) e ∙ sym (ap (λ (r : FormModel). r.clobbers) f)
    one_pattern a b number p (of_branch i parts h e) (of_plain j y plain are f) = absurd (plain_not_branch netlist reach p parts plain h)
    one_pattern a b number p (of_branch i parts h e) (of_jump h' f) = ap (λ (r : FormModel). r.clobbers) e ∙ sym (ap (λ (r : FormModel). r.clobbers) f)
    one_pattern a b number p (of_branch i parts h e) (of_branch j parts' h' f) = ap (λ (r : FormModel). r.clobbers) e ∙ sym (ap (λ (r : FormModel). r.clobbers) f)

    same_pattern : (m n : ℕ) (p q : Pattern) → slice_get patterns m ≡ Some p → slice_get patterns n ≡ Some q → m ≡ n → p ≡ q
    same_pattern m n p q e f h = let g : Some p ≡ Some q = sym e ∙ ap (λ k. slice_get patterns k) h ∙ f in cc

    pub are_shared : AreShared forms
    are_shared j k a b ha hb e =
        let f = placed j a ha in
        let g = placed k b hb in
        let n : f.number ≡ g.number = sym (number_is f.number f.pattern a f.of) ∙ e ∙ number_is g.number g.pattern b g.of in
        let p : g.pattern ≡ f.pattern = same_pattern g.number f.number g.pattern f.pattern g.at f.at (sym n) in
        one_pattern a b f.number f.pattern f.of (subst (λ q. IsFormOf netlist reach f.number q b) p (subst (λ m. IsFormOf netlist reach m g.pattern b) (sym n) g.of))

    -- ---- a form of the program counter is its step

    next_read : (pc w : ℕ) → expr_reads 0 (next_of pc w) (register pc) ≡ true
    next_read pc w = rw (eq-eqb pc pc refl) refl

    swapped_read : (pc w : ℕ) → expr_reads 0 (swapped_next_of pc w) (register pc) ≡ true
    swapped_read pc w = eq-eqb pc pc refl

    value_read : (choice : ℕ) (m : TransferModel) (n : ExprModel) (pc : ℕ) → m ≡ write n → expr_reads 0 n (register pc) ≡ true → expr_reads 0 (swapped choice (sides_of m)).value (register pc) ≡ true
    value_read choice m n pc e h =
        let sw : AreSwapped (record { addr = None; value = n }) (swapped choice (record { addr = None; value = n })) = swapped_sides choice (record { addr = None; value = n }) in
        ap (λ x. expr_reads 0 (swapped choice (sides_of x)).value (register pc)) e ∙ sym (sw.value.reads 0 pc) ∙ h

    counter_read : (number : ℕ) (p : Pattern) (form : FormModel) → IsFormOf netlist reach number p form → form.goal ≡ into_reg (counter_of netlist.codes) → expr_reads 0 form.value (register (counter_of netlist.codes)) ≡ true
    counter_read number p form (of_jump h e) g = let x : jumps _ ≡ into_reg (counter_of netlist.codes) = sym (ap (λ (r : FormModel). r.goal) e) ∙ g in absurd (cc)
    counter_read number p form (of_branch choice parts h e) g = let x : branches _ _ ≡ into_reg (counter_of netlist.codes) = sym (ap (λ (r : FormModel). r.goal) e) ∙ g in absurd (cc)
    counter_read number p form (of_plain choice clobbers plain are e) g =
        let pc : ℕ = counter_of netlist.codes in
        let s : p.storage ≡ pc = register_goal p.storage pc (p.storage == memory_id netlist.storages) (is_file_at netlist p.storage) (sym (ap (λ (r : FormModel). r.goal) e) ∙ g) in
        let w = plain.ok 0 (let le = and_le_l 0 (transfer_fields p.move) in omega (arith, le)) in
        let to : transfer_at netlist w.0 pc ≡ p.move = sym (ap (λ n. transfer_at netlist w.0 n) s) ∙ w.2.given.gives in
        ap (λ (r : FormModel). expr_reads 0 r.value (register pc)) e ∙ by w.0 to w.2.steps.step
      where
        by : (i : ℕ) → transfer_at netlist i (counter_of netlist.codes) ≡ p.move
            → (transfer_at netlist i (counter_of netlist.codes) ≡ write (next_of (counter_of netlist.codes) (counter_width netlist))) ⊎ (transfer_at netlist i (counter_of netlist.codes) ≡ write (swapped_next_of (counter_of netlist.codes) (counter_width netlist)))
            → expr_reads 0 (swapped choice (sides_of p.move)).value (register (counter_of netlist.codes)) ≡ true
        by i to (inl h) = value_read choice p.move _ (counter_of netlist.codes) (sym to ∙ h) (next_read (counter_of netlist.codes) (counter_width netlist))
        by i to (inr h) = value_read choice p.move _ (counter_of netlist.codes) (sym to ∙ h) (swapped_read (counter_of netlist.codes) (counter_width netlist))

    pub is_counter : ReadsCounter forms (counter_of netlist.codes)
    is_counter k form h g = let f = placed k form h in (0, counter_read f.number f.pattern form f.of g)

    -- ---- reads are of words of the data memory

    reads_words : (t : ExprModel) → IsExprOf netlist t → ReadsWords (memory_width netlist.storages) t
    reads_words (word w) h = tt
    reads_words (reg r w) h = tt
    reads_words (const w v) h = tt
    reads_words (read InMemory a w) h = (h.1, reads_words a h.0)
    reads_words (read InFile a w) h = reads_words a h.0
    reads_words (un o a) h = reads_words a h
    reads_words (bin o a b) h = (reads_words a h.0, reads_words b h.1)
    reads_words (slice a hi lo) h = reads_words a h.0
    reads_words (cat a b) h = (reads_words a h.0, reads_words b h.1)
    reads_words (zext a w) h = reads_words a h.0
    reads_words (sext a w) h = reads_words a h.0
    reads_words (select c a b) h = (reads_words c h.0, reads_words a h.1, reads_words b h.2)

    abbrev Reads : SidesModel → Type 0
    Reads x = AddressReadsWords (memory_width netlist.storages) x.addr × ReadsWords (memory_width netlist.storages) x.value

    sides_read : (x y : SidesModel) → AreSwapped x y → Reads x → Reads y
    sides_read x y s h = (by x.addr y.addr s.addr h.0, s.value.words (memory_width netlist.storages) h.1)
      where
        by : (a b : Option ExprModel) → AddrSwapped a b → AddressReadsWords (memory_width netlist.storages) a → AddressReadsWords (memory_width netlist.storages) b
        by None None s h = tt
        by None (Some b) s h = absurd s
        by (Some a) None s h = absurd s
        by (Some a) (Some b) s h = s.words (memory_width netlist.storages) h

    transfer_reads : (m : TransferModel) → IsTransferOf netlist m → Reads (sides_of m)
    transfer_reads keep h = (tt, tt)
    transfer_reads (write e) h = (tt, reads_words e h)
    transfer_reads (write_at a e) h = (reads_words a h.0, reads_words e h.1)

    of_reads : (number : ℕ) (p : Pattern) (form : FormModel) → slice_get patterns number ≡ Some p → IsFormOf netlist reach number p form → Reads (record { addr = form.addr; value = form.value })
    of_reads number p form at (of_plain choice clobbers plain are e) =
        subst (λ (r : FormModel). Reads (record { addr = r.addr; value = r.value })) (sym e)
        (sides_read (sides_of p.move) (swapped choice (sides_of p.move)) (swapped_sides choice (sides_of p.move)) (transfer_reads p.move (known number p at).exprs))
    of_reads number p form at (of_jump h e) =
        subst (λ (r : FormModel). Reads (record { addr = r.addr; value = r.value })) (sym e) (tt, (transfer_reads (write h.target) (subst (IsTransferOf netlist) h.move (known number p at).exprs)).1)
    of_reads number p form at (of_branch choice parts b e) =
        subst (λ (r : FormModel). Reads (record { addr = r.addr; value = r.value })) (sym e)
        (tt, (test_swapped netlist some patterns known reach number p at parts b choice).words (memory_width netlist.storages) (reads_words parts.test (test_exprs netlist some patterns known reach number p at parts b)))

    pub all_read : AllReadWords (memory_width netlist.storages) forms
    all_read k form h = let f = placed k form h in of_reads f.number f.pattern form f.at f.of
