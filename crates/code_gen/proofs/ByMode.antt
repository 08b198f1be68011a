-- The forms of modes, the modes that can be used and the words between them, one mode after the other.
use Rattle.std.proofs.Common.{◌≡◌, ◌<◌, ◌≤◌, ◌+◌, ◌↔◌, ℕ, zero, suc, Bool, true, List, [], ◌∷◌, ◌++◌, length, map, option_map, Option, Some, None, get_or, take, refl, sym, ◌∙◌, ap, subst, slice_get, slice_set, inl, inr, arith, length-append}
use Rattle.std.specs.Bool.{IsTrue}
use Rattle.std.specs.List.{AllByRecursion}
use Rattle.std.proofs.lemmas.Bool.{cases_lt, lt-ltb}
use Rattle.std.proofs.lemmas.List.{length-map}
use Rattle.std.proofs.lemmas.Option.{slice_get-map, slice_get_read, slice_get_within}
use Rattle.rec_bits.proofs.Lists.{get_left, get_seam, pushed_at, there, take_get, all_by_place}
use Rattle.rec_bits.proofs.Options.{same_Some}
use Rattle.bit_bdd.specs.Diagrams.{Diagrams}
use Rattle.net_model.specs.declared.hardware.Netlist.{Netlist}
use Rattle.net_model.specs.declared.hardware.Space.TheVariants.{File as InFile}
use Rattle.net_model.specs.CheckedRules.{Ordered}
use Rattle.net_model.specs.Fixed.{in_mode}
use Rattle.net_model.specs.ModeRules.{AreModesOfNetlist, KeepsInOrder, KeepsModes, base_at, modes_in}
use Rattle.net_model.specs.Nets.{IsRegister, size_in}
use Rattle.net_model.specs.Patterns.{ArePatterns, Pattern}
use Rattle.net_model.proofs.Bases.{base_of}
use Rattle.net_model.proofs.Fixes.{length_bases}
use Rattle.net_model.proofs.ModeFaults.{alone_modes, base_is}
use Rattle.net_model.proofs.Storages.{register_within}
use Rattle.sym_expr.specs.declared.pool.Node.{Node}
use Rattle.transfer_set.specs.Machines.{IsReadyFor}
use Rattle.transfer_set.specs.Ready.{IsReady}
use Rattle.transfer_set.specs.declared.row.Row.{Row}
use Rattle.transfer_set.specs.Rows.{row_pattern, row_patterns}
use Rattle.compaction.specs.Tables.{AreTables}
use Rattle.isa_extract.specs.Extraction.{AreIsas}
use Rattle.isa_extract.specs.declared.netlists.Isa.{Isa as Extracted}
use Rattle.form_model.specs.declared.forms.Forms.{Forms}
use Rattle.form_model.specs.declared.forms.Form.{Form}
use Rattle.form_model.specs.Forms.{FormModel, model_of_form, models_of_forms}
use Rattle.form_set.specs.Listing.{AreForms, greatest_reach}
use Rattle.form_set.specs.Promises.{IsForm, IsFormOf, of_branch, of_jump, of_plain}
use Rattle.form_set.proofs.FormLaws.{form_at}
use Rattle.mode_set.specs.declared.puts.ModeWord.{ModeWord}
use Rattle.mode_set.specs.Keeping.{AreKeeping, CanPut, CanUse, IsModeRegister}
use Rattle.mode_set.specs.ModeWords.{IsLeastModeWord, IsModeWord}
use Rattle.mode_set.specs.Plans.{UsableAt}
use Rattle.mode_set.proofs.Putting.{put_word}
use Rattle.code_gen.specs.declared.modes.FormsByMode.{FormsByMode}
use Rattle.compaction.specs.declared.machine.KnownMachine.{KnownMachine}
use Rattle.code_gen.specs.declared.views.Operations.{Operations}
use Rattle.code_gen.specs.declared.views.Passage.{Passage}
use Rattle.code_gen.specs.Machines.{known_netlist, known_patterns}
use Rattle.code_gen.specs.Inner.Planning.{AreFormsBelow, AreFormsIn, AreMachinesOf, AreOperations, AreOperationsOf, ArePassages, AreReadyAll, AreViews, IsPassageIn, IsPassageOrNone, IsReadyMode, IsView, all_forms, all_form_models, listed_form_models, forms_or_none}
use Rattle.code_gen.proofs.FormLemmas.{all_kept}
use Rattle.code_gen.proofs.Held.{can_within}
use Rattle.code_gen.proofs.ModeRegs.{base_register, mode_register}

-- ---- what is extracted in each mode

-- a machine that views it is ready in its book
ready_one : (base : Ordered) (isa : Extracted) (operations : Operations) (machine : KnownMachine) → IsReady base.netlist isa.book isa.pool isa.patterns → AreOperationsOf isa operations → IsView base operations machine → IsReadyMode machine isa.book
ready_one base isa operations machine ready told view = record {
  ready =
      subst (λ (b : Ordered). IsReady b.netlist isa.book machine.machine.pool.now machine.machine.patterns.now) (sym view.checked)
      (subst (λ pool. IsReady base.netlist isa.book pool machine.machine.patterns.now) (sym (view.pool ∙ told.pool))
      (subst (λ table. IsReady base.netlist isa.book isa.pool table) (sym (view.patterns ∙ told.patterns)) ready));
  reads =
      subst (λ pool. AreTables pool machine.registers.now machine.memory.now) (sym (view.pool ∙ told.pool))
      (subst (λ registers. AreTables isa.pool registers machine.memory.now) (sym view.registers)
      (subst (λ memory. AreTables isa.pool operations.tables.registers memory) (sym view.memory) told.tables));
}

pub views_ready : (bases : List Ordered) (isas : List Extracted) (rest : List Operations) (machines : List KnownMachine) → AreIsas bases isas → AreOperations isas rest → AreViews bases rest machines → AreReadyAll machines (map (λ (isa : Extracted). isa.book) isas)
views_ready [] [] [] [] h o v = tt
views_ready [] [] [] (machine ∷ machines) h o v = absurd v
views_ready [] [] (operations ∷ rest) machines h o v = absurd o
views_ready [] (isa ∷ isas) rest machines h o v = absurd h
views_ready (base ∷ bases) [] rest machines h o v = absurd h
views_ready (base ∷ bases) (isa ∷ isas) [] machines h o v = absurd o
views_ready (base ∷ bases) (isa ∷ isas) (operations ∷ rest) [] h o v = absurd v
views_ready (base ∷ bases) (isa ∷ isas) (operations ∷ rest) (machine ∷ machines) h o v =
    (ready_one base isa operations machine h.0.extracted.ready o.0 v.0, views_ready bases isas rest machines h.1 o.1 v.1)

-- one mode more
views_more : (bases : List Ordered) (rest : List Operations) (machines : List KnownMachine) (base : Ordered) (operations : Operations) (machine : KnownMachine) → AreViews bases rest machines → IsView base operations machine
    → AreViews (bases ++ base ∷ []) (rest ++ operations ∷ []) (machines ++ machine ∷ [])
views_more [] [] [] base operations machine v is = (is, tt)
views_more [] [] (m ∷ machines) base operations machine v is = absurd v
views_more [] (r ∷ rest) machines base operations machine v is = absurd v
views_more (b ∷ bases) [] machines base operations machine v is = absurd v
views_more (b ∷ bases) (r ∷ rest) [] base operations machine v is = absurd v
views_more (b ∷ bases) (r ∷ rest) (m ∷ machines) base operations machine v is = (v.0, views_more bases rest machines base operations machine v.1 is)

pub views_next : (bases : List Ordered) (rest : List Operations) (machines new : List KnownMachine) (n : ℕ) (base : Ordered) (operations : Operations) (machine : KnownMachine) → n < length bases → n < length rest
    → base ≡ get_or bases n base → operations ≡ get_or rest n operations → AreViews (take n bases) (take n rest) machines → IsView base operations machine → new ≡ machines ++ machine ∷ []
    → AreViews (take (n + 1) bases) (take (n + 1) rest) new
views_next bases rest machines new n base operations machine lt less e f v is pushed =
    subst (λ (bs : List Ordered). AreViews bs (take (n + 1) rest) new) (sym (take_get bases n base (slice_get_read bases (length bases) n base refl lt e)))
    (subst (λ (rs : List Operations). AreViews (take n bases ++ base ∷ []) rs new) (sym (take_get rest n operations (slice_get_read rest (length rest) n operations refl less f)))
    (subst (AreViews (take n bases ++ base ∷ []) (take n rest ++ operations ∷ [])) (sym pushed) (views_more (take n bases) (take n rest) machines base operations machine v is)))

-- as many machines as modes
views_long : (bases : List Ordered) (rest : List Operations) (machines : List KnownMachine) → AreViews bases rest machines → length machines ≡ length bases
views_long [] [] [] v = refl
views_long [] [] (machine ∷ machines) v = absurd v
views_long [] (r ∷ rest) machines v = absurd v
views_long (base ∷ bases) [] machines v = absurd v
views_long (base ∷ bases) (r ∷ rest) [] v = absurd v
views_long (base ∷ bases) (r ∷ rest) (machine ∷ machines) v = ap suc (views_long bases rest machines v.1)

-- each is of the netlist that was checked there, with all its patterns
record IsViewed (bases : List Ordered) (v : ℕ) (machine : KnownMachine) : Type 0 where
  base : Ordered
  at : slice_get bases v ≡ Some base
  checked : machine.machine.checked.now ≡ base
  patterns : ArePatterns base.netlist (known_patterns machine)

views_at : (bases : List Ordered) (isas : List Extracted) (rest : List Operations) (machines : List KnownMachine) → AreIsas bases isas → AreOperations isas rest → AreViews bases rest machines → (v : ℕ) (machine : KnownMachine) → slice_get machines v ≡ Some machine → IsViewed bases v machine
views_at [] [] [] [] h o w v machine e = absurd (cc e)
views_at [] [] [] (m ∷ machines) h o w v machine e = absurd w
views_at [] [] (operations ∷ rest) machines h o w v machine e = absurd o
views_at [] (isa ∷ isas) rest machines h o w v machine e = absurd h
views_at (base ∷ bases) [] rest machines h o w v machine e = absurd h
views_at (base ∷ bases) (isa ∷ isas) [] machines h o w v machine e = absurd o
views_at (base ∷ bases) (isa ∷ isas) (operations ∷ rest) [] h o w v machine e = absurd w
views_at (base ∷ bases) (isa ∷ isas) (operations ∷ rest) (m ∷ machines) h o w zero machine e =
    let same : m ≡ machine = same_Some m machine e in
    subst (IsViewed (base ∷ bases) 0) same
    (record {
      base = base;
      at = refl;
      checked = w.0.checked;
      patterns = subst (ArePatterns base.netlist) (λ j. row_patterns ((sym o.0.pool ∙ sym w.0.pool) j) ((sym o.0.patterns ∙ sym w.0.patterns) j).rows) h.0.patterns;
    })
views_at (base ∷ bases) (isa ∷ isas) (operations ∷ rest) (m ∷ machines) h o w (suc v) machine e =
    let later = views_at bases isas rest machines h.1 o.1 w.1 v machine e in
    record { base = later.base; at = later.at; checked = later.checked; patterns = later.patterns }

pub views_machines : (netlist : Netlist) (bases : List Ordered) (isas : List Extracted) (rest : List Operations) (machines : List KnownMachine) → AreModesOfNetlist netlist bases → AreIsas bases isas → AreOperations isas rest → AreViews bases rest machines → AreMachinesOf machines netlist
views_machines netlist bases isas rest machines modes h o w = record {
  long = views_long bases rest machines w ∙ sym (length-map bases (λ (base : Ordered). base.netlist)) ∙ ap (λ (list : List Netlist). length list) modes.are ∙ length_bases netlist (modes_in netlist);
  nets = λ v machine at.
      (let x : IsViewed bases v machine = views_at bases isas rest machines h o w v machine at in
      ap (λ (b : Ordered). b.netlist) x.checked ∙ base_is netlist bases modes v x.base x.at);
  patterns = λ v machine at.
      (let x : IsViewed bases v machine = views_at bases isas rest machines h o w v machine at in
      subst (λ (n : Netlist). ArePatterns n (known_patterns machine)) (base_is netlist bases modes v x.base x.at) x.patterns);
}

-- the book of a mode
pub ready_at : (machines : List KnownMachine) (books : List Diagrams) (v : ℕ) (machine : KnownMachine) (book : Diagrams) → AreReadyAll machines books → slice_get machines v ≡ Some machine → slice_get books v ≡ Some book
    → IsReadyMode machine book
ready_at [] [] v machine book h e f = absurd (cc e)
ready_at [] (b ∷ books) v machine book h e f = absurd h
ready_at (m ∷ machines) [] v machine book h e f = absurd h
ready_at (m ∷ machines) (b ∷ books) zero machine book h e f =
    subst (λ (x : KnownMachine). IsReadyMode x book) (same_Some m machine e) (subst (λ (x : Diagrams). IsReadyMode m x) (same_Some b book f) h.0)
ready_at (m ∷ machines) (b ∷ books) (suc v) machine book h e f = ready_at machines books v machine book h.1 e f

-- each machine has one
pub books_long : (machines : List KnownMachine) (books : List Diagrams) → AreReadyAll machines books → length books ≡ length machines
books_long [] [] h = refl
books_long [] (b ∷ books) h = absurd h
books_long (m ∷ machines) [] h = absurd h
books_long (m ∷ machines) (b ∷ books) h = ap suc (books_long machines books h.1)

-- where that of one mode grew, all are ready
pub ready_set : (machines : List KnownMachine) (books : List Diagrams) (v : ℕ) (machine : KnownMachine) (book : Diagrams) → AreReadyAll machines books → slice_get machines v ≡ Some machine
    → IsReadyFor machine.machine book → AreReadyAll machines (slice_set books v book)
ready_set [] [] v machine book h e r = absurd (cc e)
ready_set [] (b ∷ books) v machine book h e r = absurd h
ready_set (m ∷ machines) [] v machine book h e r = absurd h
ready_set (m ∷ machines) (b ∷ books) zero machine book h e r =
    let one : m ≡ machine = same_Some m machine e in
    (record { ready = subst (λ (x : KnownMachine). IsReadyFor x.machine book) (sym one) r; reads = h.0.reads }, h.1)
ready_set (m ∷ machines) (b ∷ books) (suc v) machine book h e r = (h.0, ready_set machines books v machine book h.1 e r)

-- ---- patterns of forms

module _ (netlist : Netlist) (pool : List Node) (rows : List Row) (reach : ℕ) where
  number_is : (number : ℕ) (pattern : Pattern) (form : FormModel) → IsFormOf netlist reach number pattern form → form.pattern ≡ number
  number_is number pattern form (of_plain choice clobbers plain are e) = ap (λ (r : FormModel). r.pattern) e
  number_is number pattern form (of_jump h e) = ap (λ (r : FormModel). r.pattern) e
  number_is number pattern form (of_branch choice parts b e) = ap (λ (r : FormModel). r.pattern) e

  -- each form of a list is of one of the patterns
  pub patterns_below : (forms : List Form) → AreForms netlist (row_patterns pool rows) (models_of_forms forms) reach → AllByRecursion (λ (form : Form). form.pattern < length rows) forms
  patterns_below forms are = all_by_place (λ (form : Form). form.pattern < length rows) forms (λ k form e.
      let f : IsForm netlist reach 0 (row_patterns pool rows) (model_of_form form) = form_at netlist reach 0 (row_patterns pool rows) (models_of_forms forms) are.list k (model_of_form form) (slice_get-map model_of_form forms k ∙ ap (option_map model_of_form) e) in
      let lt = slice_get_within (row_patterns pool rows) f.place f.pattern f.at in
      let long = length-map rows (row_pattern pool) in
      let is = number_is (0 + f.place) f.pattern (model_of_form form) f.of in
      omega (arith, lt, long, is))

-- ---- the register that holds the mode

module _ (netlist : Netlist) (keeps : KeepsModes netlist) (machines : List KnownMachine) (are : AreMachinesOf machines netlist) (special : ℕ) (is : netlist.special ≡ Some special) (v : ℕ) (machine : KnownMachine)
    (at : slice_get machines v ≡ Some machine) where
  -- what a netlist with a mode register is in a mode is of the first edition, and has that register
  pub base_edition : (known_netlist machine).edition ≡ 1
  base_edition = ap (λ (n : Netlist). n.edition) (are.nets v machine at) ∙ ap (λ (o : Option ℕ). (in_mode o v netlist).edition) is

  pub base_mode : IsRegister (slice_get (known_netlist machine).storages special)
  base_mode =
      subst (λ (n : Netlist). IsRegister (slice_get n.storages special)) (sym (are.nets v machine at))
      (subst (λ (o : Option ℕ). IsModeRegister o (base_at netlist v)) is (base_register netlist v netlist.special (mode_register netlist netlist.special keeps.special)))

  pub base_within : special < length (known_netlist machine).storages
  base_within = register_within (known_netlist machine).storages special base_mode

-- ---- the forms of one mode more

module _ (netlist : Netlist) (machines : List KnownMachine) (are : AreMachinesOf machines netlist) where
  -- what is said of the netlist that a machine views is said of what the netlist is in its mode
  pub forms_in : (v : ℕ) (machine : KnownMachine) (all kept : Forms) → slice_get machines v ≡ Some machine → AreForms (known_netlist machine) (known_patterns machine) (models_of_forms all.list.items) all.reach
      → AreKeeping (known_netlist machine) (known_patterns machine) netlist.special (models_of_forms all.list.items) (models_of_forms kept.list.items)
      → kept.reach ≡ greatest_reach (models_of_forms kept.list.items) → kept.file ≡ size_in InFile (known_netlist machine).storages → AreFormsIn netlist v machine all kept
  forms_in v machine all kept at forms keeping reach file =
      let is : known_netlist machine ≡ base_at netlist v = are.nets v machine at in
      record {
        forms = subst (λ (n : Netlist). AreForms n (known_patterns machine) (models_of_forms all.list.items) all.reach) is forms;
        keeping = subst (λ (n : Netlist). AreKeeping n (known_patterns machine) netlist.special (models_of_forms all.list.items) (models_of_forms kept.list.items)) is keeping;
        reach = reach;
        file = file ∙ ap (λ (n : Netlist). size_in InFile n.storages) is ∙ ap (size_in InFile) (base_of netlist netlist.special v).storages;
      }

  -- without a mode register all forms are kept
  pub plain_forms : (v : ℕ) (machine : KnownMachine) (all : Forms) → slice_get machines v ≡ Some machine → netlist.special ≡ None → AreForms (known_netlist machine) (known_patterns machine) (models_of_forms all.list.items) all.reach
      → all.file ≡ size_in InFile (known_netlist machine).storages → AreFormsIn netlist v machine all all
  plain_forms v machine all at none forms file =
      forms_in v machine all all at forms
      (subst (λ (o : Option ℕ). AreKeeping (known_netlist machine) (known_patterns machine) o (models_of_forms all.list.items) (models_of_forms all.list.items)) (sym none) (all_kept (known_netlist machine) (known_patterns machine) (models_of_forms all.list.items)))
      forms.greatest_is file

  each_more : (alls kepts : List Forms) (all kept : Forms) (n : ℕ) → length alls ≡ n → length kepts ≡ n
      → ((v : ℕ) (machine : KnownMachine) (a k : Forms) → v < n → slice_get machines v ≡ Some machine → slice_get alls v ≡ Some a → slice_get kepts v ≡ Some k → AreFormsIn netlist v machine a k)
      → ((machine : KnownMachine) → slice_get machines n ≡ Some machine → AreFormsIn netlist n machine all kept)
      → (v : ℕ) (machine : KnownMachine) (a k : Forms) → slice_get machines v ≡ Some machine → slice_get (alls ++ all ∷ []) v ≡ Some a → slice_get (kepts ++ kept ∷ []) v ≡ Some k → AreFormsIn netlist v machine a k
  each_more alls kepts all kept n long even each own v machine a k at e f = elim (pushed_at kepts kept v k f) as (λ _. AreFormsIn netlist v machine a k) [
    | inl old ↦ elim (pushed_at alls all v a e) as (λ _. AreFormsIn netlist v machine a k) [
      | inl also ↦ each v machine a k (let lt = old.0 in omega (arith, lt, even)) at also.1 old.1
      | inr last ↦ absurd (let lt = old.0 in let is = last.0 in omega (arith, lt, is, even, long))
    ]
    | inr new ↦ elim (pushed_at alls all v a e) as (λ _. AreFormsIn netlist v machine a k) [
      | inl old ↦ absurd (let lt = old.0 in let is = new.0 in omega (arith, lt, is, even, long))
      | inr also ↦
          subst (λ (x : Forms). AreFormsIn netlist v machine x k) also.1
          (subst (λ (x : Forms). AreFormsIn netlist v machine all x) new.1
          (subst (λ m. AreFormsIn netlist m machine all kept) (sym (new.0 ∙ even)) (own machine (ap (slice_get machines) (sym (new.0 ∙ even)) ∙ at))))
    ]
  ]

  -- none at first
  pub no_forms : (list : FormsByMode) → list.all.items ≡ [] → list.kept.items ≡ [] → AreFormsBelow netlist machines 0 list
  no_forms list e f = record {
    all = by netlist.special;
    kept = ap (λ (fs : List Forms). length fs) f;
    each = λ v machine all kept lt at a k. absurd (omega (arith, lt));
  }
    where
      by : (o : Option ℕ) → length (all_forms o list) ≡ 0
      by None = ap (λ (fs : List Forms). length fs) f
      by (Some mode) = ap (λ (fs : List Forms). length fs) e

  module _ (old new : FormsByMode) (all kept : Forms) (n : ℕ) (before : AreFormsBelow netlist machines n old) (machine : KnownMachine) (at : slice_get machines n ≡ Some machine) where
    forms_more : all_forms netlist.special new ≡ all_forms netlist.special old ++ all ∷ [] → new.kept.items ≡ old.kept.items ++ kept ∷ [] → AreFormsIn netlist n machine all kept
        → AreFormsBelow netlist machines (n + 1) new
    forms_more as_all as_kept own =
        let long = length-append (all_forms netlist.special old) (all ∷ []) in
        let kept_long = length-append old.kept.items (kept ∷ []) in
        let had = before.all in
        let had_kept = before.kept in
        record {
          all = ap (λ (fs : List Forms). length fs) as_all ∙ omega (arith, long, had);
          kept = ap (λ (fs : List Forms). length fs) as_kept ∙ omega (arith, kept_long, had_kept);
          each = λ v m a k lt has e f. each_more (all_forms netlist.special old) old.kept.items all kept n before.all before.kept before.each
              (λ other there. subst (λ (x : KnownMachine). AreFormsIn netlist n x all kept) (same_Some machine other (sym at ∙ there)) own)
              v m a k has (ap (λ (fs : List Forms). slice_get fs v) (sym as_all) ∙ e)
              (ap (λ (fs : List Forms). slice_get fs v) (sym as_kept) ∙ f);
        }

    -- with a mode register, all of them and those that keep the mode
    pub forms_moded : (special : ℕ) → netlist.special ≡ Some special → new.all.items ≡ old.all.items ++ all ∷ [] → new.kept.items ≡ old.kept.items ++ kept ∷ []
        → AreForms (known_netlist machine) (known_patterns machine) (models_of_forms all.list.items) all.reach
        → AreKeeping (known_netlist machine) (known_patterns machine) (Some special) (models_of_forms all.list.items) (models_of_forms kept.list.items)
        → kept.reach ≡ greatest_reach (models_of_forms kept.list.items) → kept.file ≡ size_in InFile (known_netlist machine).storages → AreFormsBelow netlist machines (n + 1) new
    forms_moded special is as_all as_kept forms keeping reach file =
        forms_more
        (subst (λ (o : Option ℕ). all_forms o new ≡ all_forms o old ++ all ∷ []) (sym is) as_all)
        as_kept
        (forms_in n machine all kept at forms
        (subst (λ (o : Option ℕ). AreKeeping (known_netlist machine) (known_patterns machine) o (models_of_forms all.list.items) (models_of_forms kept.list.items)) (sym is) keeping)
        reach file)

  -- without one, all of them, which all keep it
  pub forms_plain : (old new : FormsByMode) (all : Forms) (n : ℕ) → AreFormsBelow netlist machines n old → (machine : KnownMachine) → slice_get machines n ≡ Some machine → netlist.special ≡ None
      → new.kept.items ≡ old.kept.items ++ all ∷ [] → AreForms (known_netlist machine) (known_patterns machine) (models_of_forms all.list.items) all.reach → all.file ≡ size_in InFile (known_netlist machine).storages
      → AreFormsBelow netlist machines (n + 1) new
  forms_plain old new all n before machine at none as_kept forms file =
      forms_more old new all all n before machine at
      (subst (λ (o : Option ℕ). all_forms o new ≡ all_forms o old ++ all ∷ []) (sym none) as_kept)
      as_kept
      (plain_forms n machine all at none forms file)

-- ---- what stands in lists by modes

module _ (netlist : Netlist) (machines : List KnownMachine) (are : AreMachinesOf machines netlist) (v : ℕ) (lt : v < modes_in netlist) where
  pub machine_in : v < length machines
  machine_in = let long = are.long in omega (arith, lt, long)

  pub book_in : (books : List Diagrams) → AreReadyAll machines books → v < length books
  book_in books ready =
      let long = are.long in
      let many = books_long machines books ready in
      omega (arith, lt, long, many)

-- with a mode register as many lists of all forms as modes
pub alls_long : (netlist : Netlist) (machines : List KnownMachine) (n : ℕ) (list : FormsByMode) (special : ℕ) → netlist.special ≡ Some special → AreFormsBelow netlist machines n list → length list.all.items ≡ n
alls_long netlist machines n list special is forms = ap (λ (o : Option ℕ). length (all_forms o list)) (sym is) ∙ forms.all

pub all_in : (netlist : Netlist) (machines : List KnownMachine) (list : FormsByMode) (special : ℕ) → netlist.special ≡ Some special → AreFormsBelow netlist machines (modes_in netlist) list → (v : ℕ) → v < modes_in netlist
    → v < length list.all.items
all_in netlist machines list special is forms v lt = let long = alls_long netlist machines (modes_in netlist) list special is forms in omega (arith, lt, long)

-- ---- modes that can be used

module _ (netlist : Netlist) (list : FormsByMode) where
  -- a mode other than 0 of a netlist that has such a register
  pub usable_is : (special v : ℕ) → netlist.special ≡ Some special → suc v < modes_in netlist → CanPut (Some special) (listed_form_models list.all.items 0) (suc v) × CanPut (Some special) (listed_form_models list.all.items (suc v)) 0
      → CanUse netlist (all_form_models netlist list) (suc v)
  usable_is special v is lt both = (
    lt-ltb (suc v) (modes_in netlist) lt,
    subst (λ (o : Option ℕ). CanPut o (listed_form_models (all_forms o list) 0) (suc v)) (sym is) both.0,
    subst (λ (o : Option ℕ). CanPut o (listed_form_models (all_forms o list) (suc v)) 0) (sym is) both.1,
  )

  pub is_usable : (special v : ℕ) → netlist.special ≡ Some special → CanUse netlist (all_form_models netlist list) (suc v)
      → CanPut (Some special) (listed_form_models list.all.items 0) (suc v) × CanPut (Some special) (listed_form_models list.all.items (suc v)) 0
  is_usable special v is can = (
    subst (λ (o : Option ℕ). CanPut o (listed_form_models (all_forms o list) 0) (suc v)) is can.1,
    subst (λ (o : Option ℕ). CanPut o (listed_form_models (all_forms o list) (suc v)) 0) is can.2,
  )

  -- so it is told of the first modes
  abbrev pub TellsUsable : List Bool → ℕ → Type 0
  TellsUsable usable n = (v : ℕ) → v < n → UsableAt usable v ↔ CanUse netlist (all_form_models netlist list) v

  pub first_usable : TellsUsable (true ∷ []) 1
  first_usable zero lt = (λ e. tt, λ can. refl)
  first_usable (suc v) lt = absurd (omega (arith, lt))

  pub usable_more : (special n : ℕ) (usable : List Bool) (can : Bool) → netlist.special ≡ Some special → 1 ≤ n → length usable ≡ n → n < modes_in netlist → TellsUsable usable n
      → (IsTrue can ↔ (CanPut (Some special) (listed_form_models list.all.items 0) n × CanPut (Some special) (listed_form_models list.all.items n) 0)) → TellsUsable (usable ++ can ∷ []) (n + 1)
  usable_more special zero usable can is le long lt told own u less = absurd (omega (arith, le))
  usable_more special (suc v) usable can is le long lt told own u less = elim (cases_lt u (suc v)) [
    | inl before ↦ (
      λ e. (told u before).0 (sym (get_left usable (can ∷ []) u (omega (arith, before, long))) ∙ e),
      λ c. get_left usable (can ∷ []) u (omega (arith, before, long)) ∙ (told u before).1 c,
    )
    | inr past ↦ (
        let same : suc v ≡ u = omega (arith, less, past) in
        subst (λ n. UsableAt (usable ++ can ∷ []) n ↔ CanUse netlist (all_form_models netlist list) n) same (
          λ e. usable_is special v is lt (own.0 (same_Some can true (sym at_last ∙ e))),
          λ c. at_last ∙ ap (λ (b : Bool). Some b) (own.1 (is_usable special v is c)),
        )
        )
  ]
    where
      at_last : slice_get (usable ++ can ∷ []) (suc v) ≡ Some can
      at_last = ap (slice_get (usable ++ can ∷ [])) (sym long) ∙ get_seam usable can []

  -- told of all modes, it is told of each number
  pub usable_whole : (usable : List Bool) → length usable ≡ modes_in netlist → TellsUsable usable (modes_in netlist) → (v : ℕ) → UsableAt usable v ↔ CanUse netlist (all_form_models netlist list) v
  usable_whole usable long told v = (
    λ e. (told v (let lt = slice_get_within usable v true e in omega (arith, lt, long))).0 e,
    λ can. (told v (can_within netlist (all_form_models netlist list) v can)).1 can,
  )

  -- a netlist without a mode register has mode 0 alone
  pub plain_usable : netlist.special ≡ None → (v : ℕ) → UsableAt (true ∷ []) v ↔ CanUse netlist (all_form_models netlist list) v
  plain_usable none = usable_whole (true ∷ []) (sym (alone_modes netlist none)) (subst (TellsUsable (true ∷ [])) (sym (alone_modes netlist none)) first_usable)

-- ---- the words between modes

module _ (netlist : Netlist) (keeps : KeepsModes netlist) (machines : List KnownMachine) (are : AreMachinesOf machines netlist) (list : FormsByMode) (forms : AreFormsBelow netlist machines (modes_in netlist) list)
    (special : ℕ) (is : netlist.special ≡ Some special) where
  -- the forms of a mode, as its machine has them
  pub forms_at : (v : ℕ) (machine : KnownMachine) (all : Forms) → slice_get machines v ≡ Some machine → slice_get list.all.items v ≡ Some all → AreForms (known_netlist machine) (known_patterns machine) (models_of_forms all.list.items) all.reach
  forms_at v machine all at has =
      let lt = slice_get_within machines v machine at in
      let long = are.long in
      let k = there list.kept.items v (let many = forms.kept in omega (arith, lt, long, many)) in
      subst (λ (n : Netlist). AreForms n (known_patterns machine) (models_of_forms all.list.items) all.reach) (sym (are.nets v machine at))
      (forms.each v machine all k.0 (omega (arith, lt, long)) at (ap (λ (o : Option ℕ). slice_get (all_forms o list) v) is ∙ has) k.1).forms

  -- where a form of a mode puts a number there is a word for it
  has_word : (v to : ℕ) (machine : KnownMachine) (all : Forms) → slice_get machines v ≡ Some machine → slice_get list.all.items v ≡ Some all → CanPut (Some special) (models_of_forms all.list.items) to
      → IsLeastModeWord (known_netlist machine) (Some special) (known_patterns machine) (models_of_forms all.list.items) to None → ⊥
  has_word v to machine all at has can none =
      let f = forms_at v machine all at has in
      let lt = slice_get_within machines v machine at in
      let long = are.long in
      let k : KeepsInOrder (known_netlist machine) = subst KeepsInOrder (sym (are.nets v machine at)) (keeps.each v (omega (arith, lt, long))) in
      let patterns : ArePatterns (known_netlist machine) (known_patterns machine) = subst (λ (n : Netlist). ArePatterns n (known_patterns machine)) (sym (are.nets v machine at)) (are.patterns v machine at) in
      let w = put_word (known_netlist machine) k.order k.rules (known_patterns machine) patterns.each special (base_mode netlist keeps machines are special is v machine at) all.reach (models_of_forms all.list.items) f.list to can in
      none w.0 w.1 w.2

  forms_there : (v : ℕ) (all : Forms) → slice_get list.all.items v ≡ Some all → all_form_models netlist list v ≡ models_of_forms all.list.items
  forms_there v all has = ap (λ (o : Option ℕ). forms_or_none (slice_get (all_forms o list) v)) is ∙ ap forms_or_none has

  -- no word into a mode, or none back
  pub no_enter : (v : ℕ) (first : KnownMachine) (zeroth : Forms) → slice_get machines 0 ≡ Some first → slice_get list.all.items 0 ≡ Some zeroth
      → IsLeastModeWord (known_netlist first) (Some special) (known_patterns first) (models_of_forms zeroth.list.items) v None → IsPassageOrNone netlist machines list v None
  no_enter v first zeroth first_at zeroth_at none into back =
      has_word 0 v first zeroth first_at zeroth_at
      (subst (λ (models : List FormModel). CanPut (Some special) models v) (forms_there 0 zeroth zeroth_at) (subst (λ (o : Option ℕ). CanPut o (all_form_models netlist list 0) v) is into)) none

  pub no_leave : (v : ℕ) (own : KnownMachine) (all : Forms) → slice_get machines v ≡ Some own → slice_get list.all.items v ≡ Some all
      → IsLeastModeWord (known_netlist own) (Some special) (known_patterns own) (models_of_forms all.list.items) 0 None → IsPassageOrNone netlist machines list v None
  no_leave v own all own_at all_at none into back =
      has_word v 0 own all own_at all_at
      (subst (λ (models : List FormModel). CanPut (Some special) models 0) (forms_there v all all_at) (subst (λ (o : Option ℕ). CanPut o (all_form_models netlist list v) 0) is back)) none

  module _ (v : ℕ) (first own : KnownMachine) (zeroth all : Forms) (first_at : slice_get machines 0 ≡ Some first) (own_at : slice_get machines v ≡ Some own) (zeroth_at : slice_get list.all.items 0 ≡ Some zeroth)
      (all_at : slice_get list.all.items v ≡ Some all) where
    word_as : (u to number word : ℕ) (machine told : KnownMachine) (own : Forms) → slice_get machines u ≡ Some machine → slice_get machines u ≡ Some told → slice_get list.all.items u ≡ Some own
        → IsModeWord (known_netlist machine) (Some special) (known_patterns machine) (models_of_forms own.list.items) to number word
        → IsModeWord (base_at netlist u) netlist.special (known_patterns told) (all_form_models netlist list u) to number word
    word_as u to number word machine told own at also has w =
        subst (λ (m : KnownMachine). IsModeWord (base_at netlist u) netlist.special (known_patterns m) (all_form_models netlist list u) to number word) (same_Some machine told (sym at ∙ also))
        (subst (λ (n : Netlist). IsModeWord n netlist.special (known_patterns machine) (all_form_models netlist list u) to number word) (are.nets u machine at)
        (subst (λ (o : Option ℕ). IsModeWord (known_netlist machine) o (known_patterns machine) (all_form_models netlist list u) to number word) (sym is)
        (subst (λ (list : List FormModel). IsModeWord (known_netlist machine) (Some special) (known_patterns machine) list to number word) (sym (forms_there u own has)) w)))

    -- both words
    pub passage_words : (enter leave : ModeWord) → IsLeastModeWord (known_netlist first) (Some special) (known_patterns first) (models_of_forms zeroth.list.items) v (Some enter)
        → IsLeastModeWord (known_netlist own) (Some special) (known_patterns own) (models_of_forms all.list.items) 0 (Some leave)
        → IsPassageIn netlist machines list v (record { enter = enter; leave = leave })
    passage_words enter leave e l = record {
      enter = λ machine at. word_as 0 v enter.pattern enter.word first machine zeroth first_at at zeroth_at e;
      leave = λ machine at. word_as v 0 leave.pattern leave.word own machine all own_at at all_at l;
    }

-- the words of the first modes, of which 0 needs none
abbrev pub TellsPassages : Netlist → List KnownMachine → FormsByMode → List (Option Passage) → ℕ → Type 0
TellsPassages netlist machines list words n = (v : ℕ) (o : Option Passage) → suc v < n → slice_get words (suc v) ≡ Some o → IsPassageOrNone netlist machines list (suc v) o

module _ (netlist : Netlist) (machines : List KnownMachine) (list : FormsByMode) where
  pub first_passages : TellsPassages netlist machines list (None ∷ []) 1
  first_passages v o lt e = absurd (omega (arith, lt))

  pub passages_more : (words : List (Option Passage)) (n : ℕ) (next : Option Passage) → length words ≡ n → TellsPassages netlist machines list words n → IsPassageOrNone netlist machines list n next
      → TellsPassages netlist machines list (words ++ next ∷ []) (n + 1)
  passages_more words n next long told own u o lt e = elim (pushed_at words next (suc u) o e) as (λ _. IsPassageOrNone netlist machines list (suc u) o) [
    | inl old ↦ told u o (let less = old.0 in omega (arith, less, long)) old.1
    | inr new ↦ subst (λ (x : Option Passage). IsPassageOrNone netlist machines list (suc u) x) new.1 (subst (λ n. IsPassageOrNone netlist machines list n next) (sym (new.0 ∙ long)) own)
  ]

  pub passages_whole : (words : List (Option Passage)) → length words ≡ modes_in netlist → TellsPassages netlist machines list words (modes_in netlist) → ArePassages netlist machines list words
  passages_whole words long told v can =
      let lt : suc v < modes_in netlist = can_within netlist (all_form_models netlist list) (suc v) can in
      let w = there words (suc v) (omega (arith, lt, long)) in
      by w.0 w.1 (told v w.0 lt w.1)
    where
      by : (o : Option Passage) → slice_get words (suc v) ≡ Some o → IsPassageOrNone netlist machines list (suc v) o
          → (passage : Passage) × (slice_get words (suc v) ≡ Some (Some passage)) × IsPassageIn netlist machines list (suc v) passage
      by None e none = absurd (none can.1 can.2)
      by (Some passage) e is = (passage, e, is)

  -- without a mode register there is no word
  pub no_passage : (v : ℕ) → netlist.special ≡ None → IsPassageOrNone netlist machines list v None
  no_passage v none into back = some_none (sym none ∙ into.is)
    where
      some_none : {m : ℕ} → None ≡ Some m → ⊥
      some_none e = cc
