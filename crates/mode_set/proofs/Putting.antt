-- The forms that put a number into the mode, and the words that do.
use Rattle.std.proofs.Common.{◌≡◌, ◌≢◌, ◌==◌, ◌++◌, ◌⊎◌, inl, inr, ℕ, zero, suc, Bool, true, false, ◌&&◌, ◌||◌, if◌then◌else◌, nat_le, List, [], ◌∷◌, Option, Some, None, slice_get, refl, sym, ◌∙◌, ap, subst, arith, ◌+◌, ◌<◌, ◌≤◌, length, get_or, take}
use Rattle.std.specs.Prelude.{All, Contains, is_some, MatchOption}
use Rattle.std.proofs.lemmas.Bool.{cases_lt, leb-false, leb-true}
use Rattle.std.proofs.lemmas.List.{length-map}
use Rattle.std.proofs.lemmas.List.Elements.{Contains-append_cases, Contains-append_left, Contains-append_right}
use Rattle.std.proofs.lemmas.Nat.Bits.{bit_at-zero}
use Rattle.std.proofs.lemmas.Option.{get_or_from_slice_get, same_Some, slice_get-get_or, slice_get_within}
use Rattle.net_model.specs.declared.hardware.Netlist.{Netlist}
use Rattle.net_model.specs.declared.hardware.Space.{Space}
use Rattle.net_model.specs.declared.hardware.Space.TheVariants.{Memory as InMemory, File as InFile}
use Rattle.net_model.specs.declared.hardware.Storage.{Storage}
use Rattle.net_model.specs.declared.hardware.Storage.TheVariants.{Register, Memory, File}
use Rattle.net_model.specs.CheckedRules.{count_in, files_of, HasFileIf, HasFiles, KeepsRules}
use Rattle.net_model.specs.Editions.{is_banked}
use Rattle.net_model.specs.Fields.{fields, transfer_fields}
use Rattle.net_model.specs.Meaning.{mean}
use Rattle.net_model.specs.Nets.{file_place, HasCells, IsRegister, memory_id, place_in, space_of, word_width}
use Rattle.net_model.specs.Patterns.{IsPattern, IsWordOf, Pattern}
use Rattle.net_model.specs.Symbolic.{no_state}
use Rattle.net_model.specs.Exprs.{ExprModel, TransferModel, keep, write, write_at}
use Rattle.net_model.specs.Transfers.{memory_transfer, transfer_at, space_transfer, Steps, transfer_of}
use Rattle.net_model.proofs.KeptRules.{sound_of}
use Rattle.net_model.proofs.WordWidths.{clean_below}
use Rattle.net_model.proofs.Storages.{memory_no_register, stores_cells}
use Rattle.sym_expr.specs.Pools.{ExprFits}
use Rattle.sym_expr.specs.declared.pool.Node.{Node}
use Rattle.transfer_set.specs.Inner.Widths.{TransferFits}
use Rattle.transfer_set.specs.Rows.{row_patterns}
use Rattle.transfer_set.specs.Tables.{PatternTable}
use Rattle.transfer_set.specs.TextMarks.{IsTransferOf, IsExprOf}
use Rattle.transfer_set.proofs.TermsFit.{move_fits}
use Rattle.transfer_set.proofs.TermsOf.{move_exprs}
use Rattle.form_model.specs.declared.forms.Form.{Form}
use Rattle.form_model.specs.declared.forms.Step.{Step}
use Rattle.form_model.specs.Effects.{is_store, Operation, operation_of, operation_or_none, same_space, space_in}
use Rattle.form_model.specs.Live.{regs_of}
use Rattle.form_model.specs.Forms.{FormModel, into_file, into_memory, into_reg, jumps, branches, model_of_form, models_of_forms}
use Rattle.form_model.specs.Shapes.{is_plain, is_shape, plain_setting, shape_setting, ShapeFits}
use Rattle.form_set.specs.Listing.{AreFormModels, sides_of}
use Rattle.form_set.specs.Promises.{IsForm, IsFormOf, KeepsBut, of_branch, of_jump, of_plain}
use Rattle.form_set.specs.Static.{is_file_at}
use Rattle.operand_swaps.specs.Swaps.{Path, picks, swap_paths, swapped}
use Rattle.form_set.specs.Words.{ForEachSetting}
use Rattle.form_set.proofs.Editions.{shape_from}
use Rattle.form_set.proofs.FormLaws.{form_at, plain_words}
use Rattle.form_set.proofs.ShapeBits.{plain_meant, plain_of_setting, plain_told, shape_fits, shape_only, shape_set}
use Rattle.operand_swaps.proofs.SumSwaps.{plain_same, plain_stays}
use Rattle.word_fit.specs.Fits.{Does, FitsGroup}
use Rattle.word_fit.specs.Steps.{step_operation}
use Rattle.mode_set.specs.declared.puts.ModeWord.{ModeWord}
use Rattle.mode_set.specs.Keeping.{CanPut, Puts}
use Rattle.mode_set.specs.ModeWords.{FitsModeWord, IsLeastModeWord, IsStepWord, lesser_of}
use Rattle.mode_set.proofs.KeptForms.{listed, next_forms}

-- ---- which forms put a number

module _ (mode v : ℕ) (form : FormModel) where
  some_bits : (o : Option ℕ) → o ≡ None → is_some o ≡ true → ⊥
  some_bits None e h = cc
  some_bits (Some bits) e h = cc

  -- one that goes into the mode puts what its value shows without a sum
  pub put_found : form.goal ≡ into_reg mode → (o : Option ℕ) → o ≡ plain_setting form.value v →
      MatchOption o (Puts mode v form → ⊥) (λ bits. Puts mode v form × (plain_setting form.value v ≡ Some bits))
  put_found goal None told = λ p. some_bits (plain_setting form.value v) (sym told) (ap is_some (sym (plain_told form.value p.shape v)) ∙ p.shown)
  put_found goal (Some bits) told =
      let plain : is_plain form.value ≡ true = plain_of_setting form.value v bits (sym told) in (
        record { goal = goal; shape = plain; shown = ap is_some (plain_told form.value plain v ∙ sym told) },
        sym told,
      )

-- the mode that a list puts a number into is the one that is asked of
pub can_put_at : (mode : ℕ) (forms : List FormModel) (to : ℕ) (p : CanPut (Some mode) forms to) → Puts mode to p.form
can_put_at mode forms to p = subst (λ m. Puts m to p.form) (let same : p.mode ≡ mode = (let e = p.is in cc) in same) p.puts

-- a form that puts a number has a setting for it
setting_of_put : (mode v : ℕ) (form : FormModel) → Puts mode v form → (bits : ℕ) × (plain_setting form.value v ≡ Some bits)
setting_of_put mode v form puts = by (plain_setting form.value v) refl (ap is_some (sym (plain_told form.value puts.shape v)) ∙ puts.shown)
  where
    by : (o : Option ℕ) → plain_setting form.value v ≡ o → is_some o ≡ true → (bits : ℕ) × (plain_setting form.value v ≡ Some bits)
    by None e h = absurd cc
    by (Some bits) e h = (bits, e)

-- what the code is told of a form's setting
module _ (mode v : ℕ) (form : FormModel) where
  abbrev pub IsPutSetting : Option ℕ → Type 0
  IsPutSetting o = MatchOption o (Puts mode v form → ⊥) (λ bits. Puts mode v form × (plain_setting form.value v ≡ Some bits))

  pub none_told : (o : Option ℕ) → IsPutSetting o → is_some o ≡ false → Puts mode v form → ⊥
  none_told None h e = h
  none_told (Some bits) h e = absurd (cc)

-- ---- lists of forms

with_forms : (netlist : Netlist) (special : Option ℕ) (patterns : List Pattern) (v : ℕ) (forms others : List FormModel) (number word : ℕ) → (f : FitsModeWord netlist special patterns forms v number word) → Contains others f.form
    → FitsModeWord netlist special patterns others v number word
with_forms netlist special patterns v forms others number word f among = record {
  mode = f.mode;
  is = f.is;
  form = f.form;
  among = among;
  puts = f.puts;
  named = f.named;
  at = f.at;
  given = f.given;
  value = f.value;
  steps = f.steps;
  memory = f.memory;
}

only : (a b : FormModel) → Contains (a ∷ []) b → a ≡ b
only a b (zero, lt, is) = is
only a b (suc k, lt, is) = absurd (omega arith)

-- no word puts a number where no form does
pub none_first : (netlist : Netlist) (special : Option ℕ) (patterns : List Pattern) (v : ℕ) → IsLeastModeWord netlist special patterns [] v None
none_first netlist special patterns v = λ number word f. (let among = f.among in let lt = among.1 in absurd (omega (arith, lt)))

-- ---- the pattern of such a form

pub all_at : {A : Type 0} (P : A → Type 0) (xs : List A) (n : ℕ) (x : A) → All P xs → slice_get xs n ≡ Some x → P x
all_at P xs n x h e = subst P (get_or_from_slice_get xs n x x e) (h n x (slice_get_within xs n x e))

pub found_at : {A : Type 0} (xs : List A) (x : A) → Contains xs x → (k : ℕ) × (slice_get xs k ≡ Some x)
found_at xs x among = (among.0, slice_get-get_or xs among.0 x among.1 ∙ ap (λ y. Some y) among.2)

pub contained : {A : Type 0} (xs : List A) (k : ℕ) (x : A) → slice_get xs k ≡ Some x → Contains xs x
contained xs k x e = (k, slice_get_within xs k x e, get_or_from_slice_get xs k x x e)

-- ---- whether some form puts the number

module _ (mode v : ℕ) (forms : List Form) where
  -- none of the first forms does
  abbrev pub NonePuts : ℕ → Type 0
  NonePuts n = (k : ℕ) (form : FormModel) → k < n → slice_get (models_of_forms forms) k ≡ Some form → Puts mode v form → ⊥

  pub none_puts_first : NonePuts 0
  none_puts_first k form lt at = absurd (omega (arith, lt))

  module _ (i : ℕ) (form : Form) (lt : i < length forms) (is : form ≡ get_or forms i form) where
    pub none_puts_more : NonePuts i → (Puts mode v (model_of_form form) → ⊥) → NonePuts (i + 1)
    none_puts_more before other k model less at = elim (cases_lt k i) as (λ _. Puts mode v model → ⊥) [
      | inl l ↦ before k model l at
      | inr g ↦ (let own : k ≡ i = omega (arith, less, g) in
          let same : Some model ≡ Some (model_of_form form) = sym at ∙ ap (slice_get (models_of_forms forms)) own ∙ listed forms i form lt is in
          λ puts. other (subst (Puts mode v) (same_Some model (model_of_form form) same) puts))
    ]

  pub can_put_none : (n : ℕ) → length forms ≤ n → NonePuts n → CanPut (Some mode) (models_of_forms forms) v → ⊥
  can_put_none n all none p =
      let k = found_at (models_of_forms forms) p.form p.among in
      let within = slice_get_within (models_of_forms forms) k.0 p.form k.1 in
      none k.0 p.form (omega (arith, within, length-map forms model_of_form, all)) k.1 (can_put_at mode (models_of_forms forms) v p)

-- ---- the storage of such a form

pub register_goal : (storage id : ℕ) (b c : Bool) → (if b then into_memory else if c then into_file else into_reg storage) ≡ into_reg id → storage ≡ id
register_goal storage id true c e = absurd (cc)
register_goal storage id false true e = absurd (cc)
register_goal storage id false false e = cc

no_array : (storages : List Storage) → count_in InFile storages ≡ 0 → slice_get storages (place_in InFile storages) ≡ None
no_array [] e = refl
no_array (Register name width input when ∷ storages) e = no_array storages (omega (arith, e))
no_array (Memory cells ∷ storages) e = no_array storages (omega (arith, e))
no_array (File cells ∷ storages) e = absurd (omega (arith, e))

no_cells : (o : Option Storage) → IsRegister o → HasCells (space_of o) o → ⊥
no_cells None r h = r
no_cells (Some (Register name width input when)) r h = h
no_cells (Some (Memory cells)) r h = r
no_cells (Some (File cells)) r h = r

module _ (netlist : Netlist) (order : List ℕ) (keeps : KeepsRules netlist order) (patterns : List Pattern) (each : All (IsPattern netlist) patterns) (mode : ℕ) (register : IsRegister (slice_get netlist.storages mode)) where
  abbrev into_mode : ExprModel → Pattern
  into_mode value = record { storage = mode; move = write value }

  -- what a form puts has no operators, so it is its pattern's as it stands
  put_transfer : (choice i : ℕ) (m : TransferModel) → m ≢ keep → transfer_at netlist i mode ≡ m → (t : ExprModel) → t ≡ (swapped choice (sides_of m)).value → is_plain t ≡ true → m ≡ write t
  put_transfer choice i keep changes gives t is plain = absurd (changes refl)
  put_transfer choice i (write e) changes gives t is plain =
      let chosen : Path → Bool = λ path. picks choice (swap_paths (record { addr = None; value = e })) (1 ∷ path) in
      let own : is_plain e ≡ true = sym (plain_stays chosen e) ∙ ap is_plain (sym is) ∙ plain in
      ap write (sym (is ∙ plain_same chosen e own))
  put_transfer choice i (write_at a e) changes gives t is plain =
      absurd (no_cells (slice_get netlist.storages mode) register (stores_cells netlist i mode a e (slice_get netlist.storages mode) gives))

  module _ (reach : ℕ) (forms : List FormModel) (list : AreFormModels netlist reach 0 patterns forms) (v : ℕ) where
    pub record IsPut (form : FormModel) : Type 0 where
      pub plain : is_plain form.value ≡ true
      pub at : slice_get patterns form.pattern ≡ Some (into_mode form.value)
      pub clobbers : ℕ
      pub words : ForEachSetting (fields form.value) (KeepsBut netlist (into_mode form.value) clobbers)
      pub exprs : IsExprOf netlist form.value
      pub fits : ExprFits form.value

    of_kind : (form : FormModel) → Puts mode v form → (number : ℕ) (p : Pattern) → slice_get patterns number ≡ Some p → IsFormOf netlist reach number p form → IsPut form
    of_kind form puts number p at (of_jump h e) = absurd (let g : jumps _ ≡ into_reg mode = sym (ap (λ (r : FormModel). r.goal) e) ∙ puts.goal in cc)
    of_kind form puts number p at (of_branch choice parts h e) = absurd (let g : branches _ _ ≡ into_reg mode = sym (ap (λ (r : FormModel). r.goal) e) ∙ puts.goal in cc)
    of_kind form puts number p at (of_plain choice clobbers plain are e) =
        let pattern : IsPattern netlist p = all_at (IsPattern netlist) patterns number p each at in
        let stored : p.storage ≡ mode = register_goal p.storage mode (p.storage == memory_id netlist.storages) (is_file_at netlist p.storage) (sym (ap (λ (r : FormModel). r.goal) e) ∙ puts.goal) in
        let gives : transfer_at netlist pattern.word mode ≡ p.move = ap (λ n. transfer_at netlist pattern.word n) (sym stored) ∙ pattern.given.gives in
        let moved : p.move ≡ write form.value = put_transfer choice pattern.word p.move pattern.changes gives form.value (ap (λ (r : FormModel). r.value) e) puts.shape in
        let same : p ≡ into_mode form.value = (λ j. record { storage = stored j; move = moved j }) in
        record {
          plain = puts.shape;
          at = ap (λ n. slice_get patterns n) (ap (λ (r : FormModel). r.pattern) e) ∙ at ∙ ap (λ (q : Pattern). Some q) same;
          clobbers = clobbers;
          words = subst (λ (q : Pattern). ForEachSetting (transfer_fields q.move) (KeepsBut netlist q clobbers)) same (plain_words netlist p clobbers plain are);
          exprs = subst (IsTransferOf netlist) (pattern.given.gives ∙ moved) (move_exprs netlist order keeps pattern.word p.storage);
          fits = subst TransferFits (pattern.given.gives ∙ moved) (move_fits netlist (sound_of netlist order keeps) pattern.word p.storage);
        }

    pub put_form : (k : ℕ) (form : FormModel) → slice_get forms k ≡ Some form → Puts mode v form → IsPut form
    put_form k form at puts =
        let f : IsForm netlist reach 0 patterns form = form_at netlist reach 0 patterns forms list k form at in
        of_kind form puts f.place f.pattern f.at (subst (λ n. IsFormOf netlist reach n f.pattern form) (let z : 0 + f.place ≡ f.place = omega arith in z) f.of)

    module _ (form : FormModel) (puts : Puts mode v form) (put : IsPut form) (bits : ℕ) (told : plain_setting form.value v ≡ Some bits) where
      shape : is_shape form.value ≡ true
      shape = shape_from 1 form.value put.plain

      fitted : ShapeFits (word_width netlist) form.value
      fitted = shape_fits netlist form.value shape put.exprs put.fits

      set : shape_setting form.value v ≡ Some bits
      set = plain_told form.value put.plain v ∙ told

      memory_other : mode ≢ memory_id netlist.storages
      memory_other e = memory_no_register netlist.storages (subst (λ n. IsRegister (slice_get netlist.storages n)) e register)

      -- ---- it has a word

      pub word_of_put : (others : List FormModel) → Contains others form → (word : ℕ) × FitsModeWord netlist (Some mode) patterns others v form.pattern word
      word_of_put others among =
          let w = put.words bits (shape_only (word_width netlist) form.value shape fitted v bits set) in (
            w.0,
            record {
              mode = mode;
              is = refl;
              form = form;
              among = among;
              puts = puts;
              named = refl;
              at = put.at;
              given = w.2.given;
              value = shape_set (word_width netlist) form.value shape fitted v bits set no_state w.0 (clean_below netlist order keeps w.0 w.2.given.clean) w.1;
              steps = w.2.steps;
              memory = w.2.memory memory_other;
            },
          )

      -- ---- its words are those that fit it as a group of its own

      module _ (pool : List Node) (table : PatternTable) (rows : row_patterns pool table.rows ≡ patterns) (told_file : table.file ≡ file_place netlist.storages) where
        abbrev own_step : Step
        own_step = record { pattern = form.pattern; setting = bits }

        opened : step_operation pool table own_step ≡ record { storage = mode; space = space_in (file_place netlist.storages) mode; move = write form.value; setting = bits }
        opened =
            ap (λ f. operation_of f (row_patterns pool table.rows) own_step) told_file
            ∙ ap (λ ps. operation_of (file_place netlist.storages) ps own_step) rows
            ∙ ap (λ o. operation_or_none (file_place netlist.storages) o bits) put.at

        changes : write form.value ≢ keep
        changes e = cc

        none_live : (r : ℕ) → regs_of 0 r ≡ true → ⊥
        none_live r e = let z : regs_of 0 r ≡ false = ap (λ n. n == 1) (bit_at-zero r) in cc

        module _ (edition : netlist.edition ≡ 1) where
          fileless : slice_get netlist.storages (place_in InFile netlist.storages) ≡ None
          fileless =
              let files : HasFiles netlist = subst (λ (n : ℕ). HasFileIf (is_banked n) netlist) edition keeps.roles.file in
              no_array netlist.storages (files.0 ∙ ap files_of edition)

          keeps_cells : (word : ℕ) (space : Space) → memory_transfer netlist word ≡ keep → space_transfer netlist space word ≡ keep
          keeps_cells word InMemory m = m
          keeps_cells word InFile m = ap (transfer_of netlist word (place_in InFile netlist.storages)) fileless

          pub group_of_word : (word : ℕ) → IsWordOf netlist (into_mode form.value) word → mean form.value no_state word ≡ v → Steps netlist word → memory_transfer netlist word ≡ keep
              → FitsGroup netlist (step_operation pool table) word (own_step ∷ []) (regs_of 0)
          group_of_word word given value steps memory = record {
            clean = given.clean;
            does = (
              subst (Does netlist word) (sym opened) (record {
                changes = changes;
                gives = given.gives;
                space = refl;
                setting = plain_meant (word_width netlist) form.value put.plain fitted v bits told word (clean_below netlist order keeps word given.clean) value;
              }),
              tt,
            );
            steps = steps;
            cells = λ space e. keeps_cells word space memory;
            registers = λ r reg live e. absurd (none_live r live);
          }

          pub word_of_group : (others : List FormModel) → Contains others form → (word : ℕ) → FitsGroup netlist (step_operation pool table) word (own_step ∷ []) (regs_of 0)
              → FitsModeWord netlist (Some mode) patterns others v form.pattern word
          word_of_group others among word f =
              let d = subst (Does netlist word) opened f.does.0 in
              record {
                mode = mode;
                is = refl;
                form = form;
                among = among;
                puts = puts;
                named = refl;
                at = put.at;
                given = record { clean = f.clean; gives = d.gives };
                value = shape_set (word_width netlist) form.value shape fitted v bits set no_state word (clean_below netlist order keeps word f.clean) d.setting;
                steps = f.steps;
                memory = f.cells InMemory (ap (λ (o : Operation). (is_store o.move && same_space o.space InMemory) || false) opened);
              }

          -- ---- the least word, one form after the other

          abbrev Least : List FormModel → Option ModeWord → Type 0
          Least list known = IsLeastModeWord netlist (Some mode) patterns list v known

          -- a word of one more form is one of those before, or fits the form as a group of its own
          own_or : (front : List FormModel) (number word : ℕ) → FitsModeWord netlist (Some mode) patterns (front ++ form ∷ []) v number word
              → FitsModeWord netlist (Some mode) patterns front v number word ⊎ FitsGroup netlist (step_operation pool table) word (own_step ∷ []) (regs_of 0)
          own_or front number word f = elim (Contains-append_cases front (form ∷ []) f.form f.among)
              as (λ _. FitsModeWord netlist (Some mode) patterns front v number word ⊎ FitsGroup netlist (step_operation pool table) word (own_step ∷ []) (regs_of 0)) [
                | inl among ↦ inl (with_forms netlist (Some mode) patterns v (front ++ form ∷ []) front number word f among)
                | inr own ↦ inr (of_form f.mode f.form (let e = f.is in let same : mode ≡ f.mode = cc in same) (only form f.form own) f.given f.value f.steps f.memory)
              ]
            where
              of_form : (id : ℕ) (other : FormModel) → mode ≡ id → form ≡ other → IsWordOf netlist (record { storage = id; move = write other.value }) word → mean other.value no_state word ≡ v → Steps netlist word → memory_transfer netlist word ≡ keep
                  → FitsGroup netlist (step_operation pool table) word (own_step ∷ []) (regs_of 0)
              of_form id other e same given value steps memory =
                  group_of_word word
                  (subst (λ (r : FormModel). IsWordOf netlist (into_mode r.value) word) (sym same) (subst (λ m. IsWordOf netlist (record { storage = m; move = write other.value }) word) (sym e) given))
                  (subst (λ (r : FormModel). mean r.value no_state word ≡ v) (sym same) value) steps memory

          last : (front : List FormModel) → Contains (front ++ form ∷ []) form
          last front = Contains-append_right front (form ∷ []) form (contained (form ∷ []) 0 form refl)

          before : (front : List FormModel) (number word : ℕ) → FitsModeWord netlist (Some mode) patterns front v number word → FitsModeWord netlist (Some mode) patterns (front ++ form ∷ []) v number word
          before front number word f = with_forms netlist (Some mode) patterns v front (front ++ form ∷ []) number word f (Contains-append_left front (form ∷ []) f.form f.among)

          own_word : (front : List FormModel) (w : ModeWord) → IsStepWord netlist pool table own_step (Some w) → FitsModeWord netlist (Some mode) patterns (front ++ form ∷ []) v w.pattern w.word
          own_word front w h = subst (λ n. FitsModeWord netlist (Some mode) patterns (front ++ form ∷ []) v n w.word) (sym h.0) (word_of_group (front ++ form ∷ []) (last front) w.word h.1.is)

          pub one_more : (front : List FormModel) (known next : Option ModeWord) → Least front known → IsStepWord netlist pool table own_step next → Least (front ++ form ∷ []) (lesser_of known next)
          one_more front None None none missing = λ number word f. elim (own_or front number word f) [ inl g ↦ none number word g | inr g ↦ missing word g ]
          one_more front (Some least) None h missing = record {
            fits = before front least.pattern least.word h.fits;
            least = λ number word f. elim (own_or front number word f) [ inl g ↦ h.least number word g | inr g ↦ absurd (missing word g) ];
          }
          one_more front None (Some w) none h = record {
            fits = own_word front w h;
            least = λ number word f. elim (own_or front number word f) [ inl g ↦ absurd (none number word g) | inr g ↦ h.1.least word g ];
          }
          one_more front (Some least) (Some w) k h = by (nat_le least.word w.word) refl
            where
              by : (b : Bool) → nat_le least.word w.word ≡ b → Least (front ++ form ∷ []) (if b then Some least else Some w)
              by true e = record {
                fits = before front least.pattern least.word k.fits;
                least = λ number word f. elim (own_or front number word f) [
                  | inl g ↦ k.least number word g
                  | inr g ↦ (let le = leb-true least.word w.word e in let own = h.1.least word g in omega (arith, le, own))
                ];
              }
              by false e = record {
                fits = own_word front w h;
                least = λ number word f. elim (own_or front number word f) [
                  | inl g ↦ (let gt = leb-false least.word w.word e in let own = k.least number word g in omega (arith, gt, own))
                  | inr g ↦ h.1.least word g
                ];
              }

    -- ---- a form that puts another number, or none, has no such word

    pub one_other : (front : List FormModel) (form : FormModel) (known : Option ModeWord) → (Puts mode v form → ⊥) → IsLeastModeWord netlist (Some mode) patterns front v known → IsLeastModeWord netlist (Some mode) patterns (front ++ form ∷ []) v known
    one_other front form known other h = by known h
      where
        own_puts : (number word : ℕ) → FitsModeWord netlist (Some mode) patterns (front ++ form ∷ []) v number word → FitsModeWord netlist (Some mode) patterns front v number word
        own_puts number word f = elim (Contains-append_cases front (form ∷ []) f.form f.among) as (λ _. FitsModeWord netlist (Some mode) patterns front v number word) [
          | inl among ↦ with_forms netlist (Some mode) patterns v (front ++ form ∷ []) front number word f among
          | inr own ↦ absurd (other (subst (Puts mode v) (sym (only form f.form own)) (subst (λ m. Puts m v f.form) (let e = f.is in let same : f.mode ≡ mode = cc in same) f.puts)))
        ]

        by : (o : Option ModeWord) → IsLeastModeWord netlist (Some mode) patterns front v o → IsLeastModeWord netlist (Some mode) patterns (front ++ form ∷ []) v o
        by None none = λ number word f. none number word (own_puts number word f)
        by (Some w) k = record {
          fits = with_forms netlist (Some mode) patterns v front (front ++ form ∷ []) w.pattern w.word k.fits (Contains-append_left front (form ∷ []) k.fits.form k.fits.among);
          least = λ number word f. k.least number word (own_puts number word f);
        }

    -- ---- where a form puts the number there is a word

    pub put_word : CanPut (Some mode) forms v → (number : ℕ) × (word : ℕ) × FitsModeWord netlist (Some mode) patterns forms v number word
    put_word p =
        let puts : Puts mode v p.form = can_put_at mode forms v p in
        let k = found_at forms p.form p.among in
        let put : IsPut p.form = put_form k.0 p.form k.1 puts in
        let told = setting_of_put mode v p.form puts in
        let w = word_of_put p.form puts put told.0 told.1 forms p.among in
        (p.form.pattern, w.0, w.1)

-- ---- the forms of a list, one after the other

module _ (netlist : Netlist) (order : List ℕ) (keeps : KeepsRules netlist order) (pool : List Node) (table : PatternTable) (each : All (IsPattern netlist) (row_patterns pool table.rows)) (told_file : table.file ≡ file_place netlist.storages)
    (mode : ℕ) (register : IsRegister (slice_get netlist.storages mode)) (edition : netlist.edition ≡ 1) (forms : List Form) (reach : ℕ) (list : AreFormModels netlist reach 0 (row_patterns pool table.rows) (models_of_forms forms)) (v : ℕ)
    (i : ℕ) (form : Form) (lt : i < length forms) (is : form ≡ get_or forms i form) where
  abbrev LeastOf : List FormModel → Option ModeWord → Type 0
  LeastOf models known = IsLeastModeWord netlist (Some mode) (row_patterns pool table.rows) models v known

  pub word_more : (known next : Option ModeWord) (bits : ℕ) → Puts mode v (model_of_form form) × (plain_setting (model_of_form form).value v ≡ Some bits)
      → LeastOf (models_of_forms (take i forms)) known → IsStepWord netlist pool table (record { pattern = form.pattern; setting = bits }) next
      → LeastOf (models_of_forms (take (i + 1) forms)) (lesser_of known next)
  word_more known next bits puts before step =
      let put = put_form netlist order keeps (row_patterns pool table.rows) each mode register reach (models_of_forms forms) list v i (model_of_form form) (listed forms i form lt is) puts.0 in
      subst (λ models. LeastOf models (lesser_of known next)) (sym (next_forms forms i form lt is))
      (one_more netlist order keeps (row_patterns pool table.rows) each mode register reach (models_of_forms forms) list v (model_of_form form) puts.0 put bits puts.1 pool table refl told_file edition
      (models_of_forms (take i forms)) known next before step)

  pub word_other : (known : Option ModeWord) → (Puts mode v (model_of_form form) → ⊥) → LeastOf (models_of_forms (take i forms)) known → LeastOf (models_of_forms (take (i + 1) forms)) known
  word_other known other before =
      subst (λ models. LeastOf models known) (sym (next_forms forms i form lt is))
      (one_other netlist order keeps (row_patterns pool table.rows) each mode register reach (models_of_forms forms) list v (models_of_forms (take i forms)) (model_of_form form) known other before)
