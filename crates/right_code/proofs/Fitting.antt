-- Each word of the code fits the netlist.
use Rattle.compaction.specs.Laws.{operation_in}
use Rattle.std.proofs.Common.{ℕ, zero, suc, ◌≡◌, ◌≤◌, ◌<◌, ◌+◌, ◌-◌, ◌&&◌, inl, inr, Bool, true, false, nat_lt, not, List, [], ◌∷◌, ◌++◌, length, Option, Some, refl, sym, ◌∙◌, ap, subst, arith, slice_get, slice_index, ◌^◌}
use Rattle.std.proofs.lemmas.Bool.{and_parts, cases_lt, cases_eq}
use Rattle.std.proofs.lemmas.List.{get_or_past}
use Rattle.net_model.specs.declared.hardware.Netlist.{Netlist}
use Rattle.net_model.specs.Widths.{WordFits}
use Rattle.net_model.specs.Patterns.{Pattern}
use Rattle.branch_fix.proofs.Words.{items_length}
use Rattle.code_model.specs.declared.image.Image.{Image}
use Rattle.code_model.specs.Places.{words_of}
use Rattle.form_model.specs.declared.flow.Flow.{Flow}
use Rattle.form_model.specs.declared.flow.Flow.TheVariants.{Assign, Test as Tested, Jump as Jumped, End as Ended}
use Rattle.form_model.specs.declared.forms.Step.{Step}
use Rattle.form_model.specs.Live.{Regs}
use Rattle.form_model.specs.Forms.{FormModel}
use Rattle.src_trees.specs.Lowered.{JobModel}
use Rattle.src_trees.specs.Blocks.{is_assign, is_entered, continues, IsAssignBlock}
use Rattle.branch_fix.specs.Parts.{room, starts, FitsPart, PartsFit}
use Rattle.branch_fix.specs.Items.{groups, behind, jump_form, part_items, items_from}
use Rattle.branch_fix.specs.declared.laid.Item.{Item}
use Rattle.branch_fix.specs.declared.laid.Item.TheVariants.{Group, Jump as Word}
use Rattle.branch_fix.specs.declared.part.LayoutPart.{LayoutPart}
use Rattle.branch_fix.specs.declared.part.LayoutPart.TheVariants.{Block, Inner, Test, Jump, End}
use Rattle.branch_fix.proofs.Addresses.{part_at, fit_length}
use Rattle.branch_fix.proofs.Laying.{settled_fit}
use Rattle.std.specs.List.{AllByRecursion}
use Rattle.rec_bits.proofs.Options.{same_Some}
use Rattle.rec_bits.proofs.Lists.{slice_get_past, slice_get_within, there, all_index, all_append}
use Rattle.net_model.specs.declared.hardware.Code.{Code}
use Rattle.net_model.specs.Nets.{code_bits}
use Rattle.form_model.specs.Effects.{Operation}
use Rattle.word_fit.specs.Fits.{fits_over}
use Rattle.word_fit.specs.Groups.{GroupsFit}
use Rattle.word_fit.proofs.Least.{all_fit as least_fits}
use Rattle.branch_fix.specs.Sections.{Section}
use Rattle.right_code.specs.Inner.Blocks.{IsKit, Kit, Machine}
use Rattle.right_code.specs.Inner.Laid.{AreSectionsReady, IsBlockReady, IsLaidCode, IsSectionReady}
use Rattle.right_code.specs.Words.{AreGroupWords, StandItems}
use Rattle.right_code.specs.FlowJobs.{IsTestJob, AreFlowJobs}
use Rattle.right_code.proofs.Tasks.{test_job_of}

-- ---- a block begins at a part of a block

pub stops : (flow : List Flow) (at : ℕ) → length flow ≤ at → continues flow at ≡ false
stops flow at l = rw (slice_get_past flow at l) (by (nat_lt 0 at) (is_assign (slice_get flow (at - 1))))
  where
    by : (a b : Bool) → (a && (b && false)) ≡ false
    by true true = refl
    by true false = refl
    by false b = refl

pub assign_there : (flow : List Flow) (at : ℕ) → continues flow at ≡ true → is_assign (slice_get flow at) ≡ true
assign_there flow at e =
    let p = and_parts (nat_lt 0 at) (is_assign (slice_get flow (at - 1)) && (is_assign (slice_get flow at) && not (is_entered flow at))) e in
    let q = and_parts (is_assign (slice_get flow (at - 1))) (is_assign (slice_get flow at) && not (is_entered flow at)) p.1 in
    (and_parts (is_assign (slice_get flow at)) (not (is_entered flow at)) q.1).0

below_suc : (P : ℕ → Type 0) (n : ℕ) → ((k : ℕ) → k < n → P k) → P n → (k : ℕ) → k < n + 1 → P k
below_suc P n f p k l = elim (cases_eq k n) as (λ _. P k) [
  | inl z ↦ subst P (sym z) p
  | inr z ↦ f k (omega (arith, z, l))
]

block_from : (flow : List Flow) (at fuel n : ℕ) → continues flow at ≡ false → 1 ≤ n → length flow ≤ at + n + fuel → ((k : ℕ) → k < n → is_assign (slice_get flow (at + k)) ≡ true) → ((k : ℕ) → k < n → 0 < k → continues flow (at + k) ≡ true)
    → (m : ℕ) × IsAssignBlock flow at m
block_from flow at zero n first some l assigns inner = (n, record { some = some; assigns = assigns; first = first; inner = inner; last = stops flow (at + n) (omega (arith, l)) })
block_from flow at (suc fuel) n first some l assigns inner =
    by (continues flow (at + n)) refl
    (λ e. block_from flow at fuel (n + 1) first (omega arith) (omega (arith, l)) (below_suc (λ k. is_assign (slice_get flow (at + k)) ≡ true) n assigns (assign_there flow (at + n) e))
    (below_suc (λ k. 0 < k → continues flow (at + k) ≡ true) n inner (λ z. e)))
  where
    by : (b : Bool) → continues flow (at + n) ≡ b → (continues flow (at + n) ≡ true → (m : ℕ) × IsAssignBlock flow at m) → (m : ℕ) × IsAssignBlock flow at m
    by true e more = more e
    by false e more = (n, record { some = some; assigns = assigns; first = first; inner = inner; last = e })

-- ---- words of items

-- ---- words of sections

pub word_in : (a b : Netlist) (w : ℕ) → a.codes ≡ b.codes → WordFits a w → WordFits b w
word_in a b w e h = record { fits = subst (λ (list : List Code). (code : ℕ) → 0 < code_bits (slice_get list code) → w < 2 ^ code_bits (slice_get list code)) e h.fits }

all_in : (a b : Netlist) (ws : List ℕ) → a.codes ≡ b.codes → AllByRecursion (WordFits a) ws → AllByRecursion (WordFits b) ws
all_in a b [] e h = tt
all_in a b (w ∷ ws) e h = (word_in a b w e h.0, all_in a b ws e h.1)

all_words : {A : Type 0} (netlist : Netlist) (m : A → Operation) (ws : List ℕ) (gs : List (List A)) (live : Regs) → GroupsFit m (fits_over netlist m) ws gs live → AllByRecursion (WordFits netlist) ws
all_words netlist m [] [] live f = tt
all_words netlist m [] (g ∷ gs) live f = absurd f
all_words netlist m (w ∷ ws) [] live f = absurd f
all_words netlist m (w ∷ ws) (g ∷ gs) live f = (f.0.clean.fits, all_words netlist m ws gs live f.1)

module _ (m : Machine) (kit : Kit) (are : IsKit m 0 kit) where
  codes_in : (v : ℕ) (other : Kit) → IsKit m v other → other.netlist.codes ≡ kit.netlist.codes
  codes_in v other is = is.base.codes ∙ sym are.base.codes

  ready_fit : (own : Kit) (jobs : List JobModel) (n : ℕ) (words : List ℕ) → IsBlockReady own.netlist m.netlist.special own.patterns own.stock jobs words n → AllByRecursion (WordFits own.netlist) words
  ready_fit own jobs n words r = all_words own.netlist (operation_in own.netlist own.patterns) words r.groups r.live (least_fits (operation_in own.netlist own.patterns) (fits_over own.netlist (operation_in own.netlist own.patterns)) r.live words r.groups r.least)

  section_fits : (v : ℕ) (jobs : List JobModel) (n : ℕ) (words : List ℕ) → IsSectionReady m kit v jobs n words → AllByRecursion (WordFits kit.netlist) words
  section_fits zero jobs n words r = ready_fit kit jobs n words r
  section_fits (suc v) jobs n words r =
      subst (AllByRecursion (WordFits kit.netlist)) (sym r.5) (
        r.6.clean.fits,
        all_append (WordFits kit.netlist) r.3 (r.4 ∷ []) (all_in r.0.netlist kit.netlist r.3 (codes_in (suc v) r.0 r.1) (ready_fit r.0 jobs n r.3 r.7)) (word_in r.0.netlist kit.netlist r.4 (codes_in (suc v) r.0 r.1) r.8.clean.fits, tt),
      )

  pub sections_fit : (sections : List Section) (words : List ℕ) → AreSectionsReady m kit sections words → AllByRecursion (WordFits kit.netlist) words
  sections_fit [] words r = subst (AllByRecursion (WordFits kit.netlist)) (sym r) tt
  sections_fit (x ∷ sections) words r = subst (AllByRecursion (WordFits kit.netlist)) (sym r.2) (all_append (WordFits kit.netlist) r.0 r.1 (section_fits x.mode x.jobs x.words r.0 r.3) (sections_fit sections r.1 r.4))

-- ---- words of items

module _ (netlist : Netlist) (special : Option ℕ) (patterns : List Pattern) (words : ℕ → List ℕ) where
  abbrev AreFitting : ℕ → ℕ → Type 0
  AreFitting block size = (k : ℕ) → k < size → WordFits netlist (slice_index (words block) k)

  least_fit : (block : ℕ) (gs : List (List Step)) (live : Regs) (size : ℕ) → AreGroupWords netlist patterns gs live (words block) → size ≡ length (words block) → AreFitting block size
  least_fit block gs live size p n = λ k l.
      (let m : length (words block) ≡ length gs = p.long in
      let g = there gs k (omega (arith, l, n, m)) in
      (p.least k g.0 g.1).is.clean.fits)

  abbrev ItemsFit : List Item → Type 0
  ItemsFit [] = Unit {0}
  ItemsFit (Group block at ∷ items) = WordFits netlist (slice_index (words block) at) × ItemsFit items
  ItemsFit (Word step ∷ items) = ItemsFit items

  fit_on : (xs ys : List Item) → ItemsFit xs → ItemsFit ys → ItemsFit (xs ++ ys)
  fit_on [] ys g h = h
  fit_on (Group block at ∷ xs) ys g h = (g.0, fit_on xs ys g.1 h)
  fit_on (Word step ∷ xs) ys g h = fit_on xs ys g h

  groups_fit : (block n i : ℕ) → AreFitting block (i + n) → ItemsFit (groups block i n)
  groups_fit block zero i f = tt
  groups_fit block (suc n) i f = (f i (omega arith), groups_fit block n (i + 1) (λ k l. f k (omega (arith, l))))

  behind_fit : (jump : Option FormModel) (next long : Bool) (to other : ℕ) → ItemsFit (behind jump next long to other)
  behind_fit jump next true to other = tt
  behind_fit jump true false to other = tt
  behind_fit jump false false to other = tt

  abbrev PartFits : LayoutPart → Type 0
  PartFits (Block block size) = AreFitting block size
  PartFits Inner = Unit {0}
  PartFits (Test f) = AreFitting f.block f.words
  PartFits (Jump to) = Unit {0}
  PartFits End = Unit {0}

  part_fits : (forms : List FormModel) (jump : Option FormModel) (addresses : List ℕ) (at : ℕ) (p : LayoutPart) → PartFits p → ItemsFit (part_items forms jump addresses at p)
  part_fits forms jump addresses at (Block block size) h = groups_fit block size 0 (λ k l. h k (omega (arith, l)))
  part_fits forms jump addresses at Inner h = tt
  part_fits forms jump addresses at (Test f) h =
      fit_on (groups f.block 0 f.words) (_ ∷ behind jump f.next f.long (slice_index addresses f.to) (slice_index addresses f.other)) (groups_fit f.block f.words 0 (λ k l. h k (omega (arith, l))))
      (behind_fit jump f.next f.long (slice_index addresses f.to) (slice_index addresses f.other))
  part_fits forms jump addresses at (Jump to) h = tt
  part_fits forms jump addresses at End h = tt

  items_fit : (forms : List FormModel) (jump : Option FormModel) (addresses : List ℕ) (at : ℕ) (parts : List LayoutPart) → ((k : ℕ) (p : LayoutPart) → slice_get parts k ≡ Some p → PartFits p) → ItemsFit (items_from forms jump addresses at parts)
  items_fit forms jump addresses at [] h = tt
  items_fit forms jump addresses at (p ∷ parts) h =
      fit_on (part_items forms jump addresses at p) (items_from forms jump addresses (at + room p) parts) (part_fits forms jump addresses at p (h 0 p refl))
      (items_fit forms jump addresses (at + room p) parts (λ k q e. h (suc k) q e))

  stand_fit : (code : List ℕ) (at : ℕ) (items : List Item) (a : ℕ) → ItemsFit items → StandItems netlist special patterns words code at items → a < length items → WordFits netlist (slice_index code (at + a))
  stand_fit code at [] a f s l = absurd (omega (arith, l))
  stand_fit code at (Group block i ∷ items) zero f s l = let z : at ≡ at + 0 = omega arith in subst (λ k. WordFits netlist (slice_index code k)) z (subst (WordFits netlist) (sym s.0) f.0)
  stand_fit code at (Word step ∷ items) zero f s l = let z : at ≡ at + 0 = omega arith in subst (λ k. WordFits netlist (slice_index code k)) z s.0.is.fits.clean.fits
  stand_fit code at (Group block i ∷ items) (suc a) f s l =
      let z : at + 1 + a ≡ at + suc a = omega arith in subst (λ k. WordFits netlist (slice_index code k)) z (stand_fit code (at + 1) items a f.1 s.1 (omega (arith, l)))
  stand_fit code at (Word step ∷ items) (suc a) f s l =
      let z : at + 1 + a ≡ at + suc a = omega arith in subst (λ k. WordFits netlist (slice_index code k)) z (stand_fit code (at + 1) items a f s.1 (omega (arith, l)))

  zero_fits : (w : ℕ) → WordFits netlist w → WordFits netlist 0
  zero_fits w h = record { fits = λ code some. let f = h.fits code some in omega (arith, f) }

  all_fit : (code : List ℕ) (items : List Item) → ItemsFit items → StandItems netlist special patterns words code 0 items → length code ≡ length items → 1 ≤ length items → (a : ℕ) → WordFits netlist (slice_index code a)
  all_fit code items f s n some a = elim (cases_lt a (length items)) as (λ _. WordFits netlist (slice_index code a)) [
    | inl l ↦ (let z : 0 + a ≡ a = omega arith in subst (λ k. WordFits netlist (slice_index code k)) z (stand_fit code 0 items a f s l))
    | inr l ↦ subst (WordFits netlist) (sym (get_or_past code a 0 (omega (arith, l, n)))) (zero_fits _ (stand_fit code 0 items 0 f s some))
  ]

-- a part that is a block begins one
begins : (forms : List FormModel) (flow : List Flow) (at : ℕ) (g : Flow) (block size : ℕ) → FitsPart forms flow at g (Block block size) → (continues flow at ≡ false) × (is_assign (Some g) ≡ true)
begins forms flow at (Assign tree) block size h = (h, refl)
begins forms flow at (Tested tree a b) block size h = absurd h
begins forms flow at (Jumped to) block size h = absurd h
begins forms flow at Ended block size h = absurd h

pub block_at : (forms : List FormModel) (flow : List Flow) (parts : List LayoutPart) (k block size : ℕ) → PartsFit forms flow 0 flow parts → slice_get parts k ≡ Some (Block block size) → (n : ℕ) × IsAssignBlock flow k n
block_at forms flow parts k block size fit e =
    let l : k < length parts = slice_get_within parts k (Block block size) e in
    let m : length parts ≡ length flow = fit_length forms flow 0 flow parts fit in
    let g = there flow k (omega (arith, l, m)) in
    let q = part_at forms flow 0 flow parts k k g.0 fit g.1 (omega arith) in
    let b = begins forms flow k g.0 block size (subst (λ x. FitsPart forms flow k g.0 x) (same_Some q.0 (Block block size) (sym q.1 ∙ e)) q.2) in
    block_from flow k (length flow) 1 b.0 (omega arith) (omega arith) (λ i h. let z : k ≡ k + i = omega (arith, h) in subst (λ j. is_assign (slice_get flow j) ≡ true) z (ap is_assign g.1 ∙ b.1)) (λ i h some. absurd (omega (arith, h, some)))

-- each word of the code fits
pub code_fits : (m : Machine) (kit : Kit) (are : IsKit m 0 kit) (image : Image) (flow : List Flow) (jobs : List JobModel) (parts : List LayoutPart) (reach : ℕ) → AreFlowJobs jobs flow → IsLaidCode m kit image flow jobs parts reach
    → 1 ≤ length (words_of image) → (a : ℕ) → WordFits kit.netlist (slice_index (words_of image) a)
code_fits m kit are image flow jobs parts reach tests laid some =
    let forms : List FormModel = kit.stock.forms in
    let fit : PartsFit kit.stock.forms flow 0 flow parts = settled_fit kit.stock.forms flow laid.layout.sizes laid.layout.branches parts laid.layout.settled in
    let n = laid.long in
    let items = items_length kit.stock.forms (jump_form kit.stock.forms reach) (starts parts) 0 parts in
    all_fit kit.netlist m.netlist.special kit.patterns laid.words (words_of image) (items_from kit.stock.forms (jump_form kit.stock.forms reach) (starts parts) 0 parts)
    (items_fit kit.netlist m.netlist.special kit.patterns laid.words kit.stock.forms (jump_form kit.stock.forms reach) (starts parts) 0 parts (λ k p e. by fit k p e)) laid.stand (n ∙ sym (items_length kit.stock.forms (jump_form kit.stock.forms reach) (starts parts) 0 parts)) (omega (arith, n, items, some))
  where
    by : PartsFit kit.stock.forms flow 0 flow parts → (k : ℕ) (p : LayoutPart) → slice_get parts k ≡ Some p → PartFits kit.netlist m.netlist.special kit.patterns laid.words p
    by fit k (Block block size) e =
        let b = block_at kit.stock.forms flow parts k block size fit e in
        let r = laid.blocks k b.0 block size b.1 e in
        let long : size ≡ length (laid.words block) = r.long in
        (λ i l. all_index (WordFits kit.netlist) (laid.words block) i (sections_fit m kit are r.sections (laid.words block) r.ready) (omega (arith, l, long)))
    by fit k Inner e = tt
    by fit k (Test f) e = let t : IsTestJob jobs f.tree = test_job_of jobs kit.stock.forms flow parts k f fit tests e in let r = laid.forks k f e t.job t.at in least_fit kit.netlist m.netlist.special kit.patterns laid.words f.block r.groups r.live f.words r.least r.long
    by fit k (Jump to) e = tt
    by fit k End e = tt
