-- The steps of an orderly cover leave the tree's value at its aim.
use Rattle.std.proofs.Common.{◌≡◌, ℕ, ◌+◌, ◌<◌, ◌≤◌, true, List, Option, length, slice_index, slice_set, refl, sym, ap, ◌∙◌, subst, arith}
use Rattle.std.proofs.lemmas.List.{get_or-set_same, get_or-set_other, length-set}
use Rattle.net_model.specs.declared.states.State.{State}
use Rattle.net_model.specs.Exprs.{ExprModel}
use Rattle.net_model.specs.Meaning.{mean}
use Rattle.net_model.specs.Patterns.{Pattern}
use Rattle.form_model.specs.declared.forms.Step.{Step}
use Rattle.form_model.specs.Forms.{DestinationModel, into, filed, cell, stored, temporary, tested}
use Rattle.form_model.specs.CoverModels.{CoverModel, use_form}
use Rattle.form_model.specs.Covers.{StockModel, need, IsOrderly}
use Rattle.form_model.specs.Effects.{operation_of, steps_effect}
use Rattle.form_model.specs.Steps.{cut_count, cell_of, operand_homes, form_at, match_at, cover_cut_cells, own_steps, cut_steps, cover_steps, branch_setting}
use Rattle.emit_seq.specs.Formed.{AreFormed}
use Rattle.emit_seq.specs.Leaves.{placed, IsCoverStart, IsOfJob, LeaveValue}
use Rattle.emit_seq.proofs.Walks.{effect-steps, IsLocal, IsKept, kept_local}
use Rattle.emit_seq.proofs.Opened.{IsOpened, opened_cover}
use Rattle.emit_seq.proofs.Forms.{OwnBelow, test_means}
use Rattle.emit_seq.proofs.FreeCells.{all_free}
use Rattle.emit_seq.proofs.Works.{CoverHolds, IsDone, IsGood, good_cover}

module _ (stock : StockModel) (file_storage : Option ℕ) (patterns : List Pattern) (count : ℕ) (formed : AreFormed file_storage patterns count stock.file stock.forms) where
  -- after the steps for the cuts and those of the operands, the form's own step is left
  record IsBrought (destination : DestinationModel) (tree : ExprModel) (cover : CoverModel) (s : State) : Type 0 where
    mid : State
    regs : length mid.regs ≡ length s.regs
    cells : length mid.cells ≡ length s.cells
    file : length mid.file ≡ length s.file
    same : (c : ℕ) → stock.temps ≤ c → slice_index mid.cells c ≡ slice_index s.cells c
    holds : CoverHolds stock file_storage patterns s cover 0 0 destination tree true mid
    ends : steps_effect (operation_of file_storage patterns) (cover_steps stock destination tree cover) s ≡ placed s mid destination (0 + cut_count cover) (cell_of stock cover 0) (mean tree s 0)

  brought : (destination : DestinationModel) (tree : ExprModel) (cover : CoverModel) (s : State) → IsOrderly stock destination tree true cover → need stock.forms cover ≤ stock.file → cut_count cover ≤ stock.temps → IsCoverStart stock count destination tree s
      → OwnBelow destination (0 + cut_count cover) stock.temps → IsBrought destination tree cover s
  brought destination tree cover s c room f h o =
      let g : IsGood stock file_storage patterns s cover = good_cover stock file_storage patterns s count formed (sym h.regs) h.temps h.file cover in
      let inside : List Step = cut_steps stock cover 0 destination tree true in
      let own : List Step = own_steps stock cover 0 0 destination tree true in
      let k : IsKept stock.temps s s = record { regs = refl; cells = refl; file = refl; same = λ e l. refl } in
      let t : State = steps_effect (operation_of file_storage patterns) inside s in
      let l : IsLocal 0 (0 + cut_count cover) s t = g.quiet 0 destination tree true c h.reads h.aim_reads (omega (arith, f)) s k in
      let kt : IsKept stock.temps s t = kept_local stock.temps s 0 (0 + cut_count cover) s t (omega (arith, f)) k l in
      let d : IsDone stock file_storage patterns s cover 0 0 destination tree true t = g.works 0 0 destination tree true c (let all = all_free stock.file in omega (arith, all, room)) h.reads h.aim_reads (omega (arith, f)) o t kt s k (λ e lo hi. refl) in
      record {
        mid = d.mid;
        regs = d.regs ∙ kt.regs;
        cells = ap length d.cells ∙ kt.cells;
        file = d.file ∙ kt.file;
        same = λ e b. ap (λ z. slice_index z e) d.cells ∙ kt.same e b;
        holds = d.holds;
        ends = effect-steps (operation_of file_storage patterns) inside own s ∙ d.ends;
      }

  -- a value put into a cell
  record IsPut (s t : State) (a v : ℕ) : Type 0 where
    value : slice_index t.cells a ≡ v
    others : (c : ℕ) → stock.temps ≤ c → (c ≡ a → ⊥) → slice_index t.cells c ≡ slice_index s.cells c
    regs : length t.regs ≡ length s.regs
    cells : length t.cells ≡ length s.cells
    file : length t.file ≡ length s.file

  put_into : (s mid t : State) (a v : ℕ) → t ≡ record mid { cells = slice_set mid.cells a v } → length mid.regs ≡ length s.regs → length mid.cells ≡ length s.cells → length mid.file ≡ length s.file
      → ((c : ℕ) → stock.temps ≤ c → slice_index mid.cells c ≡ slice_index s.cells c) → a < length s.cells → IsPut s t a v
  put_into s mid t a v e r l fl same w =
      subst (λ z. IsPut s z a v) (sym e) (record {
        value = get_or-set_same mid.cells a v 0 (omega (arith, w, l));
        others = λ c b n. get_or-set_other mid.cells a c v 0 n ∙ same c b;
        regs = r;
        cells = length-set mid.cells a v ∙ l;
        file = fl;
      })

  -- the steps of an orderly cover of at most as many cuts as there are temporary cells leave the
  -- value of its tree
  pub leave_value : (destination : DestinationModel) (tree : ExprModel) (cover : CoverModel) (s : State) → IsOfJob destination → IsOrderly stock destination tree true cover → need stock.forms cover ≤ stock.file → cut_count cover ≤ stock.temps
      → IsCoverStart stock count destination tree s → LeaveValue stock file_storage patterns destination tree cover s
  leave_value (cell a) tree cover s j c room f h =
      let b : IsBrought (cell a) tree cover s = brought (cell a) tree cover s c room f h tt in
      let p : IsPut s (steps_effect (operation_of file_storage patterns) (cover_steps stock (cell a) tree cover) s) a (mean tree s 0) = put_into s b.mid _ a (mean tree s 0) b.ends b.regs b.cells b.file b.same h.aim in
      record { value = p.value; others = p.others; regs = p.regs; cells = p.cells; file = p.file }
  leave_value (stored at) tree cover s j c room f h =
      let b : IsBrought (stored at) tree cover s = brought (stored at) tree cover s c room f h tt in
      let p : IsPut s (steps_effect (operation_of file_storage patterns) (cover_steps stock (stored at) tree cover) s) (mean at s 0) (mean tree s 0) =
      put_into s b.mid _ (mean at s 0) (mean tree s 0) b.ends b.regs b.cells b.file b.same h.aim in
      record { value = p.value; others = p.others; regs = p.regs; cells = p.cells; file = p.file }
  leave_value tested tree (use_form k ps cs) s j c room f h =
      let b : IsBrought tested tree (use_form k ps cs) s = brought tested tree (use_form k ps cs) s c room f h tt in
      let w : IsOpened stock k ps cs tested tree true = opened_cover stock k ps cs tested tree true c in
      let e : mean (form_at stock k).value b.mid (branch_setting stock tree (use_form k ps cs)) ≡ mean tree s 0 =
      test_means stock.temps stock.file s b.mid b.same file_storage patterns count (form_at stock k) (form_at stock k).goal tree true (match_at stock k tested tree true)
      (cover_cut_cells (match_at stock k tested tree true).leaves ps cs 0) (operand_homes stock ps 0) (0 + cut_count (use_form k ps cs)) (cell_of stock (use_form k ps cs) 0) (formed k (form_at stock k) w.listed) w.takes h.reads b.holds in
      record {
        value = ap (λ (z : State). mean (form_at stock k).value z (branch_setting stock tree (use_form k ps cs))) b.ends ∙ e;
        others = λ q l n. ap (λ (z : State). slice_index z.cells q) b.ends ∙ b.same q l;
        regs = ap (λ (z : State). length z.regs) b.ends ∙ b.regs;
        cells = ap (λ (z : State). length z.cells) b.ends ∙ b.cells;
        file = ap (λ (z : State). length z.file) b.ends ∙ b.file;
      }
  leave_value (into id) tree cover s j c room f h = absurd j
  leave_value filed tree cover s j c room f h = absurd j
  leave_value temporary tree cover s j c room f h = absurd j
