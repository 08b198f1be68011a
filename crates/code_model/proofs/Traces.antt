-- Where the checkpoints of the source follow for every number of them, and each state at a mark is
-- in mode 0, the trace is that of the source.
use Rattle.std.proofs.Common.{ℕ, suc, ◌≡◌, ◌+◌, List, length, Some, arith}
use Rattle.net_model.specs.declared.hardware.Netlist.{Netlist}
use Rattle.net_model.specs.declared.states.State.{State}
use Rattle.net_model.specs.Clock.{run, Reached}
use Rattle.src_model.specs.declared.checkpoint.Checkpoint.{Checkpoint}
use Rattle.src_model.specs.declared.checkpoint.Checkpoint.TheVariants.{End}
use Rattle.src_model.specs.Ways.{Onward}
use Rattle.src_model.proofs.WayLemmas.{IsWhole, Whole, Steady}
use Rattle.code_model.specs.declared.image.Image.{Image}
use Rattle.code_model.specs.Places.{words_of}
use Rattle.code_model.specs.Machine.{label_in, IsCalm, IsRestful, store_in}
use Rattle.code_model.specs.Right.{TracesBy, TracesRight}
use Rattle.code_model.specs.Inner.Flow.{FollowsBy, RestsBy, Follows, Rests}
use Rattle.code_model.proofs.Heads.{enough_of, shows_of}
use Rattle.code_model.proofs.Marks.{marks_good, stays_good, StaysGood}

pub traces_by : (store : State → List ℕ) (netlist : Netlist) (image : Image) (way : Onward) (l : ℕ) → length (words_of image) ≡ l + 1
    → ((m : ℕ) → Whole m way) → ((m : ℕ) → Steady m way)
    → ((s : State) → IsRestful netlist s → label_in netlist image s ≡ Some End → RestsBy store netlist image (IsRestful netlist) s)
    → ((s : State) → IsCalm netlist 0 s → (m : ℕ) → FollowsBy store netlist image (IsRestful netlist) l l s (way m (store s)))
    → TracesBy store netlist image (λ cells j. way j cells)
traces_by store netlist image way l long wholes steady rests follows = record {
  shows = λ s here m. shows_of store netlist image (IsRestful netlist) way s l long wholes steady (follows s here) m;
  calm = at_marks;
  stays = λ s t here k r e n.
      let h : IsRestful netlist t = at_marks s t here k r End e in
      let g : StaysGood netlist image store (IsRestful netlist) rests t 0 n = stays_good netlist image store (IsRestful netlist) rests n 0 t h e in
      record { last = g.last; runs = g.runs; same = g.same; mode = g.holds.mode };
}
  where
    at_marks : (s t : State) → IsCalm netlist 0 s → (k : ℕ) → run netlist (words_of image) s k ≡ Reached t → (x : Checkpoint) → label_in netlist image t ≡ Some x → IsRestful netlist t
    at_marks s t here k r x e =
        let far : ℕ = suc k in
        let whole : IsWhole far (way far (store s)) = wholes far far (omega arith) (store s) in
        marks_good netlist image store (IsRestful netlist) rests (way far (store s)) l l k 0 s t (follows s here far) (enough_of k far (way far (store s)) (omega arith) whole) r x e

-- of the store at the places
pub traces_right : (netlist : Netlist) (image : Image) (way : Onward) (l : ℕ) → length (words_of image) ≡ l + 1
    → ((m : ℕ) → Whole m way) → ((m : ℕ) → Steady m way)
    → ((s : State) → IsRestful netlist s → label_in netlist image s ≡ Some End → Rests netlist image (IsRestful netlist) s)
    → ((s : State) → IsCalm netlist 0 s → (m : ℕ) → Follows netlist image (IsRestful netlist) l l s (way m (store_in image s)))
    → TracesRight netlist image (λ cells j. way j cells)
traces_right netlist image way l long wholes steady rests follows =
    traces_by (store_in image) netlist image way l long wholes steady rests follows
