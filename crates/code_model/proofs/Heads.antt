-- Where the checkpoints of the source follow for every number of them, the trace shows the source.
use Rattle.std.proofs.Common.{ℕ, ◌≡◌, ◌≤◌, ◌<◌, ◌+◌, ◌*◌, inl, inr, List, [], ◌∷◌, length, refl, sym, ◌∙◌, subst, arith}
use Rattle.net_model.specs.declared.hardware.Netlist.{Netlist}
use Rattle.net_model.specs.declared.states.State.{State}
use Rattle.code_model.specs.declared.image.Image.{Image}
use Rattle.code_model.proofs.Tracing.{Enough, Told, told, first_agree, paced_agree}
use Rattle.src_model.proofs.WayLemmas.{IsWhole, Whole, Steady, front}
use Rattle.src_model.specs.Ways.{Passed, Onward}
use Rattle.code_model.specs.Places.{words_of}
use Rattle.code_model.specs.Machine.{TraceEntry}
use Rattle.code_model.specs.Right.{IsPaced, ShowsBy}
use Rattle.code_model.specs.Inner.Flow.{FollowsBy}

pub enough_of : (n m : ℕ) (ps : List Passed) → n < m → IsWhole m ps → Enough n ps
enough_of n m ps lt (inl e) = inl (omega arith)
enough_of n m ps lt (inr e) = inr e

paced_more : (clocks a b : ℕ) (es : List TraceEntry) → a ≤ b → IsPaced clocks a es → IsPaced clocks b es
paced_more clocks a b [] le p = tt
paced_more clocks a b (e ∷ es) le p = (let q : e.cycle ≤ a = p.0 in omega arith, p.1)

pub shows_of : (store : State → List ℕ) (netlist : Netlist) (image : Image) (good : State → Type 0) (way : Onward) (s : State) (l : ℕ) → length (words_of image) ≡ l + 1 → ((m : ℕ) → Whole m way) → ((m : ℕ) → Steady m way) →
    ((m : ℕ) → FollowsBy store netlist image good l l s (way m (store s))) → (m : ℕ) → ShowsBy store netlist image (λ cells j. way j cells) s m
shows_of store netlist image good way s l long wholes steady follows m =
    let n : ℕ = m * length (words_of image) in
    let cells : List ℕ = store s in
    let far : ℕ = m + (m * length (words_of image) + 1) in
    let whole : IsWhole far (way far cells) = wholes far far (omega arith) cells in
    let h : Told store netlist image l l s 0 n (way far cells) = told store netlist image good l (way far cells) l s 0 n (follows far) (enough_of n far (way far cells) (omega arith) whole) in
    record {
      entries = h.entries;
      traced = h.traced;
      passed =
          first_agree l m (0 + l) (0 + n) (way far cells) h.entries (in_time m l (length (words_of image)) long) h.agrees
          ∙ front way steady (m * length (words_of image) + 1) m far refl cells;
      paced =
          subst (λ (x : ℕ). IsPaced x x h.entries) (sym long)
          (paced_more (l + 1) (0 + l) (l + 1) h.entries (omega arith) (paced_agree l (0 + l) (0 + n) (way far cells) h.entries h.agrees));
    }
  where
    in_time : (m l clocks : ℕ) → clocks ≡ l + 1 → 0 + l + m * (l + 1) ≤ 0 + m * clocks + (l + 1)
    in_time m l clocks e = subst (λ (x : ℕ). 0 + l + m * (l + 1) ≤ 0 + m * x + (l + 1)) (sym e) (omega arith)
