-- What a program's statements keep of a store.
use Rattle.std.proofs.Common.{ℕ, ◌≡◌, ◌<◌, ◌+◌, ◌%◌, ◌^◌, ◌==◌, true, List, [], ◌∷◌, Option, Some, None, ◌∙◌, subst, arith, slice_set, eq-eqb}
use Rattle.std.proofs.lemmas.List.{length-set, get_or-set_same, get_or-set_other}
use Rattle.std.proofs.Math.Nat.{mod-eq_of_lt}
use Rattle.std.proofs.lemmas.Bool.{ltb-true}
use Rattle.rec_bits.proofs.Booleans.{both}
use Rattle.rec_bits.proofs.Lists.{set_below}
use Rattle.src_model.specs.declared.program.Var.{Var as Declared}
use Rattle.src_model.specs.Written.{SrcExprModel, SpotModel, node_at}
use Rattle.src_model.specs.Names.{declared, is_plain}
use Rattle.src_model.specs.Loops.{Round, place_shape}
use Rattle.src_model.specs.Meaning.{FitsStore, shape_value, index_value, assigned, cells_in, first_cell}
use Rattle.src_model.specs.Trace.{counter_value, started, stepped, counting}
use Rattle.src_model.specs.Inside.{Known, is_inside}
use Rattle.src_model.specs.Inner.Sound.{Counts, Holds, Turns, Frees, SoundAssign, SoundCount}
use Rattle.src_model.proofs.CellLemmas.{first_within, cells_apart, plain_var, array_var}
use Rattle.src_model.proofs.ValueLemmas.{value_fits}

fits_set : (bits : ℕ) (vars : List Declared) (cells : List ℕ) (at v : ℕ) → FitsStore bits vars cells → v < 2 ^ bits → FitsStore bits vars (slice_set cells at v)
fits_set bits vars cells at v f lt = record { all_cells = length-set cells at v ∙ f.all_cells; below = set_below (2 ^ bits) cells at v f.below lt }

-- the variable of a place, and that its cell is one of it
spot : (bits : ℕ) (vars : List Declared) (cells : List ℕ) (name : List ℕ) (at : ℕ) (index : Option SrcExprModel) → Known vars (node_at name at index) → is_inside bits vars cells (node_at name at index) ≡ true
    → (v : Declared) × (declared vars name ≡ Some v) × (index_value bits vars cells index < cells_in v)
spot bits vars cells name at None k i = plain_var (declared vars name) k
spot bits vars cells name at (Some x) k i = array_var (declared vars name) _ k.0 (ltb-true _ _ (both (is_inside bits vars cells x.shape) _ i).1)

-- a cell of a variable that is no counter
counts_set : (vars : List Declared) (cells : List ℕ) (name : List ℕ) (v : Declared) (i n : ℕ) → declared vars name ≡ Some v → i < cells_in v → (rounds : List Round) → Frees rounds name → Counts vars cells rounds
    → Counts vars (slice_set cells (first_cell vars name + i) n) rounds
counts_set vars cells name v i n d lt [] free c = tt
counts_set vars cells name v i n d lt (round ∷ outer) free c =
    let w = plain_var (declared vars round.counter) c.0.plain in
    let other : first_cell vars round.counter ≡ first_cell vars name + i → ⊥ =
    (λ e. cells_apart vars name round.counter v w.0 i 0 d w.1 free.0 lt w.2 (omega (arith, e))) in
    let same : counter_value vars round.counter (slice_set cells (first_cell vars name + i) n) ≡ counter_value vars round.counter cells = get_or-set_other cells (first_cell vars name + i) (first_cell vars round.counter) n 0 other in
    let a = c.0.least in
    let b = c.0.most in
    (record { plain = c.0.plain; least = omega (arith, a, same); most = omega (arith, b, same) }, counts_set vars cells name v i n d lt outer free.1 c.1)

module _ (bits : ℕ) (vars : List Declared) (rounds : List Round) where
  pub assign_holds : (place : SpotModel) (e : SrcExprModel) (cells : List ℕ) → SoundAssign bits vars rounds place e → is_inside bits vars cells (place_shape place) ≡ true → Holds bits vars rounds cells → Holds bits vars rounds (assigned bits vars place e cells)
  assign_holds place e cells f i h =
      let v = spot bits vars cells place.name place.at place.index f.left.known i in
      record {
        fits = fits_set bits vars cells _ _ h.fits (subst (λ n. shape_value bits vars cells bits e.shape < 2 ^ n) f.width (value_fits bits vars cells h.fits.below bits e.shape f.right.fits));
        counts = counts_set vars cells place.name v.0 (index_value bits vars cells place.index) _ v.1 v.2 rounds f.free h.counts;
      }

  -- a cell of the counter itself
  counter_set : (counter : List ℕ) (v n : ℕ) (cells : List ℕ) → v < 2 ^ bits → is_plain (declared vars counter) ≡ true → Frees rounds counter → Holds bits vars rounds cells
      → Holds bits vars rounds (slice_set cells (first_cell vars counter) v) × (counter_value vars counter (slice_set cells (first_cell vars counter) v) ≡ v)
  counter_set counter v n cells lt plain free h =
      let d = plain_var (declared vars counter) plain in
      let w = first_within vars counter d.0 d.1 in
      let all = h.fits.all_cells in
      let zero_on : first_cell vars counter + 0 ≡ first_cell vars counter = omega arith in (
        record {
          fits = fits_set bits vars cells _ _ h.fits lt;
          counts = subst (λ k. Counts vars (slice_set cells k v) rounds) zero_on (counts_set vars cells counter d.0 0 v d.1 d.2 rounds free h.counts);
        },
        get_or-set_same cells (first_cell vars counter) v 0 (omega (arith, w, all, d.2)),
      )

  module _ (counter : List ℕ) (from to : ℕ) (f : SoundCount bits vars rounds counter from to) where
    pub start_turns : (cells : List ℕ) → Holds bits vars rounds cells → Turns bits vars rounds counter from to (started vars counter from cells)
    start_turns cells h =
        let o = f.fits.order in
        let b = f.fits.below in
        let s = counter_set counter from 0 cells (omega (arith, o, b)) f.plain f.free h in
        let e = s.1 in
        record { holds = s.0; least = omega (arith, e); most = omega (arith, e, o) }

    pub turn_holds : (cells : List ℕ) → Turns bits vars rounds counter from to cells → counting vars counter to cells ≡ true → Holds bits vars (record { counter = counter; from = from; to = to } ∷ rounds) cells
    turn_holds cells t e =
        let a = t.least in
        let b = t.most in
        let ne : counter_value vars counter cells ≡ to + 1 → ⊥ = (λ s. let k : (counter_value vars counter cells == to + 1) ≡ true = eq-eqb _ _ s in absurd (cc)) in
        record { fits = t.holds.fits; counts = (record { plain = f.plain; least = a; most = omega arith }, t.holds.counts) }

    pub step_turns : (cells : List ℕ) → Holds bits vars (record { counter = counter; from = from; to = to } ∷ rounds) cells → Turns bits vars rounds counter from to (stepped bits vars counter cells)
    step_turns cells h =
        let a = h.counts.0.least in
        let b = h.counts.0.most in
        let c = f.fits.below in
        let m : (counter_value vars counter cells + 1) % 2 ^ bits ≡ counter_value vars counter cells + 1 = mod-eq_of_lt (let lt : counter_value vars counter cells + 1 < 2 ^ bits = omega (arith, b, c) in lt) in
        let s = counter_set counter ((counter_value vars counter cells + 1) % 2 ^ bits) 0 cells (omega (arith, b, c, m)) f.plain f.free (record { fits = h.fits; counts = h.counts.1 }) in
        let e = s.1 in
        record { holds = s.0; least = omega (arith, e, m, a); most = omega (arith, e, m, b) }
