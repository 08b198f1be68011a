-- What is known at a mark without its hints.
use Rattle.std.proofs.Common.{◌≡◌, ◌≢◌, ◌∙◌, ap, ℕ, zero, suc, ◌<◌, ◌≤◌, inl, inr, Bool, true, false, List, [], ◌∷◌, length, Option, sym, refl, subst, slice_index, arith}
use Rattle.net_model.specs.declared.states.State.{State}
use Rattle.sym_expr.specs.declared.pool.Node.{Node}
use Rattle.tree_laws.specs.declared.classes.Classes.{Classes}
use Rattle.tree_laws.specs.Classes.{cell_bits}
use Rattle.tree_laws.specs.Equal.{CellsFit}
use Rattle.sym_run.specs.declared.known.Cell.{Cell}
use Rattle.sym_run.specs.declared.known.Cell.TheVariants.{Unknown, Kept, Array, Is}
use Rattle.sym_run.specs.declared.known.Element.{Element}
use Rattle.sym_run.specs.declared.known.Put.{Put}
use Rattle.sym_run.proofs.PutLemmas.{arrays_start}
use Rattle.class_values.specs.declared.facts.Fact.{Fact}
use Rattle.class_values.specs.Values.{AreFacts}
use Rattle.sym_run.specs.Known.{ArraysStand, AreInside, CellStands, FileStands, HoldsOf, cell_at, entry}
use Rattle.sym_run.specs.Moves.{AreUnknown}
use Rattle.mark_start.specs.declared.hints.Spot.{Spot}
use Rattle.mark_start.specs.declared.run.Start.{Start}
use Rattle.mark_start.specs.Marked.{AreViewless, IsInArrays, SpotsSeen, SpotsWithin}
use Rattle.mark_start.specs.Runs.{AreStartCells, ArraysIn, IsStartCell, IsStore, Stands, room_of}

pub within_more : (spots : List Spot) (n m : ℕ) → n ≤ m → SpotsWithin n spots → SpotsWithin m spots
within_more [] n m le h = tt
within_more (spot ∷ spots) n m le h = (let a = h.0 in omega (arith, le, a), within_more spots n m le h.1)

inside : (spots : List Spot) (n a : ℕ) → SpotsWithin n spots → IsInArrays spots a → a < n
inside [] n a h i = absurd i
inside (spot ∷ spots) n a h (inl i) = (let w = i.within in let e = h.0 in omega (arith, w, e))
inside (spot ∷ spots) n a h (inr i) = inside spots n a h.1 i

pub arrays_in : (spots : List Spot) (machine : Bool) (room : ℕ) (cells : List Cell) → AreStartCells spots machine room cells → AreViewless spots → SpotsWithin room spots → ArraysIn spots cells
arrays_in spots machine room cells h v w a i = h.arrays v a (inside spots room a w i) i

-- of a cell of which something is known, the address is below the room
known_within : (cells : List Cell) (a : ℕ) → cell_at cells a ≢ Unknown → a < length cells
known_within [] a h = absurd (h refl)
known_within (c ∷ cells) zero h = omega arith
known_within (c ∷ cells) (suc a) h = (let p = known_within cells a h in omega (arith, p))

machine_cell : (t : Classes) (pool : List Node) (spots : List Spot) (s : State) (cells memory : List ℕ) → SpotsSeen pool spots s cells → (a : ℕ) (cell : Cell) → (cell ≢ Unknown → slice_index memory a ≡ slice_index cells a)
    → IsStartCell spots true a cell → CellStands t memory cell (slice_index s.cells a) (slice_index memory a)
machine_cell t pool spots s cells memory seen a Unknown old h = tt
machine_cell t pool spots s cells memory seen a Kept old h = h refl pool s cells seen ∙ sym (old (λ e. absurd (cc e)))
machine_cell t pool spots s cells memory seen a Array old h = tt
machine_cell t pool spots s cells memory seen a (Is c) old h = absurd h

told_array : (cell : Cell) → cell ≡ Array → cell ≢ Unknown
told_array cell e f = (let g : Array ≡ Unknown = sym e ∙ f in absurd (cc g))

array_kept : (pool : List Node) (spots : List Spot) (s : State) (cells : List ℕ) → SpotsSeen pool spots s cells → (a : ℕ) (cell : Cell) → cell ≡ Array → IsStartCell spots true a cell → slice_index s.cells a ≡ slice_index cells a
array_kept pool spots s cells seen a cell e h = subst (λ (x : Cell). IsStartCell spots true a x) e h pool s cells seen

own_cell : (t : Classes) (memory : List ℕ) (spots : List Spot) (a n : ℕ) (cell : Cell) → (cell ≢ Unknown → slice_index memory a ≡ n) → IsStartCell spots false a cell → CellStands t memory cell n (slice_index memory a)
own_cell t memory spots a n Unknown old h = tt
own_cell t memory spots a n Kept old h = sym (old (λ e. absurd (cc e)))
own_cell t memory spots a n Array old h = tt
own_cell t memory spots a n (Is c) old h = absurd h

pub start_stands : (start : Start) (spots : List Spot) → spots ≡ start.from.now.spots → (room : ℕ) → ((n : ℕ) → start.temps ≤ n → SpotsWithin n spots → room ≤ n) → room ≡ room_of start.temps spots
    → (registers : ℕ) (facts : List Fact) (regs : List (Option ℕ)) (cells : List Cell) (near : List Element) (none : List (Option ℕ)) (kept : List Cell) (far : List Element) (near_puts far_puts : List Put) (file none_filed : List (Option ℕ))
    → facts ≡ [] → AreUnknown registers regs → AreStartCells spots true room cells → near ≡ [] → none ≡ [] → AreStartCells spots false room kept → far ≡ [] → near_puts ≡ [] → far_puts ≡ [] → AreUnknown start.file_cells file → none_filed ≡ []
    → (table : Classes) (s : State) (own_cells memory : List ℕ) → cell_bits table ≡ start.word → IsStore start s own_cells memory
    → Stands table (record { facts = facts; machine = record { regs = regs; cells = cells; inside = near; puts = near_puts; file = file }; vars = record { regs = none; cells = kept; inside = far; puts = far_puts; file = none_filed } }) memory s own_cells
start_stands start spots same room least is registers facts regs cells near none kept far near_puts far_puts file none_filed no_facts no_regs are no_near no_none own no_far no_near_puts no_far_puts no_file no_filed table s own_cells memory bits st =
    let m = st.mark in
    let fits : CellsFit (cell_bits table) memory = subst (λ w. CellsFit w memory) (sym bits) st.fits in
    let seen = subst (λ (xs : List Spot). SpotsSeen start.pool.now xs s own_cells) (sym same) m.hinted.seen in
    let n = are.count in
    let k = own.count in
    let long = least (length s.cells) m.machine_temps (subst (SpotsWithin (length s.cells)) (sym same) m.machine_within) in
    let wide = least (length own_cells) m.temps (subst (SpotsWithin (length own_cells)) (sym same) m.within) in
    let end : room ≡ room_of start.temps start.from.now.spots = is ∙ ap (room_of start.temps) same in
    let near_old : (a : ℕ) → cell_at cells a ≢ Unknown → slice_index memory a ≡ slice_index own_cells a = λ a h. st.kept a (let p = known_within cells a h in omega (arith, p, n, end)) in
    let far_old : (a : ℕ) → cell_at kept a ≢ Unknown → slice_index memory a ≡ slice_index own_cells a = λ a h. st.kept a (let p = known_within kept a h in omega (arith, p, k, end)) in
    record {
      facts = subst (AreFacts table memory) (sym no_facts) tt;
      machine = record {
        fits = fits;
        room = omega (arith, n, long);
        regs = λ r. subst (λ o. HoldsOf table memory o (slice_index s.regs r)) (sym (no_regs.none r)) tt;
        cells = λ a. machine_cell table start.pool.now spots s own_cells memory seen a (cell_at cells a) (near_old a) (are.are a);
        inside = subst (AreInside table memory cells) (sym no_near) tt;
        arrays = subst (λ (ps : List Put). ArraysStand table memory cells ps s.cells) (sym no_near_puts)
            (arrays_start table memory cells s.cells (λ a e. array_kept start.pool.now spots s own_cells seen a (cell_at cells a) e (are.are a) ∙ sym (near_old a (told_array (cell_at cells a) e))));
        file = record {
          there = (let l = no_file.long in let f = m.file_there in omega (arith, l, f));
          are = λ a. subst (λ o. HoldsOf table memory o (slice_index s.file a)) (sym (no_file.none a)) tt;
        };
      };
      vars = record {
        fits = fits;
        room = omega (arith, k, wide);
        regs = λ r. subst (λ (xs : List (Option ℕ)). HoldsOf table memory (entry xs r) (slice_index [] r)) (sym no_none) tt;
        cells = λ a. own_cell table memory spots a (slice_index own_cells a) (cell_at kept a) (far_old a) (own.are a);
        inside = subst (AreInside table memory kept) (sym no_far) tt;
        arrays = subst (λ (ps : List Put). ArraysStand table memory kept ps own_cells) (sym no_far_puts)
            (arrays_start table memory kept own_cells (λ a e. sym (far_old a (told_array (cell_at kept a) e))));
        file = subst (λ (xs : List (Option ℕ)). FileStands table memory xs []) (sym no_filed) (record { there = omega arith; are = λ a. tt });
      };
    }
