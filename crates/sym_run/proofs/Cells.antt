-- Classes of registers and of cells.
use Rattle.std.proofs.Common.{◌≡◌, inl, inr, ℕ, ◌<◌, List, [], ◌∷◌, length, get_or, zero, suc, Some, ◌∙◌, sym, ap, refl, subst, slice_get, slice_index, arith}
use Rattle.net_model.specs.declared.states.State.{State}
use Rattle.sym_expr.specs.declared.pool.Node.TheVariants.{Read}
use Rattle.tree_laws.specs.declared.classes.Classes.{Classes}
use Rattle.tree_laws.specs.Classes.{Grows, NodeStands, TableMeans, width_in}
use Rattle.sym_run.specs.declared.known.Element.{Element}
use Rattle.class_values.specs.declared.facts.Fact.{Fact}
use Rattle.sym_run.specs.declared.known.Known.{Known}
use Rattle.sym_run.specs.declared.known.Cell.{Cell}
use Rattle.sym_run.specs.declared.known.Cell.TheVariants.{Kept, Array, Is}
use Rattle.class_values.specs.Values.{AreFacts, AreSame, HasNumber, Holds}
use Rattle.sym_run.specs.Known.{AreInside, CellStands, HoldsOf, StandsFor, cell_at, cell_of, entry, entry_of}
use Rattle.sym_run.specs.Reading.{IsCell}
use Rattle.sym_run.specs.Inner.Reading.{IsAlias, IsFileCell, IsOfWidth, IsReg}
use Rattle.class_values.proofs.Grown.{stands_below, stands_width}
use Rattle.class_values.proofs.Keeping.{grows_same, holds_kept}
use Rattle.class_values.proofs.Made.{same_holds}

pub has_at : (t : Classes) (class : ℕ) (elements : List Element) (k : ℕ) (d : Element) → k < length elements → AreSame t class (get_or elements k d).class → IsAlias t elements class (get_or elements k d).like
has_at t class [] k d l s = absurd (omega arith)
has_at t class (e ∷ es) zero d l s = inl (s, refl)
has_at t class (e ∷ es) (suc k) d l s = inr (has_at t class es k d (omega arith) s)

-- the classes' value is the address of an array's cell
pub record IsReadAs (t : Classes) (memory : List ℕ) (cells : List Cell) (class like : ℕ) : Type 0 where
  pub address : ℕ
  pub holds : Holds t memory class address
  pub alike : Holds t memory like address
  pub array : cell_at cells address ≡ Array

pub find_inside : (t : Classes) (memory : List ℕ) (cells : List Cell) (elements : List Element) (class like : ℕ) → IsAlias t elements class like → AreInside t memory cells elements → IsReadAs t memory cells class like
find_inside t memory cells [] class like s h = absurd s
find_inside t memory cells (e ∷ es) class like (inl s) h = record {
  address = h.0.address;
  holds = same_holds t class e.class s.0 memory h.0.address h.0.holds;
  alike = subst (λ c. Holds t memory c h.0.address) s.1 h.0.alike;
  array = h.0.array;
}
find_inside t memory cells (e ∷ es) class like (inr s) h = find_inside t memory cells es class like s h.1

-- two values of one class are one, where its table has a meaning
pub one_value : (old new : Classes) → Grows old new → (memory : List ℕ) (c n k : ℕ) → Holds old memory c n → Holds old memory c k → (regs : List ℕ) → TableMeans new memory regs → n ≡ k
one_value old new g memory c n k h j regs m = sym ((holds_kept old new g memory c n h).value regs m) ∙ (holds_kept old new g memory c k j).value regs m

pub reg_known : (t : Classes) (known : Known) (r width class c : ℕ) → slice_get known.regs r ≡ Some (Some class) → IsOfWidth t class width c → IsReg t known r width c
reg_known t known r width class c e is memory s h = record {
  holds = subst (λ k. Holds t memory k (slice_index s.regs r)) (sym is.same) (subst (λ o. HoldsOf t memory o (slice_index s.regs r)) (ap entry_of e) (h.regs r));
  width = ap (width_in t) is.same ∙ is.wide;
}

-- so it is with a cell of the register file
pub file_known : (t : Classes) (facts : List Fact) (known : Known) (addr at width class c : ℕ) → HasNumber t facts addr at → entry known.file at ≡ Some class → IsOfWidth t class width c → IsFileCell t facts known addr width c
file_known t facts known addr at width class c number e is memory s a f h k =
    let there : Holds t memory class (slice_index s.file at) = subst (λ o. HoldsOf t memory o (slice_index s.file at)) e (h.file.are at) in
    let own : Holds t memory c (slice_index s.file at) = subst (λ d. Holds t memory d (slice_index s.file at)) (sym is.same) there in
    record {
      holds = record {
        below = own.below;
        value = λ regs m. own.value regs m ∙ ap (slice_index s.file) (one_value t t (grows_same t) memory addr at a (number memory f) k regs m);
      };
      width = ap (width_in t) is.same ∙ is.wide;
    }

module _ (old : Classes) (facts : List Fact) (known : Known) (addr at width : ℕ) (number : HasNumber old facts addr at) where
  pub cell_known : (class c : ℕ) → slice_get known.cells at ≡ Some (Is class) → IsOfWidth old class width c → IsCell old old facts known addr width c
  cell_known class c e is memory s a f h k =
      let g : Grows old old = record { bits = refl; longer = omega arith; widths = λ d l. refl; heads = λ d l. refl; listed = λ node d i. i } in
      let there : Holds old memory class (slice_index s.cells at) = subst (λ o. CellStands old memory (cell_of o) (slice_index s.cells at) (slice_index memory at)) e (h.cells at) in
      let own : Holds old memory c (slice_index s.cells at) = subst (λ d. Holds old memory d (slice_index s.cells at)) (sym is.same) there in
      record {
        holds = record {
          below = own.below;
          value = λ regs m. own.value regs m ∙ ap (slice_index s.cells) (one_value old old g memory addr at a (number memory f) k regs m);
        };
        width = ap (width_in old) is.same ∙ is.wide;
      }

module _ (old new : Classes) (g : Grows old new) (facts : List Fact) (known : Known) (addr width c : ℕ) (stands : NodeStands new (Read addr width) c) where
  read_made : ((memory : List ℕ) (s : State) (a : ℕ) → AreFacts old memory facts → StandsFor old memory known s → Holds old memory addr a → (regs : List ℕ) → TableMeans new memory regs → slice_index s.cells a ≡ slice_index memory a) → IsCell old new facts known addr width c
  read_made agree memory s a f h k = record {
    holds = record {
      below = stands_below new (Read addr width) c stands;
      value = λ regs m. sym (stands memory regs m).value ∙ ap (slice_index memory) ((holds_kept old new g memory addr a k).value regs m) ∙ sym (agree memory s a f h k regs m);
    };
    width = sym (stands_width new (Read addr width) c stands);
  }

  module _ (at : ℕ) (number : HasNumber old facts addr at) where
    pub cell_kept_there : slice_get known.cells at ≡ Some Kept → IsCell old new facts known addr width c
    cell_kept_there e = read_made (λ memory t a f h k regs m.
        let there : slice_index t.cells at ≡ slice_index memory at = subst (λ o. CellStands old memory (cell_of o) (slice_index t.cells at) (slice_index memory at)) e (h.cells at) in
        subst (λ n. slice_index t.cells n ≡ slice_index memory n) (one_value old new g memory addr at a (number memory f) k regs m) there)
