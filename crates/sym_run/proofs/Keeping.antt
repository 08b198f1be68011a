-- What is known stays known when the table grows.
use Rattle.std.proofs.Common.{ℕ, ◌<◌, List, [], ◌∷◌, ◌^◌, sym, subst, Option, Some, None, slice_index}
use Rattle.net_model.specs.declared.states.State.{State}
use Rattle.tree_laws.specs.declared.classes.Classes.{Classes}
use Rattle.tree_laws.specs.Classes.{Grows}
use Rattle.sym_run.specs.declared.known.Element.{Element}
use Rattle.sym_run.specs.declared.known.Known.{Known}
use Rattle.sym_run.specs.declared.known.Put.{Put}
use Rattle.sym_run.specs.declared.known.Cell.{Cell}
use Rattle.sym_run.specs.declared.known.Cell.TheVariants.{Unknown, Kept, Array, Is}
use Rattle.sym_run.specs.Known.{ArraysStand, HaveWritten, Wrote, AreInside, CellStands, FileStands, HoldsOf, StandsFor, cell_at, entry}
use Rattle.class_values.proofs.Keeping.{holds_kept}

module _ (old new : Classes) (g : Grows old new) (memory : List ℕ) where
  pub of_kept : (o : Option ℕ) (n : ℕ) → HoldsOf old memory o n → HoldsOf new memory o n
  of_kept None n h = tt
  of_kept (Some c) n h = holds_kept old new g memory c n h

  pub cell_kept : (cell : Cell) (n was : ℕ) → CellStands old memory cell n was → CellStands new memory cell n was
  cell_kept Unknown n was h = tt
  cell_kept Kept n was h = h
  cell_kept Array n was h = tt
  cell_kept (Is c) n was h = holds_kept old new g memory c n h

  pub inside_kept : (cells : List Cell) (elements : List Element) → AreInside old memory cells elements → AreInside new memory cells elements
  inside_kept cells [] h = tt
  inside_kept cells (e ∷ es) h = (record { address = h.0.address; holds = holds_kept old new g memory e.class h.0.address h.0.holds; alike = holds_kept old new g memory e.like h.0.address h.0.alike; array = h.0.array; behind = h.0.behind; within = h.0.within }, inside_kept cells es h.1)

  pub wrote_kept : (puts : List Put) (log : List Wrote) → HaveWritten old memory puts log → HaveWritten new memory puts log
  wrote_kept [] [] h = tt
  wrote_kept [] (x ∷ log) h = absurd h
  wrote_kept (p ∷ puts) [] h = absurd h
  wrote_kept (p ∷ puts) (x ∷ log) h = (holds_kept old new g memory p.address x.address h.0, holds_kept old new g memory p.value x.value h.1, wrote_kept puts log h.2)

  pub arrays_kept : (cells : List Cell) (puts : List Put) (held : List ℕ) → ArraysStand old memory cells puts held → ArraysStand new memory cells puts held
  arrays_kept cells puts held h = record { log = h.log; wrote = wrote_kept puts h.log h.wrote; are = h.are }

  pub file_kept : (known : List (Option ℕ)) (held : List ℕ) → FileStands old memory known held → FileStands new memory known held
  file_kept known held h = record { there = h.there; are = λ a. of_kept (entry known a) (slice_index held a) (h.are a) }

  pub known_kept : (known : Known) (s : State) → StandsFor old memory known s → StandsFor new memory known s
  known_kept known s h = record {
    fits = λ k. subst (λ w. slice_index memory k < 2 ^ w) (sym g.bits) (h.fits k);
    room = h.room;
    regs = λ r. of_kept (entry known.regs r) (slice_index s.regs r) (h.regs r);
    cells = λ a. cell_kept (cell_at known.cells a) (slice_index s.cells a) (slice_index memory a) (h.cells a);
    inside = inside_kept known.cells known.inside h.inside;
    arrays = arrays_kept known.cells known.puts s.cells h.arrays;
    file = file_kept known.file s.file h.file;
  }
