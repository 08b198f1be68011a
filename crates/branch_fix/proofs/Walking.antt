-- Clocks through the words of a block, a test and a jump.
use Rattle.std.proofs.Common.{ℕ, zero, suc, ◌≡◌, ◌≤◌, ◌<◌, ◌+◌, ◌==◌, Bool, if◌then◌else◌, List, Option, Some, None, refl, sym, ◌∙◌, ap, subst, arith, slice_index}
use Rattle.net_model.specs.declared.hardware.Space.TheVariants.{Memory as InMemory}
use Rattle.net_model.specs.declared.hardware.Netlist.{Netlist}
use Rattle.net_model.specs.declared.states.State.{State}
use Rattle.net_model.specs.Exprs.{ExprModel}
use Rattle.net_model.specs.Meaning.{mean}
use Rattle.net_model.specs.Nets.{counter_of}
use Rattle.net_model.specs.Clock.{clock, Next, counter_in}
use Rattle.net_model.specs.Transfers.{IsClean, Moved}
use Rattle.net_model.specs.Widths.{IsState}
use Rattle.net_model.specs.declared.hardware.Code.{Code}
use Rattle.net_model.specs.Control.{IsSound}
use Rattle.net_model.proofs.Effects.{moved}
use Rattle.code_model.specs.declared.image.Image.{Image}
use Rattle.code_model.specs.Places.{words_of, label_at}
use Rattle.code_model.specs.Machine.{label_in, IsAt, IsCalm}
use Rattle.code_model.specs.Flow.{Reaches, GoesTo}
use Rattle.code_model.specs.Words.{DoesGoto, KeepsMode}
use Rattle.code_model.proofs.Fixed.{fixed_is}
use Rattle.code_model.proofs.Flowing.{reaches_on, reaches_one}
use Rattle.net_model.specs.Fixed.{mode_in}
use Rattle.net_model.specs.Modes.{IsBase}
use Rattle.net_model.proofs.Bases.{state_in}
use Rattle.code_model.proofs.Bases.{at_in}
use Rattle.branch_fix.specs.Made.{Walks, DoesBranch, BranchesTo, image_word}

module _ (netlist : Netlist) (image : Image) where
  -- the addresses from one to another have no mark
  abbrev pub Unmarked : ℕ → ℕ → Type 0
  Unmarked from to = (a : ℕ) → from ≤ a → a < to → label_at image.marks a ≡ None

  unmarked_at : (at : ℕ) (s : State) → IsAt netlist at s → label_at image.marks at ≡ None → label_in netlist image s ≡ None
  unmarked_at at s here e = ap (label_at image.marks) here.counter ∙ e

  pub walks_reaches : (n at N : ℕ) (s t : State) → N ≡ at + n → Unmarked at N → Walks netlist image at s n t → Reaches netlist image s n t
  walks_reaches zero at N s t e u w = w.0
  walks_reaches (suc n) at N s t e u w =
      (w.1.0, unmarked_at at s w.0 (u at (omega arith) (omega arith)), w.1.1, walks_reaches n (at + 1) N w.1.0 t (omega arith) (λ a low high. u a (omega arith) high) w.1.2)

  pub walks_end : (n at N : ℕ) (s t : State) → N ≡ at + n → Walks netlist image at s n t → IsAt netlist N t
  walks_end zero at N s t e w = let f : at ≡ N = omega arith in subst (λ a. IsAt netlist a t) f w.1
  walks_end (suc n) at N s t e w = walks_end n (at + 1) N w.1.0 t (omega arith) w.1.2

  -- a walk and one clock more, as one clock and then so many
  pub record Split (s : State) (n : ℕ) (u : State) : Type 0 where
    pub next : State
    pub clocked : clock netlist (words_of image) s ≡ Next next
    pub reaches : Reaches netlist image next n u

  pub split : (n at N : ℕ) (s t u : State) → N ≡ at + n + 1 → Unmarked (at + 1) N → Walks netlist image at s n t
      → clock netlist (words_of image) t ≡ Next u → Split s n u
  split zero at N s t u e free w c = record { next = u; clocked = ap (clock netlist (words_of image)) w.0 ∙ c; reaches = refl }
  split (suc n) at N s t u e free w c =
      let last : IsAt netlist (at + 1 + n) t = walks_end n (at + 1) (at + 1 + n) w.1.0 t refl w.1.2 in
      record {
        next = w.1.0;
        clocked = w.1.1;
        reaches = reaches_on netlist image n w.1.0 t u 1 (suc n) (omega arith)
            (walks_reaches n (at + 1) (at + 1 + n) w.1.0 t refl (λ a low high. free a low (omega arith)) w.1.2)
            (reaches_one netlist image t u (unmarked_at (at + 1 + n) t last (free (at + 1 + n) (omega arith) (omega arith))) c);
      }

  -- ---- words of the netlist that this one is in mode 0

  module _ (base : Netlist) (is : IsBase netlist netlist.special 0 base) (sound : IsSound base) where
    -- a clock under a word that keeps the mode
    record Clocked (s : State) (i : ℕ) : Type 0 where
      moves : Moved base (words_of image) i s
      clocked : clock netlist (words_of image) s ≡ Next moves.next
      state : IsState netlist moves.next
      mode : mode_in netlist.special moves.next ≡ 0

    kept : (o : Option ℕ) (i : ℕ) (s : State) (m : Moved base (words_of image) i s) → KeepsMode o base i → mode_in o m.next ≡ mode_in o s
    kept None i s m k = refl
    kept (Some id) i s m k = m.regs id k.0 ∙ rw k.1 refl

    clocked_at : (at : ℕ) (s : State) → IsCalm netlist at s → IsClean base (image_word image at) → KeepsMode netlist.special base (image_word image at) → Clocked s (image_word image at)
    clocked_at at s here clean keeps =
        let there : IsAt base at s = at_in netlist base at s (sym is.storages) (sym is.codes) here.here in
        let m : Moved base (words_of image) (image_word image at) s = moved base (words_of image) (image_word image at) s sound there.state clean (ap (slice_index (words_of image)) there.counter) in
        record {
          moves = m;
          clocked = is.clocks (words_of image) s here.mode ∙ m.clocked;
          state = state_in base netlist m.next is.storages m.state;
          mode = kept netlist.special (image_word image at) s m keeps ∙ here.mode;
        }

    counter_to : (s : State) (at : ℕ) → slice_index s.regs (counter_of base.codes) ≡ at → counter_in netlist s ≡ at
    counter_to s at e = sym (ap (λ (list : List Code). slice_index s.regs (counter_of list)) is.codes) ∙ e

    -- one clock of a word that goes to an address
    pub goes : (at to : ℕ) → DoesGoto base (image_word image at) to → KeepsMode netlist.special base (image_word image at) → GoesTo netlist image at to
    goes at to does keeps = record {
      goes = λ s here.
          let c : Clocked s (image_word image at) = clocked_at at s here does.clean keeps in
          record {
            next = c.moves.next;
            clocked = c.clocked;
            here = record {
              here = record { state = c.state; counter = counter_to c.moves.next to (c.moves.regs (counter_of base.codes) sound.counter ∙ rw does.jump.move (fixed_is does.jump.to_term (image_word image at) to s does.jump.to_is)) };
              mode = c.mode;
            };
            same = c.moves.cells InMemory ∙ rw does.keeps.move refl;
          };
    }

    -- one clock of a branch word
    chosen : (v x y : ℕ) → v ≡ 1 → (if v == 1 then x else y) ≡ x
    chosen v x y e = rw e refl

    not_chosen : (v x y : ℕ) → v ≡ 0 → (if v == 1 then x else y) ≡ y
    not_chosen v x y e = rw e refl

    pub branches : (condition : ExprModel) (when_one : Bool) (at to : ℕ) → DoesBranch base netlist.special (image_word image at) condition when_one at to
        → BranchesTo netlist image (image_word image at) condition at (if when_one then to else at + 1) (if when_one then at + 1 else to)
    branches condition when_one at to does = record {
      branches = λ s here.
          let i : ℕ = image_word image at in
          let there : IsAt base at s = at_in netlist base at s (sym is.storages) (sym is.codes) here.here in
          let c : Clocked s (image_word image at) = clocked_at at s here does.clean does.mode in
          let counter : slice_index c.moves.next.regs (counter_of base.codes) ≡ (if mean condition s i == 1 then mean does.first s i else mean does.second s i) = c.moves.regs (counter_of base.codes) sound.counter ∙ rw does.move refl in
          record {
            next = c.moves.next;
            clocked = c.clocked;
            one = λ e. record { here = record { state = c.state; counter = counter_to c.moves.next _ (counter ∙ chosen (mean condition s i) _ _ e ∙ does.on_one s there) }; mode = c.mode };
            none = λ e. record { here = record { state = c.state; counter = counter_to c.moves.next _ (counter ∙ not_chosen (mean condition s i) _ _ e ∙ does.on_zero s there) }; mode = c.mode };
            same = c.moves.cells InMemory ∙ rw does.keeps.move refl;
          };
    }
