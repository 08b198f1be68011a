-- Words that lead from a state to another.
use Rattle.std.proofs.Common.{◌≡◌, ℕ, ◌-◌, ◌<◌, zero, suc, Bool, true, false, cond, List, [], ◌∷◌, Option, Some, None, Result, Ok, Err, ◌∙◌, sym, ap, refl, subst, slice_get, slice_index, arith}
use Rattle.std.specs.Prelude.{IfOk, IfSome}
use Rattle.net_model.specs.declared.hardware.Netlist.{Netlist}
use Rattle.net_model.specs.declared.hardware.Storage.{Storage}
use Rattle.net_model.specs.declared.hardware.Storage.TheVariants.{Register, Memory, File}
use Rattle.net_model.specs.declared.hardware.Space.TheVariants.{Memory as InMemory, File as InFile}
use Rattle.net_model.specs.declared.states.State.{State}
use Rattle.net_model.specs.Clock.{Next, clash_in, counter_in, is_enabled, next_regs, next_state, outcome_of, word_at}
use Rattle.net_model.specs.Exprs.{ExprModel, TransferModel, keep, write_at}
use Rattle.net_model.specs.Nets.{IsRegister}
use Rattle.net_model.specs.Symbolic.{no_state, sym_of}
use Rattle.net_model.specs.Transfers.{cells_moved, reg_moved, transfer_at, transfer_of}
use Rattle.net_model.specs.Value.{value_of}
use Rattle.net_model.proofs.Effects.{moved}
use Rattle.tree_laws.specs.declared.classes.Classes.{Classes}
use Rattle.tree_laws.specs.Classes.{Grows}
use Rattle.class_values.specs.declared.facts.Fact.{Fact}
use Rattle.sym_run.specs.declared.known.Known.{Known}
use Rattle.sym_run.specs.declared.walk.Arrival.{Arrival}
use Rattle.sym_run.specs.declared.walk.Coded.{Coded}
use Rattle.sym_run.specs.declared.walk.Image.{Image}
use Rattle.sym_run.specs.declared.walk.Walked.{Walked}
use Rattle.sym_run.specs.declared.walk.Walked.TheVariants.{Arrives as Arrived, Late, Lost}
use Rattle.class_values.specs.Values.{HasNumber}
use Rattle.sym_run.specs.Known.{HoldsOf, entry}
use Rattle.sym_run.specs.Moves.{IsMoved, LeadsOn}
use Rattle.sym_run.specs.Walks.{Arrives, Crosses, IfArrives, IsNextAddress, Turns, is_mark}
use Rattle.class_values.proofs.Keeping.{facts_kept}
use Rattle.sym_run.proofs.Writing.{number_is}

-- a fact of an answer by another
pub if_answer : {A : Type 0} {E : Type 0} (r : Result (Option A) E) (P Q : A → Type 0) → ((x : A) → P x → Q x) → IfOk r (λ found. IfSome found P) → IfOk r (λ found. IfSome found Q)
if_answer (Err e) P Q f h = tt
if_answer (Ok None) P Q f h = tt
if_answer (Ok (Some x)) P Q f h = f x h

pub answer_of : {A : Type 0} (P : A → Type 0) (o : Option A) (x : A) → o ≡ Some x → IfSome o P → P x
answer_of P o x e h = subst (λ p. IfSome p P) e h

pub if_arrives : {E : Type 0} (r : Result Walked E) (P Q : Arrival → Type 0) → ((x : Arrival) → P x → Q x) → IfOk r (λ found. IfArrives found P) → IfOk r (λ found. IfArrives found Q)
if_arrives (Err e) P Q f h = tt
if_arrives (Ok (Lost address)) P Q f h = tt
if_arrives (Ok Late) P Q f h = tt
if_arrives (Ok (Arrived x)) P Q f h = f x h

pub arrival_of : (P : Arrival → Type 0) (o : Walked) (x : Arrival) → o ≡ Arrived x → IfArrives o P → P x
arrival_of P o x e h = subst (λ p. IfArrives p P) e h

-- ---- entries that are no registers (as in word_fit's Storages)

outcome_next : (v : ℕ → ℕ) (netlist : Netlist) (s t : State) (o : Option ℕ) → outcome_of v netlist s o ≡ Next t → t ≡ next_state v netlist s
outcome_next v netlist s t None e = cc
outcome_next v netlist s t (Some bus) e = cc

other_kept : (v : ℕ → ℕ) (storages : List Storage) (regs : List ℕ) (id : ℕ) → (IsRegister (slice_get storages id) → ⊥) → slice_index (next_regs v storages regs) id ≡ slice_index regs id
other_kept v [] regs id h = refl
other_kept v (storage ∷ storages) [] id h = refl
other_kept v (Register name width input when ∷ storages) (old ∷ olds) zero h = absurd (h tt)
other_kept v (Memory cells ∷ storages) (old ∷ olds) zero h = refl
other_kept v (File cells ∷ storages) (old ∷ olds) zero h = refl
other_kept v (storage ∷ storages) (old ∷ olds) (suc id) h = other_kept v storages olds id h

array_keeps : (b : Bool) (a e : ExprModel) (s : State) (i id : ℕ) → reg_moved (cond b (write_at a e) keep) s i id ≡ slice_index s.regs id
array_keeps true a e s i id = refl
array_keeps false a e s i id = refl

no_write : (netlist : Netlist) (s : State) (i id : ℕ) (o : Option Storage) → (IsRegister o → ⊥) → reg_moved (transfer_of netlist i id o) s i id ≡ slice_index s.regs id
no_write netlist s i id None h = refl
no_write netlist s i id (Some (Register name width input when)) h = absurd (h tt)
no_write netlist s i id (Some (Memory cells)) h = array_keeps (is_enabled (value_of netlist no_state i) cells.when) (sym_of netlist i cells.addr) (sym_of netlist i cells.value) s i id
no_write netlist s i id (Some (File cells)) h = array_keeps (is_enabled (value_of netlist no_state i) cells.when) (sym_of netlist i cells.addr) (sym_of netlist i cells.value) s i id

register_or_not : {P : Type 0} (o : Option Storage) → (IsRegister o → P) → ((IsRegister o → ⊥) → P) → P
register_or_not None f g = g (λ h. h)
register_or_not (Some (Register name width input when)) f g = f tt
register_or_not (Some (Memory cells)) f g = g (λ h. h)
register_or_not (Some (File cells)) f g = g (λ h. h)

-- ---- one word

pub address_is : (t : Classes) (facts : List Fact) (known : Known) (counter class n : ℕ) → entry known.regs counter ≡ Some class → HasNumber t facts class n → IsNextAddress t facts known counter n
address_is t facts known counter class n e number memory s f k =
    number_is t memory k.fits class (slice_index s.regs counter) n (subst (λ o. HoldsOf t memory o (slice_index s.regs counter)) e (k.regs counter)) (number memory f)

module _ (old new : Classes) (image : Image) (known : Known) (address : ℕ) (here : IsNextAddress old image.facts.now known image.counter address) where
  pub turned : (coded : Coded) (next : Known) → slice_get image.code.now address ≡ Some coded
      → LeadsOn old new image.facts.now known coded.word image.pool.now coded.moves image.memory image.file next → Turns old new image known next
  turned coded next at leads netlist words memory s c f k state =
      let w = c.code address coded at in
      let counter : counter_in netlist s ≡ address = ap (slice_index s.regs) (sym c.counter) ∙ here memory s f k in
      let there : word_at netlist words s ≡ coded.word = ap (slice_index words) counter ∙ w.same in
      let m = moved netlist words coded.word s c.sound state w.clean there in
      let kept = λ (id : ℕ) (h : IsRegister (slice_get netlist.storages id) → ⊥).
      ap (λ (t : State). slice_index t.regs id) (outcome_next (value_of netlist s (word_at netlist words s)) netlist s m.next (clash_in (value_of netlist s (word_at netlist words s)) netlist.nets) m.clocked)
      ∙ other_kept (value_of netlist s (word_at netlist words s)) netlist.storages s.regs id h in
      let regs : (id : ℕ) → slice_index m.next.regs id ≡ reg_moved (transfer_at netlist coded.word id) s coded.word id = λ id.
      register_or_not (slice_get netlist.storages id) (m.regs id) (λ h. kept id h ∙ sym (no_write netlist s coded.word id (slice_get netlist.storages id) h)) in
      let is : IsMoved image.pool.now coded.moves image.memory image.file coded.word s m.next = record {
        regs = λ id. regs id ∙ ap (λ (t : TransferModel). reg_moved t s coded.word id) (w.moves id);
        cells = m.cells InMemory ∙ ap (λ n. cells_moved (transfer_at netlist coded.word n) s coded.word s.cells) (sym c.memory) ∙ ap (λ (t : TransferModel). cells_moved t s coded.word s.cells) (w.moves image.memory);
        file_is = m.cells InFile ∙ ap (λ n. cells_moved (transfer_at netlist coded.word n) s coded.word s.file) (sym c.file) ∙ ap (λ (t : TransferModel). cells_moved t s coded.word s.file) (w.moves image.file);
      } in
      record { after = m.next; clocked = m.clocked; state = m.state; stands = leads memory s m.next f k is }

-- ---- many

module _ (image : Image) where
  pub arrived : (t : Classes) (known : Known) (address clocks : ℕ) → IsNextAddress t image.facts.now known image.counter address → is_mark image.marks.now address ≡ true → Arrives t t image known clocks (record { address = address; known = known; left = clocks })
  arrived t known address clocks here marked netlist words memory s c f k state = record {
    taken = 0;
    last = s;
    within = omega arith;
    walks = refl;
    state = state;
    here = ap (slice_index s.regs) (sym c.counter) ∙ here memory s f k;
    marked = marked;
    stands = k;
  }

  module _ (first middle last : Classes) (g : Grows first middle) (known next : Known) (turns : Turns first middle image known next) where
    pub walked_on : (address clocks : ℕ) (arrival : Arrival) → IsNextAddress first image.facts.now known image.counter address → is_mark image.marks.now address ≡ false → (0 < clocks)
        → Arrives middle last image next (clocks - 1) arrival → Arrives first last image known clocks arrival
    walked_on address clocks arrival here passed more later netlist words memory s c f k state =
        let t = turns netlist words memory s c f k state in
        let a = later netlist words memory t.after c (facts_kept first middle g memory image.facts.now f) t.stands t.state in
        let counter : counter_in netlist s ≡ address = ap (slice_index s.regs) (sym c.counter) ∙ here memory s f k in
        record {
          taken = suc a.taken;
          last = a.last;
          within = (let w = a.within in omega (arith, w, more));
          walks = (t.after, ap (is_mark image.marks.now) counter ∙ passed, t.clocked, a.walks);
          state = a.state;
          here = a.here;
          marked = a.marked;
          stands = a.stands;
        }

    pub crossed : (clocks : ℕ) (arrival : Arrival) → Arrives middle last image next clocks arrival → Crosses first last image known clocks arrival
    crossed clocks arrival later netlist words memory s c f k state =
        let t = turns netlist words memory s c f k state in
        record {
          after = t.after;
          clocked = t.clocked;
          arrives = later netlist words memory t.after c (facts_kept first middle g memory image.facts.now f) t.stands t.state;
        }
