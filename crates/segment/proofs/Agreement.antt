-- What is known agrees with a hint, step by step.
use Rattle.std.proofs.Common.{refl, not, nat_eq, eq-eqb, ◌≡◌, ◌≢◌, ℕ, ◌+◌, ◌-◌, ◌<◌, inl, inr, Bool, true, false, List, [], Some, ◌∙◌, sym, ap, subst, slice_get, slice_index, arith, Result, Ok, Err}
use Rattle.std.specs.Prelude.{IfOk}
use Rattle.std.proofs.lemmas.Bool.{cases_lt}
use Rattle.net_model.specs.declared.states.State.{State}
use Rattle.net_model.specs.Exprs.{ExprModel}
use Rattle.net_model.specs.Meaning.{mean}
use Rattle.src_trees.specs.Seen.{tree_value}
use Rattle.tree_laws.specs.declared.classes.Classes.{Classes}
use Rattle.tree_laws.specs.Classes.{Grows, cell_bits}
use Rattle.tree_laws.specs.Equal.{CellsFit, memory_alone}
use Rattle.sym_run.specs.declared.known.Cell.TheVariants.{Kept, Array}
use Rattle.sym_run.specs.declared.known.Put.{Put}
use Rattle.sym_run.proofs.Keeping.{wrote_kept}
use Rattle.sym_run.proofs.SamePuts.{arrays_agree, same_puts}
use Rattle.sym_run.specs.Arrivals.{LeaveSame}
use Rattle.class_values.specs.declared.facts.Fact.{Fact}
use Rattle.sym_run.specs.declared.known.Known.{Known}
use Rattle.class_values.specs.Values.{AreFacts, AreSame, HasNumber, Holds, IsNumber}
use Rattle.sym_run.specs.Known.{ArePutsSame, HaveWritten, cell_at, CellStands, cell_of}
use Rattle.class_values.proofs.Keeping.{grows_on, grows_same, holds_kept}
use Rattle.class_values.proofs.Made.{same_holds}
use Rattle.sym_run.proofs.Writing.{number_is}
use Rattle.mark_start.specs.declared.run.Run.{Run}
use Rattle.mark_start.specs.declared.hints.Hint.{Hint}
use Rattle.mark_start.specs.declared.hints.Holding.{Holding}
use Rattle.mark_start.specs.declared.hints.Numbered.{Numbered}
use Rattle.mark_start.specs.declared.hints.Spot.{Spot}
use Rattle.mark_start.specs.Marked.{AllHeld, AllNumbered, IsAsHinted, SpotsSeen}
use Rattle.sym_expr.specs.declared.pool.Node.{Node}
use Rattle.segment.specs.declared.way.End.{End}
use Rattle.segment.specs.declared.way.End.TheVariants.{Lost, Mark}
use Rattle.segment.specs.Proved.{IfFound}
use Rattle.segment.specs.Runs.{AreCellsAlike, AreEqualOf, IsAgreed, IsAligned, IsAlikeIn, IsOldIn}
use Rattle.mark_start.specs.Runs.{IsExprOf, IsInCell, IsTreeOf, Stands}
use Rattle.mark_start.proofs.Learning.{stands_kept}

-- ---- classes

pub equal_classes : (t : Classes) (facts : List Fact) (a b : ℕ) → AreSame t a b → AreEqualOf t facts a b
equal_classes t facts a b s memory x y fits f h k = number_is t memory fits a x y h (same_holds t a b s memory y k)

pub equal_numbers : (t : Classes) (facts : List Fact) (a b n m : ℕ) → HasNumber t facts a n → HasNumber t facts b m → n ≡ m → AreEqualOf t facts a b
equal_numbers t facts a b n m p q e memory x y fits f h k =
    number_is t memory fits a x n h (p memory f) ∙ e ∙ number_is t memory fits b m y (q memory f) k

pub old_kept : (known : Known) (address : ℕ) → slice_get known.cells address ≡ Some Kept → IsOldIn known address
old_kept known address e table memory s k = subst (λ o. CellStands table memory (cell_of o) (slice_index s.cells address) (slice_index memory address)) e (k.cells address)

pub arrays_alike : (t : Classes) (run : Run) (near far : List Put) (address : ℕ) → near ≡ run.machine.puts → far ≡ run.vars.puts → cell_at run.machine.cells address ≡ Array → cell_at run.vars.cells address ≡ Array → ArePutsSame t near far → IsAlikeIn t run address
arrays_alike t run near far address e f a b same memory s now k =
    arrays_agree t [] run.machine run.vars
    (same_puts [] run.machine run.vars t (subst (λ (ps : List Put). ArePutsSame t ps run.vars.puts) e (subst (λ (ps : List Put). ArePutsSame t near ps) f same)))
    memory s (memory_alone now) tt k.machine k.vars address a b

-- the program's writes may be said to be the machine's, where both leave the same
pub aligned : (old new : Classes) → Grows old new → (run : Run) (facts : List Fact) (puts : List Put) → facts ≡ run.facts → puts ≡ run.vars.puts → LeaveSame old facts run.machine run.vars
    → IsAligned old new run (record { facts = run.facts; machine = record { regs = run.machine.regs; cells = run.machine.cells; inside = run.machine.inside; puts = puts; file = run.machine.file }; vars = run.vars })
aligned old new g run facts puts e f same = record {
  grows = g;
  stands = λ memory s now k.
      (let n = stands_kept old new g run memory s now k in
      let told : AreFacts old memory facts = subst (AreFacts old memory) (sym e) k.facts in
      record {
        facts = n.facts;
        machine = record {
          fits = n.machine.fits;
          room = n.machine.room;
          regs = n.machine.regs;
          cells = n.machine.cells;
          inside = n.machine.inside;
          arrays = record {
            log = k.vars.arrays.log;
            wrote = subst (λ (ps : List Put). HaveWritten new memory ps k.vars.arrays.log) (sym f) (wrote_kept old new g memory run.vars.puts k.vars.arrays.log k.vars.arrays.wrote);
            are = λ a array. k.machine.arrays.are a array
                ∙ same memory run.machine.cells run.vars.cells a k.machine.fits told k.machine.inside k.vars.inside k.machine.arrays.log k.vars.arrays.log k.machine.arrays.wrote k.vars.arrays.wrote;
          };
          file = n.machine.file;
        };
        vars = n.vars;
      });
}

pub not_aligned : (old new : Classes) → Grows old new → (run : Run) → IsAligned old new run run
not_aligned old new g run = record { grows = g; stands = λ memory s now k. stands_kept old new g run memory s now k }

-- ---- agreement

module _ (run : Run) where
  pub refused : (Here : State → List ℕ → Type 0) (old new : Classes) → Grows old new → IsAgreed run Here old new false
  refused Here old new g = record { grows = g; holds = λ e. absurd (cc) }

  pub agreed_now : (Here : State → List ℕ → Type 0) (t : Classes) (said : Bool) → ((memory : List ℕ) (s : State) (now : List ℕ) → Stands t run memory s now → Here s now) → IsAgreed run Here t t said
  agreed_now Here t said h = record { grows = grows_same t; holds = λ e. h }

  pub agreed_on : (P Q : State → List ℕ → Type 0) (a b d : Classes) (said last : Bool) → said ≡ true → IsAgreed run P a b said → IsAgreed run Q b d last
      → IsAgreed run (λ s now. P s now × Q s now) a d last
  agreed_on P Q a b d said last e f h = record {
    grows = grows_on a b d f.grows h.grows;
    holds = λ l memory s now k. (f.holds e memory s now k, h.holds l memory s now (stands_kept a b f.grows run memory s now k));
  }

  pub agreed_as : (P Q : State → List ℕ → Type 0) (a b : Classes) (said : Bool) → ((s : State) (now : List ℕ) → P s now → Q s now) → IsAgreed run P a b said → IsAgreed run Q a b said
  agreed_as P Q a b said f h = record { grows = h.grows; holds = λ e memory s now k. f s now (h.holds e memory s now k) }

  -- refused behind a said
  pub refused_on : (P Q : State → List ℕ → Type 0) (a b d : Classes) (said : Bool) → Grows a b → IsAgreed run P b d said → IsAgreed run Q a d false
  refused_on P Q a b d said g h = refused Q a d (grows_on a b d g h.grows)

  module _ (first middle last : Classes) (g : Grows first middle) (h : Grows middle last) (facts : List Fact) (same : facts ≡ run.facts) where
    fits : (memory : List ℕ) (s : State) (now : List ℕ) → Stands first run memory s now → CellsFit (cell_bits last) memory
    fits memory s now k = (stands_kept middle last h run memory s now (stands_kept first middle g run memory s now k)).machine.fits

    told : (memory : List ℕ) (s : State) (now : List ℕ) → Stands first run memory s now → AreFacts last memory facts
    told memory s now k = subst (AreFacts last memory) (sym same) (stands_kept middle last h run memory s now (stands_kept first middle g run memory s now k)).facts

    -- one value of the machine, then one of the program
    pub both_equal : (X : State → ℕ) (Y : List ℕ → ℕ) (a b : ℕ) (said : Bool)
        → ((memory : List ℕ) (s : State) (now : List ℕ) → Stands first run memory s now → Holds middle memory a (X s))
        → ((memory : List ℕ) (s : State) (now : List ℕ) → Stands middle run memory s now → Holds last memory b (Y now))
        → (said ≡ true → AreEqualOf last facts a b) → IsAgreed run (λ s now. X s ≡ Y now) first last said
    both_equal X Y a b said p q equal = record {
      grows = grows_on first middle last g h;
      holds = λ e memory s now k. equal e memory (X s) (Y now) (fits memory s now k) (told memory s now k) (holds_kept middle last h memory a (X s) (p memory s now k))
          (q memory s now (stands_kept first middle g run memory s now k));
    }

-- one more cell
pub alike_none : (address : ℕ) (s : State) (now : List ℕ) → AreCellsAlike address 0 s now
alike_none address s now k lt = absurd (omega arith)

pub alike_more : (address count : ℕ) → 0 < count → (s : State) (now : List ℕ) → (slice_index s.cells (address + (count - 1)) ≡ slice_index now (address + (count - 1))) × AreCellsAlike address (count - 1) s now → AreCellsAlike address count s now
alike_more address count some s now h k lt = elim (cases_lt k (count - 1)) as (λ _. slice_index s.cells (address + k) ≡ slice_index now (address + k)) [
  | inl less ↦ h.1 k less
  | inr more ↦ (let e : count - 1 ≡ k = omega (arith, more, lt, some) in subst (λ n. slice_index s.cells (address + n) ≡ slice_index now (address + n)) e h.0)
]

module _ (run : Run) (first middle last : Classes) (g : Grows first middle) (h : Grows middle last) (facts : List Fact) (same : facts ≡ run.facts) where
  first_facts : (memory : List ℕ) (s : State) (now : List ℕ) → Stands first run memory s now → AreFacts first memory facts
  first_facts memory s now k = subst (AreFacts first memory) (sym same) k.facts

  middle_facts : (memory : List ℕ) (s : State) (now : List ℕ) → Stands middle run memory s now → AreFacts middle memory facts
  middle_facts memory s now k = subst (AreFacts middle memory) (sym same) k.facts

  pub cells_equal : (address a b : ℕ) (said : Bool) → IsInCell first middle facts run.machine address a → IsInCell middle last facts run.vars address b → (said ≡ true → AreEqualOf last facts a b)
      → IsAgreed run (λ s now. slice_index s.cells address ≡ slice_index now address) first last said
  cells_equal address a b said p q equal =
      both_equal run first middle last g h facts same (λ s. slice_index s.cells address) (λ now. slice_index now address) a b said
      (λ memory s now k. p memory s (first_facts memory s now k) k.machine) (λ memory s now k. q memory (memory_alone now) (middle_facts memory s now k) k.vars) equal

  pub view_equal : (expr : ExprModel) (address a b : ℕ) (said : Bool) → IsExprOf first middle run expr a → IsInCell middle last facts run.vars address b → (said ≡ true → AreEqualOf last facts a b)
      → IsAgreed run (λ s now. mean expr s 0 ≡ slice_index now address) first last said
  view_equal expr address a b said p q equal =
      both_equal run first middle last g h facts same (λ s. mean expr s 0) (λ now. slice_index now address) a b said
      (λ memory s now k. p memory s k.facts k.machine) (λ memory s now k. q memory (memory_alone now) (middle_facts memory s now k) k.vars) equal

  pub held_equal : (expr tree : ExprModel) (a b : ℕ) (said : Bool) → IsExprOf first middle run expr a → IsTreeOf middle last run tree b → (said ≡ true → AreEqualOf last facts a b)
      → IsAgreed run (λ s now. mean expr s 0 ≡ tree_value now tree) first last said
  held_equal expr tree a b said p q equal =
      both_equal run first middle last g h facts same (λ s. mean expr s 0) (λ now. tree_value now tree) a b said
      (λ memory s now k. p memory s k.facts k.machine) (λ memory s now k. q memory now k.facts k.vars) equal

-- a number of the program's
pub number_equal : (run : Run) (first middle last : Classes) → Grows first middle → Grows middle last → (facts : List Fact) → facts ≡ run.facts → (width address n a b : ℕ) (said : Bool)
    → IsNumber middle width n a → IsInCell middle last facts run.vars address b → (said ≡ true → AreEqualOf last facts a b) → IsAgreed run (λ s now. slice_index now address ≡ n) first last said
number_equal run first middle last g h facts same width address n a b said p q equal =
    agreed_as run (λ s now. n ≡ slice_index now address) (λ s now. slice_index now address ≡ n) first last said (λ s now e. sym e)
    (both_equal run first middle last g h facts same (λ s. n) (λ now. slice_index now address) a b said
    (λ memory s now k. (p memory).holds) (λ memory s now k. q memory (memory_alone now) (middle_facts run first middle last g h facts same memory s now k) k.vars) equal)

pub if_yes : {E : Type 0} (r : Result Bool E) (P Q : Bool → Type 0) → ((x : Bool) → P x → Q x) → IfOk r P → IfOk r Q
if_yes (Err e) P Q f h = tt
if_yes (Ok x) P Q f h = f x h

pub agreed_later : (run : Run) (Here : State → List ℕ → Type 0) (a b d : Classes) (said : Bool) → Grows a b → IsAgreed run Here b d said → IsAgreed run Here a d said
agreed_later run Here a b d said g h = record { grows = grows_on a b d g h.grows; holds = λ e memory s now k. h.holds e memory s now (stands_kept a b g run memory s now k) }

-- a tree that has another number
pub number_denied : (run : Run) (first last : Classes) (g : Grows first last) (facts : List Fact) → facts ≡ run.facts → (tree : ExprModel) (c n bit : ℕ) (said : Bool) → IsTreeOf first last run tree c → HasNumber last facts c n
    → (said ≡ true → n ≢ bit) → IsAgreed run (λ s now. tree_value now tree ≡ bit → ⊥) first last said
number_denied run first last g facts same tree c n bit said is number other = record {
  grows = g;
  holds = λ e memory s now k v.
      (let l = stands_kept first last g run memory s now k in
      other e (sym (number_is last memory l.machine.fits c (tree_value now tree) n (is memory now k.facts k.vars) (number memory (subst (AreFacts last memory) (sym same) l.facts))) ∙ v));
}

pub differ : (n b d : ℕ) → not (nat_eq n b) ≡ true → b ≡ d → n ≢ d
differ n b d f e h = (let g : nat_eq n b ≡ true = eq-eqb n b (h ∙ sym e) in let k : false ≡ true = sym (ap not g) ∙ f in absurd (cc))

-- ---- ends

pub found_as : (end : End) (P Q : ℕ → ℕ → Type 0) → ((address left : ℕ) → P address left → Q address left) → IfFound end P → IfFound end Q
found_as (Mark address left) P Q f h = f address left h
found_as (Lost why) P Q f h = tt

pub if_end : {E : Type 0} (r : Result End E) (P Q : ℕ → ℕ → Type 0) → ((address left : ℕ) → P address left → Q address left) → IfOk r (λ end. IfFound end P) → IfOk r (λ end. IfFound end Q)
if_end (Err e) P Q f h = tt
if_end (Ok end) P Q f h = found_as end P Q f h

-- ---- hints

pub hinted_all : (run : Run) (pool : List Node) (hint : Hint) (a b d e : Classes) (spots : List Spot) (holdings : List Holding) (numbers : List Numbered)
    → spots ≡ hint.spots → holdings ≡ hint.holdings → numbers ≡ hint.numbers
    → IsAgreed run (SpotsSeen pool spots) a b true → IsAgreed run (AllHeld pool holdings) b d true → IsAgreed run (λ s now. AllNumbered numbers now) d e true
    → IsAgreed run (IsAsHinted pool hint) a e true
hinted_all run pool hint a b d e spots holdings numbers seen held known first second third =
    let later = agreed_on run (AllHeld pool holdings) (λ s now. AllNumbered numbers now) b d e true true refl second third in
    let all = agreed_on run (SpotsSeen pool spots) (λ s now. AllHeld pool holdings s now × AllNumbered numbers now) a b e true true refl first later in
    agreed_as run (λ s now. SpotsSeen pool spots s now × (AllHeld pool holdings s now × AllNumbered numbers now)) (IsAsHinted pool hint) a e true
    (λ s now k. record {
      seen = subst (λ (xs : List Spot). SpotsSeen pool xs s now) seen k.0;
      holds = subst (λ (xs : List Holding). AllHeld pool xs s now) held k.1.0;
      numbers = subst (λ (xs : List Numbered). AllNumbered xs now) known k.1.1;
    }) all
