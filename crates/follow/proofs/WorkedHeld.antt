-- The same loop, where its variable is hidden at all marks: no view says where it is, and the relation of
-- the test's mark has it in the accumulator. So the program may read what is hidden.
use Rattle.std.proofs.Common.{ℕ, ◌≡◌, ◌==◌, Bool, true, false, ◌&&◌, if◌then◌else◌, List, [], ◌∷◌, Option, Some, None, refl, sym, subst}
use Rattle.std.specs.Prelude.{codes}
use Rattle.rec_bits.specs.Faults.{same_name}
use Rattle.net_model.specs.declared.hardware.Space.TheVariants.{Memory as InMemory}
use Rattle.net_model.specs.declared.states.State.{State}
use Rattle.net_model.specs.Exprs.{ExprModel, const, read, reg}
use Rattle.net_model.specs.Worked.{a16}
use Rattle.src_model.specs.declared.checkpoint.Checkpoint.{Checkpoint}
use Rattle.src_model.specs.declared.checkpoint.Checkpoint.TheVariants.{At, End as TheEnd}
use Rattle.code_model.specs.declared.views.Viewed.{Viewed}
use Rattle.code_model.specs.Places.{label_at}
use Rattle.code_model.specs.Views.{hidden_at}
use Rattle.code_model.specs.WorkedViews.{hidden_counter}
use Rattle.follow.specs.Followed.{Arrives, Crosses, IsFollowed}
use Rattle.follow.specs.Relations.{AllHold, AreShownAs, Holding, Relation, IsRelated}
use Rattle.follow.specs.RightByViews.{IsRightByViews}
use Rattle.follow.specs.Worked.{counted, map}
use Rattle.follow.proofs.Whole.{followed_right}
use Rattle.follow.proofs.WorkedHidden.{hidden_followed, hidden_laid, hidden_marks}
use Rattle.follow.proofs.WorkedLoop.{at_three, one_kept}

abbrev held_counter : Viewed
held_counter = record {
  image = hidden_counter.image;
  views = [];
  hidden = record { label = Some 0; name = codes "a" } ∷ record { label = None; name = codes "a" } ∷ [];
}

-- the temporary cell 0 is 1, and at the test the accumulator is the program's variable
abbrev one : Holding
one = record { place = read InMemory (const 8 0) 16; tree = const 16 1 }

abbrev kept : Holding
kept = record { place = reg 1 16; tree = read InMemory (const 8 3) 16 }

abbrev holdings_if : Bool → List Holding
holdings_if true = one ∷ kept ∷ []
holdings_if false = one ∷ []

abbrev acc_kept : ℕ → Relation
acc_kept address = record { holdings = holdings_if (3 == address); known = [] }

-- ---- relations

abbrev label_if : Bool → Bool → Option Checkpoint
label_if x y = if x then Some (At 0) else if y then Some TheEnd else None

abbrev view_if : Bool → List ℕ → Option ExprModel
view_if x name = if x && same_name (codes "a") name then Some (reg 1 16) else None

module _ (s : State) (cells : List ℕ) where
  -- at the test, at the end, and where no mark is
  moved : (x y : Bool) → AreShownAs (hidden_at hidden_counter.hidden (label_if x y)) (view_if x) map.places s cells → AllHold (one ∷ []) s cells
      → AreShownAs (hidden_at held_counter.hidden (label_if x y)) (λ name. None) map.places s cells × AllHold (holdings_if x) s cells
  moved true y h holds = ((tt, tt), (holds.0, (h.0.1, tt)))
  moved false true h holds = ((tt, tt), holds)
  moved false false h holds = (h, holds)

  hide : (address : ℕ) → IsRelated hidden_counter map one_kept address s cells → IsRelated held_counter map acc_kept address s cells
  hide address r = (let m = moved (3 == address) (6 == address) r.seen r.holds in record { seen = m.0; holds = m.1; known = tt })

  -- from the test's mark
  show : IsRelated held_counter map acc_kept 3 s cells → IsRelated hidden_counter map one_kept 3 s cells
  show r = record { seen = ((refl, r.holds.1.0), tt); holds = (r.holds.0, tt); known = tt }

arrives : (clocks : ℕ) (label : Option Checkpoint) (cells : List ℕ) (s : State) → Arrives a16 hidden_counter one_kept map clocks label cells s → Arrives a16 held_counter acc_kept map clocks label cells s
arrives clocks label cells s a = record {
  taken = a.taken;
  last = a.last;
  address = a.address;
  within = a.within;
  reaches = a.reaches;
  here = a.here;
  marked = a.marked;
  related = hide a.last cells a.address a.related;
}

crosses : (clocks : ℕ) (label : Option Checkpoint) (cells : List ℕ) (s : State) → Crosses a16 hidden_counter one_kept map clocks label cells s → Crosses a16 held_counter acc_kept map clocks label cells s
crosses clocks label cells s c = record { next = c.next; clocked = c.clocked; arrives = arrives clocks label cells c.next c.arrives }

-- ---- right code

shown_at : (address tree : ℕ) (s : State) (cells : List ℕ) → label_at hidden_counter.image.marks address ≡ Some (At tree) → IsRelated held_counter map acc_kept address s cells → IsRelated hidden_counter map one_kept address s cells
shown_at address tree s cells label r =
    subst (λ (a : ℕ). IsRelated hidden_counter map one_kept a s cells) (sym (at_three hidden_counter 6 refl address tree label).0)
    (show s cells (subst (λ (a : ℕ). IsRelated held_counter map acc_kept a s cells) (at_three hidden_counter 6 refl address tree label).0 r))

held_followed : IsFollowed a16 held_counter acc_kept map 3 counted
held_followed = record {
  last = hidden_followed.last;
  long = hidden_followed.long;
  end_word = hidden_followed.end_word;
  start = λ n path is s calm safe asks. arrives hidden_followed.last _ _ s (hidden_followed.start n path is s calm safe asks);
  tests = λ address tree place one zer label is answer n path way job there s cells calm related holds safe are later asks.
      crosses hidden_followed.last _ _ s
      (hidden_followed.tests address tree place one zer label is answer n path way job there s cells calm (shown_at address tree s cells label related) holds safe are later asks);
}

pub held_right : IsRightByViews a16 16 counted held_counter
held_right =
    followed_right a16 16 counted held_counter acc_kept
    (record { program = refl; words = refl; laid = hidden_laid; views = tt; start = refl; marks = hidden_marks; followed = held_followed })
