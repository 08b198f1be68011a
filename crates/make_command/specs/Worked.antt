-- A summary as it is written, and where a small processor stops, computed.
use Rattle.std.specs.Prelude.{ℕ, ◌≡◌, ◌<◌, zero, suc, refl, List, [], ◌∷◌, None, codes}
use Rattle.std.specs.Fmt.{digits}
use Rattle.std.specs.List.{concat}
use Rattle.std.proofs.Common.{arith, inl, subst, sym}
use Rattle.net_model.specs.declared.states.State.{State}
use Rattle.net_model.specs.Clock.{Reached, run}
use Rattle.net_model.specs.Worked.{s8}
use Rattle.code_model.specs.declared.image.Image.{Image}
use Rattle.code_model.specs.declared.image.Place.{Place}
use Rattle.code_model.specs.declared.image.Word.{Word}
use Rattle.code_model.specs.Places.{words_of}
use Rattle.make_command.specs.Stops.{IsAtEnd, StopsAt}
use Rattle.make_command.specs.Summary.{summary_text, variable_line}

-- ---- the summary of 1, whose nine variables stand behind three temporary cells

abbrev place : List ℕ → ℕ → Place
place name address = record { name = name; address = address; len = 1 }

abbrev places : List Place
places =
    place (codes "v0") 3 ∷ place (codes "v1") 4 ∷ place (codes "v2") 5 ∷ place (codes "v3") 6
    ∷ place (codes "v4") 7 ∷ place (codes "v5") 8
    ∷ place (codes "v6") 9 ∷ place (codes "v7") 10 ∷ place (codes "i") 11 ∷ []

abbrev cells : List ℕ
cells = 0 ∷ 0 ∷ 10 ∷ 1 ∷ 2 ∷ 3 ∷ 4 ∷ 5 ∷ 6 ∷ 17 ∷ 8 ∷ 10 ∷ 0 ∷ []

summary_of_one : summary_text 1 31 143 12 places cells ≡ concat (
    codes "make 1\nwords 31\ncycles 143\ncheckpoints 12\n"
    ∷ codes "v0=1\nv1=2\nv2=3\nv3=4\nv4=5\nv5=6\nv6=17\nv7=8\ni=10\ndone\n" ∷ [])
unfolding variable_line digits
summary_of_one = refl

-- ---- two words that store, and one that goes to itself, where the end is marked

abbrev word : ℕ → Word
word value = record { word = value; patterns = [] }

abbrev image : Image
image = record {
  bits = 8;
  temps = 0;
  places = [];
  costs = [];
  marks = record { address = 2; label = None } ∷ [];
  words = word 3 ∷ word 63 ∷ word 130 ∷ [];
}

abbrev start : State
start = record { regs = 0 ∷ 0 ∷ []; cells = 0 ∷ 0 ∷ 0 ∷ 0 ∷ []; file = [] }

abbrev last : State
last = record { regs = 2 ∷ 0 ∷ []; cells = 3 ∷ 31 ∷ 0 ∷ 0 ∷ []; file = [] }

abbrev between : State
between = record { regs = 1 ∷ 0 ∷ []; cells = 3 ∷ 0 ∷ 0 ∷ 0 ∷ []; file = [] }

reaches : (s t : State) → Reached s ≡ Reached t → (IsAtEnd s8 image s → ⊥) → IsAtEnd s8 image t → ⊥
reaches s t r not is = let same : s ≡ t = cc in not (subst (IsAtEnd s8 image) (sym same) is)

-- the end is seen first after two clocks
not_before : (k : ℕ) (s : State) → k < 2 → run s8 (words_of image) start k ≡ Reached s → IsAtEnd s8 image s → ⊥
not_before zero s lt r is = reaches start s r (λ e. cc) is
not_before (suc zero) s lt r is = reaches between s r (λ e. cc) is
not_before (suc (suc k)) s lt r is = absurd (omega arith)

stops : StopsAt s8 (words_of image) (IsAtEnd s8 image) start 10 2 last
stops = record { within = omega arith; reached = refl; before = not_before; stops = inl refl }

-- and not after three
stops_once : (t : State) → StopsAt s8 (words_of image) (IsAtEnd s8 image) start 10 3 t → ⊥
stops_once t h = h.before 2 last (omega arith) refl refl
