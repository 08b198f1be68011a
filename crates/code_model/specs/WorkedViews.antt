-- A loop that keeps its variable in a register, computed: what is seen through the view, and what is
-- seen without it. And one that doesn't store it at its end: what is shown where it is hidden there.
use Rattle.std.specs.Prelude.{ℕ, ◌≡◌, refl, List, [], ◌∷◌, codes, Some, None}
use Rattle.std.proofs.Common.{arith}
use Rattle.net_model.specs.declared.states.State.{State}
use Rattle.net_model.specs.declared.expression.Expr.TheVariants.{Reg}
use Rattle.net_model.specs.Worked.{a16}
use Rattle.src_model.specs.declared.checkpoint.Checkpoint.TheVariants.{At, End}
use Rattle.src_model.specs.Ways.{Passed}
use Rattle.code_model.specs.declared.image.Word.{Word}
use Rattle.code_model.specs.declared.views.Viewed.{Viewed}
use Rattle.code_model.specs.Machine.{Traced, Shows, Clashes, trace_of, store_in}
use Rattle.code_model.specs.Right.{passed_of}
use Rattle.code_model.specs.Views.{viewed_store, shown_store, masked, mask_store, ArePlainViews}

abbrev pub word : ℕ → Word
word bits = record { word = bits; patterns = [] }

-- var a; while a != 0 { a = a - 1; }, where a stands at 3, and in the accumulator at the test: 1 is put
-- into the temporary cell 0, a into the accumulator; the test at 3 goes to 6, where a is put back
abbrev pub kept_counter : Viewed
kept_counter = record {
  image = record {
    bits = 12;
    temps = 3;
    places = record { name = codes "a"; address = 3; len = 1 } ∷ [];
    costs = [];
    marks = record { address = 3; label = Some 0 } ∷ record { address = 7; label = None } ∷ [];
    words =
        word 0x501 ∷ word 0x400 ∷ word 0x103 ∷ word 0x706 ∷ word 0x300 ∷ word 0x603 ∷ word 0x403
        ∷ word 0x607 ∷ [];
  };
  views = record { address = 3; name = codes "a"; value = Reg 1 16 } ∷ [];
  hidden = [];
}

pub plain : ArePlainViews a16 kept_counter.image kept_counter.views
plain = (
  record { tree = 0; marked = refl; later = omega arith; place = record { name = codes "a"; address = 3; len = 1 }; named = refl; one = refl; registers = refl; wide = refl },
  tt,
  tt,
)

-- a starts as this number
abbrev pub start : ℕ → State
start a = record { regs = 0 ∷ 0 ∷ 0 ∷ []; cells = 0 ∷ 0 ∷ 0 ∷ a ∷ 0 ∷ []; file = [] }

abbrev pub passed : Traced → List Passed
passed (Shows entries) = passed_of entries
passed Clashes = []

abbrev test : ℕ → Passed
test a = record { label = At 0; cells = a ∷ [] }

pub counted : passed (trace_of (viewed_store a16 kept_counter) a16 kept_counter.image (start 2) 0 14)
    ≡ test 2 ∷ test 1 ∷ test 0 ∷ record { label = End; cells = 0 ∷ [] } ∷ []
counted = refl

-- its place shows the first value until the end
pub uncounted : passed (trace_of (store_in kept_counter.image) a16 kept_counter.image (start 2) 0 14)
    ≡ test 2 ∷ test 2 ∷ test 2 ∷ record { label = End; cells = 0 ∷ [] } ∷ []
uncounted = refl

-- ---- a counter that is hidden at the end

-- the same loop, where a isn't put back: the test at 3 goes to the last word
abbrev pub hidden_counter : Viewed
hidden_counter = record {
  image = record {
    bits = 12;
    temps = 3;
    places = record { name = codes "a"; address = 3; len = 1 } ∷ [];
    costs = [];
    marks = record { address = 3; label = Some 0 } ∷ record { address = 6; label = None } ∷ [];
    words = word 0x501 ∷ word 0x400 ∷ word 0x103 ∷ word 0x706 ∷ word 0x300 ∷ word 0x603 ∷ word 0x606 ∷ [];
  };
  views = record { address = 3; name = codes "a"; value = Reg 1 16 } ∷ [];
  hidden = record { label = None; name = codes "a" } ∷ [];
}

-- without a word of what is hidden
abbrev pub bare_counter : Viewed
bare_counter = record { image = hidden_counter.image; views = hidden_counter.views; hidden = [] }

pub hidden_plain : ArePlainViews a16 hidden_counter.image hidden_counter.views
hidden_plain = (
  record { tree = 0; marked = refl; later = omega arith; place = record { name = codes "a"; address = 3; len = 1 }; named = refl; one = refl; registers = refl; wide = refl },
  tt,
  tt,
)

-- its place shows the first value at the end, and a zero is shown for it where it is hidden
pub shown_bare : passed (trace_of (shown_store a16 bare_counter) a16 bare_counter.image (start 2) 0 14)
    ≡ test 2 ∷ test 1 ∷ test 0 ∷ record { label = End; cells = 2 ∷ [] } ∷ []
shown_bare = refl

pub shown_hidden : passed (trace_of (shown_store a16 hidden_counter) a16 hidden_counter.image (start 2) 0 14)
    ≡ test 2 ∷ test 1 ∷ test 0 ∷ record { label = End; cells = 0 ∷ [] } ∷ []
shown_hidden = refl

-- a store at the end is masked, and those at the test are not
pub masked_counter : masked hidden_counter (test 1 ∷ record { label = End; cells = 7 ∷ [] } ∷ [])
    ≡ test 1 ∷ record { label = End; cells = 0 ∷ [] } ∷ []
masked_counter = refl

-- of two variables the second, of two cells
pub masked_two : mask_store (codes "b" ∷ [])
    (record { name = codes "a"; address = 3; len = 1 } ∷ record { name = codes "b"; address = 4; len = 2 } ∷ []) (1 ∷ 2 ∷ 3 ∷ [])
    ≡ 1 ∷ 0 ∷ 0 ∷ []
masked_two = refl
