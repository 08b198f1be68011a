-- Two runs of a program on a small processor, computed: what its code shows, and the text of that.
use Rattle.std.specs.Prelude.{ℕ, ◌≡◌, refl, List, [], ◌∷◌, codes, Some, None}
use Rattle.std.specs.Fmt.{digits}
use Rattle.net_model.specs.declared.states.State.{State}
use Rattle.net_model.specs.Worked.{a16}
use Rattle.src_model.specs.declared.checkpoint.Checkpoint.TheVariants.{At}
use Rattle.src_model.specs.declared.program.Var.{Var as Declared}
use Rattle.code_model.specs.declared.image.Image.{Image}
use Rattle.code_model.specs.declared.image.Word.{Word}
use Rattle.code_model.specs.Machine.{TraceEntry, Traced, Shows, Clashes, mtrace}
use Rattle.checkpoint_watch.specs.Texts.{checkpoint_text}

abbrev word : ℕ → Word
word bits = record { word = bits; patterns = [] }

-- var a; while a != 0 { a = a - 1; } 0103 0708 0501 0400 0103 0300 0403 0600 0608, where a stands
-- at 3, the test at 0 and the end at 8
abbrev counting_down : Image
counting_down = record {
  bits = 12;
  temps = 3;
  places = record { name = codes "a"; address = 3; len = 1 } ∷ [];
  costs = [];
  marks = record { address = 0; label = Some 0 } ∷ record { address = 8; label = None } ∷ [];
  words =
      word 0x103 ∷ word 0x708 ∷ word 0x501 ∷ word 0x400 ∷ word 0x103 ∷ word 0x300 ∷ word 0x403
      ∷ word 0x600 ∷ word 0x608 ∷ [];
}

abbrev counted : List Declared
counted = record { name = codes "a"; at = 4; len = None } ∷ []

-- a starts as this number
abbrev start : ℕ → State
start a = record { regs = 0 ∷ 0 ∷ 0 ∷ []; cells = 0 ∷ 0 ∷ 0 ∷ a ∷ 0 ∷ []; file = [] }

-- the text of ten cycles
abbrev text_of : Traced → List ℕ
text_of (Shows entries) = checkpoint_text counted entries
text_of Clashes = []

pub from_zero : text_of (mtrace a16 counting_down (start 0) 0 10) ≡ codes "at 0 0\nat 2 end\nend\n"
unfolding digits
from_zero = refl

pub from_greatest : text_of (mtrace a16 counting_down (start 65535) 0 10)
    ≡ codes "at 0 0 a=65535\nat 8 0 a=65534\nbudget\n"
unfolding digits
from_greatest = refl

-- an array of one cell has an index, a plain variable has none; a cell that becomes 0 is told, and
-- one that stays isn't
abbrev one_each : List Declared
one_each = record { name = codes "x"; at = 4; len = Some 1 } ∷ record { name = codes "y"; at = 10; len = None } ∷ []

abbrev seen : ℕ → List ℕ → TraceEntry
seen cycle cells = record { cycle = cycle; passed = record { label = At 7; cells = cells } }

pub since_the_last : checkpoint_text one_each (seen 3 (1 ∷ 2 ∷ []) ∷ seen 5 (0 ∷ 2 ∷ []) ∷ [])
    ≡ codes "at 3 7 x[0]=1 y=2\nat 5 7 x[0]=0\nbudget\n"
unfolding digits
since_the_last = refl
