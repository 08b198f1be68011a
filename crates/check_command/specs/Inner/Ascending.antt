-- What goes up the addresses of an image.
use Rattle.std.specs.Prelude.{ℕ, ◌≡◌, ◌≤◌, List, Some, slice_get}
use Rattle.code_model.specs.declared.image.Mark.{Mark}
use Rattle.code_model.specs.declared.views.View.{View}
use Rattle.code_model.specs.Places.{label_at}

-- some of the marks say what all do of the addresses of the view of a number and of those behind it
abbrev pub SayOf : List View → List Mark → List Mark → ℕ → Type 0
SayOf views marks some at =
    (k : ℕ) (view : View) → at ≤ k → slice_get views k ≡ Some view → label_at some view.address ≡ label_at marks view.address
