-- What goes up the addresses of an image.
use Rattle.std.specs.Prelude.{ℕ, ◌+◌, ◌≡◌, ◌≤◌, List, [], ◌∷◌}
use Rattle.code_model.specs.declared.views.View.{View}
use Rattle.code_model.specs.declared.views.Viewed.{Viewed}
use Rattle.code_model.specs.Places.{label_at}
use Rattle.code_model.specs.Views.{view_at}
use Rattle.mark_start.specs.declared.hints.Hint.{Hint}
use Rattle.followed.specs.declared.later.Later.{Later}

-- hints from an address on, each above those before it
abbrev pub AscendFrom : ℕ → List Hint → Type 0
AscendFrom low [] = Unit {0}
AscendFrom low (hint ∷ hints) = (low ≤ hint.address) × AscendFrom (hint.address + 1) hints

-- views from an address on, none below one before it
abbrev pub ComeFrom : ℕ → List View → Type 0
ComeFrom low [] = Unit {0}
ComeFrom low (view ∷ views) = (low ≤ view.address) × ComeFrom view.address views

-- from their address on, these marks and views say what all of an image do
pub record IsLater (viewed : Viewed) (later : Later) : Type 0 where
  pub come : ComeFrom 0 later.views.now
  pub marks : (address : ℕ) → later.low ≤ address → label_at later.marks.now address ≡ label_at viewed.image.marks address
  pub views : (address : ℕ) (name : List ℕ) → later.low ≤ address → view_at later.views.now address name ≡ view_at viewed.views address name
