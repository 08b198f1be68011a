-- What a check of an image with views promises where it passes.
use Rattle.std.specs.Prelude.{ℕ, ◌+◌, ◌≡◌, length}
use Rattle.net_model.specs.declared.hardware.Netlist.{Netlist}
use Rattle.src_model.specs.Written.{ProgramModel}
use Rattle.code_model.specs.declared.views.Viewed.{Viewed}
use Rattle.code_model.specs.Places.{words_of}
use Rattle.follow.specs.Relations.{Relation}
use Rattle.follow.specs.RightByViews.{IsRightByViews, image_memory}
use Rattle.followed.specs.declared.passed.Passed.{Passed}
use Rattle.followed.specs.Turned.{AreTurns, IsFirstTurn, tests_of}

-- the ways of an image's words, by relations of its marks; but for a first clock, none takes more than
-- one image length
pub record AreWays (netlist : Netlist) (width : ℕ) (l : ProgramModel) (viewed : Viewed) (relation : ℕ → Relation) (passed : Passed) : Type 0 where
  pub most : ℕ
  pub long : length (words_of viewed.image) ≡ most + 1
  pub first : IsFirstTurn netlist viewed relation (image_memory netlist width viewed.image) viewed.image.temps l most passed.first
  pub turns : AreTurns netlist viewed relation (image_memory netlist width viewed.image) viewed.image.temps l most (tests_of viewed.image.marks) passed.turns

-- the image is right code by its views, and these are the ways of its words
pub record HasPassed (netlist : Netlist) (width : ℕ) (l : ProgramModel) (viewed : Viewed) (relation : ℕ → Relation) (passed : Passed) : Type 0 where
  pub right : IsRightByViews netlist width l viewed
  pub ways : AreWays netlist width l viewed relation passed
