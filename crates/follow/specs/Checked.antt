-- What a check has to find, so that an image is right code by views: the program keeps its rules, and
-- its words are those of the data memory; the variables stand at the image's places; the views are
-- plain; nothing is hidden at the first word; the marks are the program's; and by some relations,
-- one for each address, all marks follow it.
use Rattle.std.specs.Prelude.{ℕ, ◌≡◌, [], None}
use Rattle.net_model.specs.declared.hardware.Netlist.{Netlist}
use Rattle.net_model.specs.Nets.{memory_width}
use Rattle.src_model.specs.Rules.{first_fault}
use Rattle.src_model.specs.Written.{ProgramModel}
use Rattle.code_model.specs.declared.views.Viewed.{Viewed}
use Rattle.code_model.specs.Views.{ArePlainViews, hidden_in}
use Rattle.src_trees.specs.Flows.{program_flow}
use Rattle.follow.specs.Followed.{IsFollowed}
use Rattle.follow.specs.Relations.{Relation}
use Rattle.follow.specs.RightByViews.{HasMarksOf, IsLaidFor, image_memory}

pub record PassesCheck (netlist : Netlist) (width : ℕ) (l : ProgramModel) (viewed : Viewed)
    (relation : ℕ → Relation) : Type 0 where
  pub program : first_fault width l ≡ None
  pub words : memory_width netlist.storages ≡ width
  pub laid : IsLaidFor netlist width l viewed.image
  pub views : ArePlainViews netlist viewed.image viewed.views
  pub start : hidden_in viewed 0 ≡ []
  pub marks : HasMarksOf (program_flow l) viewed.image
  pub followed : IsFollowed netlist viewed relation (image_memory netlist width viewed.image) viewed.image.temps l
