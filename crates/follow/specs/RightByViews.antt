-- When an image with views is right code for a program, however it was made: the variables stand at
-- its places, behind its temporary cells; its views are plain; nothing is hidden at its first word;
-- its marks are those of the program's tests, each with one or more, and that of the end, which is
-- the last word alone; and it traces the program in the store that is seen through the views, but
-- for what is hidden: there both have zeros.
use Rattle.std.specs.Prelude.{ℕ, ◌+◌, ◌≡◌, List, [], length, Some, slice_get}
use Rattle.net_model.specs.declared.hardware.Netlist.{Netlist}
use Rattle.net_model.specs.declared.hardware.Space.TheVariants.{Memory as InMemory}
use Rattle.net_model.specs.Nets.{addr_width_in, memory_size}
use Rattle.src_model.specs.declared.checkpoint.Checkpoint.TheVariants.{At, End as TheEnd}
use Rattle.src_model.specs.Trace.{strace}
use Rattle.src_model.specs.Written.{ProgramModel}
use Rattle.code_model.specs.declared.image.Image.{Image}
use Rattle.code_model.specs.declared.views.Viewed.{Viewed}
use Rattle.code_model.specs.Places.{words_of, label_at}
use Rattle.code_model.specs.Right.{TracesBy}
use Rattle.code_model.specs.Views.{ArePlainViews, hidden_in, masked_trace, shown_store, viewed_store}
use Rattle.form_model.specs.declared.flow.Flow.{Flow}
use Rattle.form_model.specs.declared.flow.Flow.TheVariants.{Test}
use Rattle.src_trees.specs.Flows.{program_flow}
use Rattle.src_trees.specs.Held.{HasCellRoom, HoldsVars}
use Rattle.src_trees.specs.Lowered.{MemoryMap}

-- ---- places

-- the data memory with variables at an image's places
abbrev pub image_memory : Netlist → ℕ → Image → MemoryMap
image_memory netlist width image = record { word = width; addr = addr_width_in InMemory netlist.storages; places = image.places }

-- the program's variables stand at the places, behind the temporary cells; all lie in the memory, and
-- none in another
pub record IsLaidFor (netlist : Netlist) (width : ℕ) (l : ProgramModel) (image : Image) : Type 0 where
  pub held : HoldsVars image.temps l.vars (image_memory netlist width image)
  pub room : HasCellRoom image.temps (image_memory netlist width image) (memory_size netlist.storages)

-- ---- marks

-- a test of a flow with this number
pub record IsTestOf (flow : List Flow) (tree : ℕ) : Type 0 where
  pub at : ℕ
  pub when_one : ℕ
  pub when_zero : ℕ
  pub is : slice_get flow at ≡ Some (Test tree when_one when_zero)

-- an address with the mark of this test
pub record HasMark (image : Image) (tree : ℕ) : Type 0 where
  pub address : ℕ
  pub marked : label_at image.marks address ≡ Some (At tree)

-- each test has a mark, and each mark is that of a test or of the end, which the last word alone has
pub record HasMarksOf (flow : List Flow) (image : Image) : Type 0 where
  pub all : (tree : ℕ) → IsTestOf flow tree → HasMark image tree
  pub only : (address tree : ℕ) → label_at image.marks address ≡ Some (At tree) → IsTestOf flow tree
  pub end : (address : ℕ) → address + 1 ≡ length (words_of image) → label_at image.marks address ≡ Some TheEnd
  pub end_only : (address : ℕ) → label_at image.marks address ≡ Some TheEnd → address + 1 ≡ length (words_of image)

-- ---- right code

-- for a program, by what is shown
pub record IsRightByViews (netlist : Netlist) (width : ℕ) (l : ProgramModel) (viewed : Viewed) : Type 0 where
  pub laid : IsLaidFor netlist width l viewed.image
  pub views : ArePlainViews netlist viewed.image viewed.views
  pub start : hidden_in viewed 0 ≡ []
  pub marks : HasMarksOf (program_flow l) viewed.image
  pub traces : TracesBy (shown_store netlist viewed) netlist viewed.image (masked_trace viewed (strace width l))

-- where every variable is seen at every mark
pub record IsRightAsSeen (netlist : Netlist) (width : ℕ) (l : ProgramModel) (viewed : Viewed) : Type 0 where
  pub laid : IsLaidFor netlist width l viewed.image
  pub views : ArePlainViews netlist viewed.image viewed.views
  pub marks : HasMarksOf (program_flow l) viewed.image
  pub traces : TracesBy (viewed_store netlist viewed) netlist viewed.image (strace width l)
