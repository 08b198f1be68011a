-- When a segment as it is given to the check is one of an image with views, by a relation of its marks,
-- for a path of a program's flow.
use Rattle.std.specs.Prelude.{ℕ, ◌≡◌, false, List, [], ◌∷◌, map, Option, Some, None}
use Rattle.std.specs.Option.{option_map}
use Rattle.net_model.specs.declared.hardware.Netlist.{Netlist}
use Rattle.net_model.specs.Exprs.{ExprModel}
use Rattle.net_model.specs.Nets.{memory_size}
use Rattle.src_model.specs.declared.program.Var.{Var as Declared}
use Rattle.src_model.specs.Names.{is_array}
use Rattle.src_model.specs.Written.{ProgramModel}
use Rattle.code_model.specs.declared.image.Place.{Place}
use Rattle.code_model.specs.declared.views.Viewed.{Viewed}
use Rattle.code_model.specs.Places.{checkpoint_of, label_at, words_of}
use Rattle.code_model.specs.Views.{hidden_in, is_one_of, view_at}
use Rattle.form_model.specs.Trees.{model_of_tree}
use Rattle.src_trees.specs.Flows.{program_jobs}
use Rattle.src_trees.specs.Held.{HasCellRoom, StandFor}
use Rattle.src_trees.specs.Jobs.{models_of_jobs}
use Rattle.src_trees.specs.Lowered.{MemoryMap}
use Rattle.sym_expr.specs.declared.pool.Node.{Node}
use Rattle.sym_expr.specs.Pools.{expr_of_id}
use Rattle.sym_run.specs.Walks.{is_mark}
use Rattle.follow.specs.Followed.{label_of}
use Rattle.follow.specs.Paths.{Path}
use Rattle.follow.specs.Relations.{Holding, Known, Relation}
use Rattle.follow.specs.Trails.{all_jobs}
use Rattle.mark_start.specs.declared.hints.Hint.{Hint}
use Rattle.mark_start.specs.declared.hints.Holding.{Holding as Held}
use Rattle.mark_start.specs.declared.hints.Numbered.{Numbered}
use Rattle.mark_start.specs.declared.hints.Spot.{Spot}
use Rattle.segment.specs.declared.run.Segment.{Segment}
use Rattle.mark_start.specs.Runs.{IsCode}

-- ---- hints

-- the spots are the places, with their views, and say which variables are hidden
abbrev pub AreSpots : List (List ℕ) → (List ℕ → Option ExprModel) → List Node → List Place → List Spot → Type 0
AreSpots names view pool [] [] = Unit {0}
AreSpots names view pool (place ∷ places) (spot ∷ spots) =
    (spot.address ≡ place.address) × (spot.len ≡ place.len)
    × (view place.name ≡ option_map (expr_of_id pool) spot.view) × (spot.hidden ≡ is_one_of names place.name)
    × AreSpots names view pool places spots
AreSpots names view pool _ _ = ⊥

-- each spot says whether its variable is an array
abbrev pub AreArrays : List Declared → List Spot → Type 0
AreArrays [] [] = Unit {0}
AreArrays (v ∷ vars) (spot ∷ spots) = (spot.is_array ≡ is_array (Some v)) × AreArrays vars spots
AreArrays _ _ = ⊥

abbrev pub holding_of : List Node → Held → Holding
holding_of pool holding = record { place = expr_of_id pool holding.place; tree = model_of_tree holding.tree }

abbrev pub known_of : Numbered → Known
known_of one = record { address = one.address; number = one.number }

-- the hint says what the views and the relation of its address say
pub record IsHintOf (viewed : Viewed) (relation : ℕ → Relation) (m : MemoryMap) (vars : List Declared)
    (pool : List Node) (hint : Hint) : Type 0 where
  pub spots : AreSpots (hidden_in viewed hint.address) (view_at viewed.views hint.address) pool m.places hint.spots
  pub arrays : AreArrays vars hint.spots
  pub holdings : (relation hint.address).holdings ≡ map (holding_of pool) hint.holdings
  pub known : (relation hint.address).known ≡ map known_of hint.numbers

-- and has the mark's label
abbrev pub AreHintsOf : Viewed → (ℕ → Relation) → MemoryMap → List Declared → List Node → List Hint → Type 0
AreHintsOf viewed relation m vars pool [] = Unit {0}
AreHintsOf viewed relation m vars pool (hint ∷ hints) =
    IsHintOf viewed relation m vars pool hint
    × (label_at viewed.image.marks hint.address ≡ Some (checkpoint_of hint.label))
    × AreHintsOf viewed relation m vars pool hints

-- ---- segments

-- the spots are the places, seen as they are
pub record ArePlaces (m : MemoryMap) (vars : List Declared) (pool : List Node) (spots : List Spot) : Type 0 where
  pub spots_are : AreSpots [] (λ name. None) pool m.places spots
  pub arrays : AreArrays vars spots

-- the netlist has no mode; the segment's code is the image's; its marks, hints and jobs are those that
-- there are; and its path is the one of the flow
pub record IsAskedOf (netlist : Netlist) (viewed : Viewed) (relation : ℕ → Relation) (m : MemoryMap) (temps : ℕ)
    (l : ProgramModel)
    (path : Path) (segment : Segment) : Type 0 where
  pub code : IsCode netlist (words_of viewed.image) segment.start
  pub modeless : netlist.special ≡ None
  pub word : segment.start.word ≡ m.word
  pub temps_are : segment.start.temps ≡ temps
  pub stand : StandFor m.places l.vars
  pub room : HasCellRoom temps m (memory_size netlist.storages)
  pub marks : (a : ℕ) → is_mark segment.marks.now a ≡ false → label_at viewed.image.marks a ≡ None
  pub hints : AreHintsOf viewed relation m l.vars segment.start.pool.now segment.hints.now
  pub jobs : models_of_jobs segment.jobs.now ≡ program_jobs m l
  pub path_is : all_jobs (program_jobs m l) segment.path.now ≡ Some path.jobs
  pub to : label_of l path ≡ Some (checkpoint_of segment.label)
