-- A search for the strongly connected components of the nets: those that depend on each other.
use Rattle.std.specs.Prelude.{ℕ, ◌+◌, ◌-◌, ◌*◌, ◌<◌, ◌≤◌, ◌≡◌, ◌⊎◌, ◌++◌, Bool, true, false, List, [], ◌∷◌, length, take, slice_index, slice_index_or, slice_set}
use Rattle.std.specs.List.{AllByRecursion}
use Rattle.net_model.specs.Depends.{Among, Depends}
use Rattle.net_check.specs.Inner.Graphs.{named_in}
use Rattle.net_check.specs.declared.cycle.Mark.{Mark}
use Rattle.net_check.specs.declared.cycle.Mark.TheVariants.{New, Met, Done}
use Rattle.net_check.specs.declared.cycle.Search.{Search}

abbrev pub mark_at : List Mark → ℕ → Mark
mark_at marks n = slice_index_or marks n New

-- whether a net was told to lie on a cycle
abbrev pub on_cycle : Mark → Bool
on_cycle (Done told) = told
on_cycle _ = false

-- a net is met, at this index
pub record MetAt (marks : List Mark) (m i : ℕ) : Type 0 where
  pub place : ℕ
  pub is : mark_at marks m ≡ Met i place

-- the component of a net is complete
pub record IsDone (marks : List Mark) (m : ℕ) : Type 0 where
  pub told : Bool
  pub is : mark_at marks m ≡ Done told

-- a net is another, or depends on it
abbrev pub IsPathTo : List (List ℕ) → ℕ → ℕ → Type 0
IsPathTo graph a b = (a ≡ b) ⊎ Depends (named_in graph) a b

-- no component begins behind q and not behind p
abbrev pub Uncut : List ℕ → ℕ → ℕ → Type 0
Uncut starts p q = (s : ℕ) → Among s starts → (s ≤ q) ⊎ (p < s)

-- what a net at this index has seen: nets of complete components, of its own and of later ones
abbrev pub SeenFrom : List Mark → List ℕ → ℕ → ℕ → Type 0
SeenFrom marks starts i d = IsDone marks d ⊎ ((j : ℕ) × MetAt marks d j × Uncut starts i j)

abbrev pub Rising : List ℕ → Type 0
Rising [] = Unit {0}
Rising (x ∷ xs) = ((y : ℕ) → Among y xs → x < y) × Rising xs

-- the nets of a path stand at rising indices
abbrev pub Climbs : List Mark → List ℕ → Type 0
Climbs marks [] = Unit {0}
Climbs marks (x ∷ xs) = ((y : ℕ) → Among y xs → (i j : ℕ) → MetAt marks x i → MetAt marks y j → i < j) × Climbs marks xs

-- met nets stand in components, each of which begins with a net of the path; a net of a component
-- depends on the others of it and on those of later ones, and names none of an earlier one;
-- complete components name complete components alone, and are told to lie on cycles or not
pub record IsSearch (graph : List (List ℕ)) (marks : List Mark) (met starts path : List ℕ) : Type 0 where
  pub long : length marks ≡ length graph
  pub at : (i : ℕ) → i < length met → MetAt marks (slice_index met i) i
  pub back : (m i : ℕ) → MetAt marks m i → (i < length met) × (slice_index met i ≡ m)
  pub joined : (p q : ℕ) → p < length met → q < length met → Uncut starts p q →
      IsPathTo graph (slice_index met p) (slice_index met q)
  pub seen : (m i k : ℕ) → mark_at marks m ≡ Met i k →
      AllByRecursion (SeenFrom marks starts i) (take k (named_in graph m))
  pub ended : (m i k : ℕ) → mark_at marks m ≡ Met i k → Among m path ⊎ (length (named_in graph m) ≤ k)
  pub rising : Rising starts
  pub low : (s : ℕ) → Among s starts → s < length met
  pub begun : (s : ℕ) → Among s starts → Among (slice_index met s) path
  pub based : (i : ℕ) → i < length met → (s : ℕ) × Among s starts × (s ≤ i)
  pub climbs : Climbs marks path
  pub on_path : (m : ℕ) → Among m path → (i : ℕ) × MetAt marks m i
  pub closed : (m : ℕ) → IsDone marks m → AllByRecursion (IsDone marks) (named_in graph m)
  pub cyclic : (m : ℕ) → mark_at marks m ≡ Done true → Depends (named_in graph) m m
  pub acyclic : (m : ℕ) → mark_at marks m ≡ Done false → Depends (named_in graph) m m → ⊥

-- what is left to do
abbrev pub left : Mark → ℕ → ℕ
left New n = n + 2
left (Met i k) n = n + 1 - k
left (Done told) n = 0

abbrev pub work : List (List ℕ) → List Mark → ℕ
work [] marks = 0
work (named ∷ graph) [] = 0
work (named ∷ graph) (mark ∷ marks) = left mark (length named) + work graph marks

-- no net is new again
abbrev pub Later : List Mark → List Mark → Type 0
Later old new = (m : ℕ) → mark_at new m ≡ New → mark_at old m ≡ New

pub record GoesOn (graph : List (List ℕ)) (path : List ℕ) (old new : Search) : Type 0 where
  pub kept : IsSearch graph new.marks new.met new.starts new.path
  pub later : Later old.marks new.marks
  pub less : 2 * work graph new.marks + length new.path < 2 * work graph old.marks + length path

-- a net is met, as the first of a component of its own
pub record IsMet (old new : Search) (net : ℕ) : Type 0 where
  pub marks : new.marks ≡ slice_set old.marks net (Met (length old.met) 0)
  pub met : new.met ≡ old.met ++ net ∷ []
  pub starts : new.starts ≡ old.starts ++ length old.met ∷ []
  pub path : new.path ≡ old.path ++ net ∷ []

-- the components that begin behind a place are joined with the one round it
pub record IsMerged (at : ℕ) (old new : List ℕ) : Type 0 where
  pub from : (s : ℕ) → Among s new → Among s old
  pub kept : (s : ℕ) → Among s old → s ≤ at → Among s new
  pub low : (s : ℕ) → Among s new → s ≤ at
  pub rising : Rising new

-- the nets from an index on are complete
pub record IsComplete (graph : List (List ℕ)) (index : ℕ) (told : Bool) (old new : Search) : Type 0 where
  pub long : length new.marks ≡ length old.marks
  pub met : new.met ≡ take index old.met
  pub starts : new.starts ≡ old.starts
  pub path : new.path ≡ old.path
  pub inside : (m i : ℕ) → MetAt old.marks m i → index ≤ i → mark_at new.marks m ≡ Done told
  pub outside : (m : ℕ) → ((i : ℕ) → MetAt old.marks m i → i < index) → mark_at new.marks m ≡ mark_at old.marks m
  pub eased : work graph new.marks ≤ work graph old.marks

-- the same, as far as the nets that are left
pub record IsCompleting (graph : List (List ℕ)) (index : ℕ) (told : Bool) (old now : Search) : Type 0 where
  pub long : length now.marks ≡ length old.marks
  pub within : index ≤ length now.met
  pub met : now.met ≡ take (length now.met) old.met
  pub starts : now.starts ≡ old.starts
  pub path : now.path ≡ old.path
  pub inside : (m i : ℕ) → MetAt old.marks m i → length now.met ≤ i → mark_at now.marks m ≡ Done told
  pub outside : (m : ℕ) → ((i : ℕ) → MetAt old.marks m i → i < length now.met) →
      mark_at now.marks m ≡ mark_at old.marks m
  pub eased : work graph now.marks ≤ work graph old.marks

-- met nets stand at their indices
pub record IsIndexed (marks : List Mark) (met : List ℕ) : Type 0 where
  pub at : (i : ℕ) → i < length met → MetAt marks (slice_index met i) i
  pub back : (m i : ℕ) → MetAt marks m i → (i < length met) × (slice_index met i ≡ m)

-- a root and all that it depends on have complete components
pub record IsRooted (graph : List (List ℕ)) (root : ℕ) (old new : Search) : Type 0 where
  pub kept : IsSearch graph new.marks new.met new.starts new.path
  pub empty : new.path ≡ []
  pub later : Later old.marks new.marks
  pub here : mark_at new.marks root ≡ New → ⊥

-- each net is told to lie on a cycle or not, as it does
pub record AreMarked (graph : List (List ℕ)) (marks : List Mark) : Type 0 where
  pub long : length marks ≡ length graph
  pub all : (m : ℕ) → m < length graph → IsDone marks m
  pub cyclic : (m : ℕ) → mark_at marks m ≡ Done true → Depends (named_in graph) m m
  pub acyclic : (m : ℕ) → mark_at marks m ≡ Done false → Depends (named_in graph) m m → ⊥
