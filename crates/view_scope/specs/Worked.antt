-- Worked widths, and which remarks may stand behind others.
use Rattle.std.specs.Prelude.{◌≡◌, true, false, List, [], ◌∷◌, codes, None, Some, refl}
use Rattle.net_model.specs.declared.hardware.Storage.{Storage}
use Rattle.net_model.specs.declared.hardware.Storage.TheVariants.{Register}
use Rattle.code_model.specs.declared.image.Place.{Place}
use Rattle.view_terms.specs.Terms.{TermModel, name, number, two, three}
use Rattle.view_scope.specs.declared.turn.HolderSpace.TheVariants.{Registers, File}
use Rattle.view_scope.specs.declared.turn.Turn.TheVariants.{HideAtTest, HideAtEnd, View, Hold, Know}
use Rattle.view_scope.specs.Turns.{is_before, may_follow}
use Rattle.view_scope.specs.Widths.{both_width, constant_width, element_read, element_width, extended_width, pair_width, part_width, sliced_width, three_width, tree_width, two_width}

-- two registers, of 8 and of 16 bits
abbrev storages : List Storage
storages = Register (codes "L") 8 0 None ∷ Register (codes "A") 16 1 None ∷ []

abbrev low : TermModel
low = three (codes "slice") (name (codes "A")) (number 7) (number 0)

-- the low byte of A may be added to L
agrees : part_width storages (two (codes "add") (name (codes "L")) low) ≡ Some 8
unfolding two_width three_width both_width pair_width sliced_width
agrees = refl

-- all of A may not
differs : part_width storages (two (codes "add") (name (codes "L")) (name (codes "A"))) ≡ None
unfolding two_width both_width pair_width
differs = refl

-- nor is anything extended to less
narrows : part_width storages (two (codes "zext") (name (codes "A")) (number 16)) ≡ None
unfolding two_width extended_width
narrows = refl

-- a number has room in its width
no_room : constant_width 256 8 ≡ None
unfolding constant_width
no_room = refl

-- an array of four cells, and an index as wide as a cell
abbrev places : List Place
places = record { name = codes "x"; address = 0; len = 4 } ∷ record { name = codes "i"; address = 4; len = 1 } ∷ []

element : tree_width places 16 (two (codes "read") (name (codes "x")) (name (codes "i"))) ≡ Some 16
unfolding two_width element_read element_width
element = refl

-- a register is no variable
register : tree_width places 16 (name (codes "A")) ≡ None
register = refl

-- what is hidden at the end stands behind what is hidden at tests
end_behind : may_follow (Some (HideAtTest 7 2)) (HideAtEnd 0) ≡ true
unfolding may_follow is_before
end_behind = refl

-- a holding stands behind views, at whatever marks, and none of these behind it
holding_behind : may_follow (Some (View 9 2)) (Hold 3 Registers 0) ≡ true
unfolding may_follow is_before
holding_behind = refl

view_before : may_follow (Some (Hold 3 Registers 0)) (View 9 2) ≡ false
unfolding may_follow is_before
view_before = refl

-- at one mark, cells of the file stand behind registers
file_behind : may_follow (Some (Hold 3 Registers 7)) (Hold 3 File 0) ≡ true
unfolding may_follow is_before
file_behind = refl

-- a view may have the turn of the one before, and a number may not
again : may_follow (Some (View 3 1)) (View 3 1) ≡ true
unfolding may_follow is_before
again = refl

not_again : may_follow (Some (Know 3 1)) (Know 3 1) ≡ false
unfolding may_follow is_before
not_again = refl
