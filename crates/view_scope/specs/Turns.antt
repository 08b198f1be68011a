-- The order of remarks: hiding at tests by number, hiding at the end, views, holdings, numbers; those
-- at marks by address; then by the variable's place, or by what holds the value: registers by their
-- numbers, cells of the file, and cells of the memory.
use Rattle.std.specs.Prelude.{ℕ, ◌==◌, ◌&&◌, ◌||◌, not, nat_lt, if◌then◌else◌, Bool, true, false, Option, None, Some}
use Rattle.view_scope.specs.declared.turn.HolderSpace.{HolderSpace}
use Rattle.view_scope.specs.declared.turn.HolderSpace.TheVariants.{Registers, File, Memory}
use Rattle.view_scope.specs.declared.turn.Turn.{Turn}
use Rattle.view_scope.specs.declared.turn.Turn.TheVariants.{HideAtTest, HideAtEnd, View, Hold, Know}

-- of two registers or cells
abbrev pub is_holder_before : HolderSpace → ℕ → HolderSpace → ℕ → Bool
is_holder_before Registers index Registers other = nat_lt index other
is_holder_before Registers index _ other = true
is_holder_before File index Registers other = false
is_holder_before File index File other = nat_lt index other
is_holder_before File index Memory other = true
is_holder_before Memory index Memory other = nat_lt index other
is_holder_before Memory index _ other = false

-- by the test or the mark, and where both have one, by what is said last
abbrev pub is_first_by : ℕ → ℕ → Bool → Bool
is_first_by first second then_before = if first == second then then_before else nat_lt first second

unfoldable pub is_before : Turn → Turn → Bool
is_before (HideAtTest test variable) (HideAtTest next other) = is_first_by test next (nat_lt variable other)
is_before (HideAtTest test variable) _ = true
is_before _ (HideAtTest next other) = false
is_before (HideAtEnd variable) (HideAtEnd other) = nat_lt variable other
is_before (HideAtEnd variable) _ = true
is_before _ (HideAtEnd other) = false
is_before (View address variable) (View next other) = is_first_by address next (nat_lt variable other)
is_before (View address variable) _ = true
is_before _ (View next other) = false
is_before (Hold address space index) (Hold next next_space other) =
    is_first_by address next (is_holder_before space index next_space other)
is_before (Hold address space index) _ = true
is_before _ (Hold next next_space other) = false
is_before (Know address variable) (Know next other) = is_first_by address next (nat_lt variable other)

abbrev pub is_view : Turn → Bool
is_view (View address variable) = true
is_view _ = false

-- a remark comes behind those before it; a view may have the turn of another, since it is a rule of
-- views that a variable has one at a mark
unfoldable pub may_follow : Option Turn → Turn → Bool
may_follow None next = true
may_follow (Some last) next = is_before last next || (is_view next && not (is_before next last))
