-- Which places of a flow are entered, as a table.
use Rattle.std.specs.Prelude.{Bool, List, length, map}
use Rattle.std.specs.List.{range_with_len}
use Rattle.form_model.specs.declared.flow.Flow.{Flow}
use Rattle.src_trees.specs.Blocks.{is_entered}

-- for each place whether a test or a jump goes there
abbrev pub entered_places : List Flow → List Bool
entered_places flow = map (is_entered flow) (range_with_len 0 (length flow))
