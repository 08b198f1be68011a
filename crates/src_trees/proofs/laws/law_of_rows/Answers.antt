use Rattle.src_trees.proofs.Cells.{row_held, row_cell_room}
use Rattle.src_trees.proofs.laws.law_of_rows.Goals as goal

pub returns-clause-held : goal.returns-clause-held
returns-clause-held c = row_held

pub returns-clause-room : goal.returns-clause-room
returns-clause-room c = row_cell_room
