use Rattle.std.proofs.Common.{◌+◌, ◌*◌}
use Rattle.std.specs.Prelude.{max}
use Rattle.transfer_set.proofs.texts.+term.Given as goal

-- parts come before their wholes

abbrev pub decreases-add_term : goal.decreases-add_term
decreases-add_term l = 3 * l.expr

abbrev pub decreases-add_first : goal.decreases-add_first
decreases-add_first l = 3 * l.a + 1

abbrev pub decreases-add_next : goal.decreases-add_next
decreases-add_next l = 3 * l.b + 1

abbrev pub decreases-add_read : goal.decreases-add_read
decreases-add_read l = 3 * l.addr + 2

abbrev pub decreases-add_one : goal.decreases-add_one
decreases-add_one l = 3 * l.a + 2

abbrev pub decreases-add_two : goal.decreases-add_two
decreases-add_two l = 3 * max l.a l.b + 2

abbrev pub decreases-add_slice : goal.decreases-add_slice
decreases-add_slice l = 3 * l.a + 2

abbrev pub decreases-add_extension : goal.decreases-add_extension
decreases-add_extension l = 3 * l.a + 2

abbrev pub decreases-add_select : goal.decreases-add_select
decreases-add_select l = 3 * max l.c (max l.a l.b) + 2
