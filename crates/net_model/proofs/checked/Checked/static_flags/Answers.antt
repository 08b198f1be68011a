use Rattle.net_model.proofs.checked.Checked.static_flags.Goals as goal

pub flags_of-requires : goal.flags_of-requires
flags_of-requires c = rw c.as_slice-order.ensures c.self.invariant.ordered

pub returns-clause-long : goal.returns-clause-long
returns-clause-long c = rw (← c.self.view_is) c.flags_of.ensures.long

pub returns-clause-flags : goal.returns-clause-flags
returns-clause-flags c = rw (← c.self.view_is) c.flags_of.ensures.flags
