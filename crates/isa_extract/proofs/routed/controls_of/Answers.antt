use Rattle.isa_extract.proofs.routed.controls_of.Goals as goal

pub returns-in-Err-AlwaysClash-clause-refused : goal.returns-in-Err-AlwaysClash-clause-refused
returns-in-Err-AlwaysClash-clause-refused c =
    rw c.in-Err-AlwaysClash.field-0-is at c.in-Err-AlwaysClash.ensures.control
