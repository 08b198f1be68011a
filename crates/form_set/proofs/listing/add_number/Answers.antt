use Rattle.form_set.proofs.listing.add_number.Goals as goal

pub add_pattern-requires-clause-ids : goal.add_pattern-requires-clause-ids
add_pattern-requires-clause-ids c = c.in-Some.ensures.ids c.args.book.now c.requires.ready
