use Rattle.code_gen.proofs.modes.word_in.Goals as goal

pub mode_word-requires-clause-forms : goal.mode_word-requires-clause-forms
mode_word-requires-clause-forms c = (c.args.all.now.reach, c.requires.forms)
