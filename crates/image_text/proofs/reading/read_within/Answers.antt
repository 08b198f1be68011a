use Rattle.image_text.proofs.Whole.{answer_whole, answer_stopped}
use Rattle.image_text.proofs.reading.read_within.Goals as goal

pub returns-in-Ok-clause-found : goal.returns-in-Ok-clause-found
returns-in-Ok-clause-found c = (answer_whole c.args.limits c.args.bytes.now c.in-Ok.front c.whole_of.result (record { some = c.requires.some; narrow = c.requires.narrow; words = c.requires.few }) c.in-Ok.ensures.read c.whole_of.ensures).found

pub returns-in-Ok-clause-only : goal.returns-in-Ok-clause-only
returns-in-Ok-clause-only c = (answer_whole c.args.limits c.args.bytes.now c.in-Ok.front c.whole_of.result (record { some = c.requires.some; narrow = c.requires.narrow; words = c.requires.few }) c.in-Ok.ensures.read c.whole_of.ensures).only

pub returns-in-Ok-clause-refused : goal.returns-in-Ok-clause-refused
returns-in-Ok-clause-refused c = (answer_whole c.args.limits c.args.bytes.now c.in-Ok.front c.whole_of.result (record { some = c.requires.some; narrow = c.requires.narrow; words = c.requires.few }) c.in-Ok.ensures.read c.whole_of.ensures).refused

pub returns-in-Err-clause-only : goal.returns-in-Err-clause-only
returns-in-Err-clause-only c = (answer_stopped c.args.limits c.args.bytes.now c.in-Err.fault (record { some = c.requires.some; narrow = c.requires.narrow; words = c.requires.few }) c.in-Err.ensures.stops).only

pub returns-in-Err-clause-refused : goal.returns-in-Err-clause-refused
returns-in-Err-clause-refused c = (answer_stopped c.args.limits c.args.bytes.now c.in-Err.fault (record { some = c.requires.some; narrow = c.requires.narrow; words = c.requires.few }) c.in-Err.ensures.stops).refused
