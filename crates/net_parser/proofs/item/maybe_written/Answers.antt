use Rattle.std.proofs.Common.{Option, subst, sym}
use Rattle.grammar.specs.Reading.{Reads, never}
use Rattle.grammar.specs.Tokens.{ByWord}
use Rattle.grammar.proofs.Steps.{return_reads}
use Rattle.grammar.proofs.Passing.{gives_too}
use Rattle.grammar.proofs.Tokens.{word_leads, word_ended, word_missed}
use Rattle.net_model.specs.Grammar.{WriteBehind, no_write}
use Rattle.net_model.specs.Written.{NetExprModel, model_of_net_expr, when_of}
use Rattle.net_parser.proofs.ItemParts.{no_write_word, not_true, there_maybe_written}
use Rattle.net_parser.proofs.item.maybe_written.Goals as goal

pub returns-in_default : goal.returns-in_default
returns-in_default c =
    let none = no_write c.args.width c.args.addr_width in
    word_ended (WriteBehind none) (there_maybe_written none) c.in_default.ensures

pub returns-then-is_symbol : goal.returns-then-is_symbol
returns-then-is_symbol c =
    let none = no_write c.args.width c.args.addr_width in
    let lead = word_leads (WriteBehind none) {more = never} c.in-Some.ensures (c.is_symbol.ensures.0 c.if-is_symbol.true) in
    subst (λ (write : NetExprModel × (NetExprModel × Option NetExprModel)). Reads (ByWord (WriteBehind none)) never c.args.ts.now write c.in-Some.rest.now)
    (sym c.no_write.ensures) (lead.reads _ _ return_reads)

pub returns-then-is_symbol-2 : goal.returns-then-is_symbol-2
returns-then-is_symbol-2 c =
    gives_too (λ x. ((model_of_net_expr x.0.0, (model_of_net_expr x.0.1.0, when_of x.0.1.1)), x.1.now))
    (word_leads (WriteBehind (no_write c.args.width c.args.addr_width)) c.in-Some.ensures (c.is_symbol-2.ensures.0 c.if-is_symbol-2.true))
    c.stored.result c.stored.ensures

pub returns : goal.returns
returns c =
    let none = no_write c.args.width c.args.addr_width in
    word_missed (WriteBehind none) (there_maybe_written none) c.in-Some.ensures
    (λ x v h. no_write_word none c.in-Some.t.now.word (not_true c.is_symbol.ensures c.if-is_symbol.false) (not_true c.is_symbol-2.ensures c.if-is_symbol-2.false) c.in-Some.t.now.at x v h)
