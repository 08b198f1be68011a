use Rattle.std.proofs.Common.{◌≡◌, ◌≤◌, ◌∙◌, ap, arith, length}
use Rattle.net_model.specs.CheckedRules.{code_size}
use Rattle.net_model.specs.declared.hardware.Netlist.{Netlist}
use Rattle.test_command.specs.Refusals.{test_count}
use Rattle.test_command.proofs.Answering.{beyond, too_long}
use Rattle.test_command.proofs.testing.check_words.Goals as goal

pub returns-then-len-size-clause-refused : goal.returns-then-len-size-clause-refused
returns-then-len-size-clause-refused c =
    let nt = c.args.checked.now.netlist in
    let code = c.args.code.now in
    let long : c.len-len.result ≡ length code.words.items = omega (arith, c.len-len.ensures, code.words.ok.0) in
    let size : c.from-size.result ≡ code_size nt.codes = c.from-size.ensures ∙ c.code_size.ensures ∙ ap (λ (n : Netlist). code_size n.codes) c.netlist-netlist.ensures.value in
    too_long nt code c.requires.code _ _ _ long size c.if-len-size.true c.in_ok-bound.ensures.0 c.in_ok-bound.ensures.1

pub returns-then-count-gt-LIMIT-clause-refused : goal.returns-then-count-gt-LIMIT-clause-refused
returns-then-count-gt-LIMIT-clause-refused c =
    let nt = c.args.checked.now.netlist in
    let code = c.args.code.now in
    let long : c.len-len.result ≡ length code.words.items = omega (arith, c.len-len.ensures, code.words.ok.0) in
    let size : c.from-size.result ≡ code_size nt.codes = c.from-size.ensures ∙ c.code_size.ensures ∙ ap (λ (n : Netlist). code_size n.codes) c.netlist-netlist.ensures.value in
    let room : length code.words.items ≤ code_size nt.codes = omega (arith, long, size, c.if-len-size.false) in
    let count : c.evaluations-count.result ≡ test_count nt c.len-len.result = c.evaluations-count.ensures ∙ ap (λ (n : Netlist). test_count n c.len-len.result) c.netlist-netlist.ensures.value in
    beyond nt code c.requires.code _ _ long room count c.if-count-gt-LIMIT.true
