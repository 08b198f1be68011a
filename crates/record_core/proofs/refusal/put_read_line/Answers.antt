use Rattle.std.proofs.Common.{◌≡◌, List, ℕ, ◌++◌, codes, ap, refl, sym, ◌∙◌}
use Rattle.rec_io.specs.declared.sink.WriteFault.{WriteFault}
use Rattle.checkpoint_watch.proofs.Putting.{all_left, less_left, puts_failed, puts_then, stops_there}
use Rattle.record_core.specs.Lines.{name_of_file}
use Rattle.record_core.specs.Words.{texts_of}
use Rattle.record_core.proofs.refusal.put_read_line.Goals as goal

-- the line: what comes first, and then the name with the end of the line
abbrev first : List ℕ
first = codes "error read "

abbrev behind : List ℕ → List ℕ
behind name = name ++ codes "\n"

pub returns-in_err-put : goal.returns-in_err-put
returns-in_err-put g c =
    let a = g.S.Sink.state c.args.out.now in
    let b = g.S.Sink.state c.put.new.out in
    let more = behind (name_of_file (texts_of c.args.words.now) c.args.file) in
    let whole = first ++ more in
    let fault = c.in_err-put.field-0.0 in
    puts_failed {T = Unit {0}} {E = WriteFault} a b whole whole fault c.from_residual.result c.from_residual.ensures.0 refl
    (stops_there a a b first more whole whole fault fault (all_left a whole) refl c.in_err-put.ensures)

pub returns-in_err-put-2 : goal.returns-in_err-put-2
returns-in_err-put-2 g c =
    let a = g.S.Sink.state c.args.out.now in
    let b = g.S.Sink.state c.put.new.out in
    let d = g.S.Sink.state c.put-2.new.out in
    let name = c.as_bytes.result.now in
    let whole = first ++ behind (name_of_file (texts_of c.args.words.now) c.args.file) in
    let is : first ++ behind name ≡ whole = ap (λ n. first ++ behind n) (c.as_bytes.ensures.value ∙ c.file_name.ensures) in
    let fault = c.in_err-put-2.field-0.0 in
    puts_failed {T = Unit {0}} {E = WriteFault} a d whole whole fault c.from_residual-in_err-put-2.result c.from_residual-in_err-put-2.ensures.0 refl
    (stops_there a b d name (codes "\n") (behind name) whole fault fault
    (less_left {T = Unit {0}} {E = WriteFault} a a b first (behind name) whole whole tt (all_left a whole) (sym is) c.in_ok-put.ensures) refl c.in_err-put-2.ensures)

pub returns : goal.returns
returns g c =
    let a = g.S.Sink.state c.args.out.now in
    let b = g.S.Sink.state c.put.new.out in
    let d = g.S.Sink.state c.put-2.new.out in
    let e = g.S.Sink.state c.put-3.new.out in
    let name = c.as_bytes.result.now in
    let whole = first ++ behind (name_of_file (texts_of c.args.words.now) c.args.file) in
    let is : first ++ behind name ≡ whole = ap (λ n. first ++ behind n) (c.as_bytes.ensures.value ∙ c.file_name.ensures) in
    puts_then {T = Unit {0}} {E = WriteFault} a b e first (behind name) whole tt c.put-3.result is c.in_ok-put.ensures
    (puts_then {T = Unit {0}} {E = WriteFault} b d e name (codes "\n") (behind name) tt c.put-3.result refl c.in_ok-put-2.ensures c.put-3.ensures)
