use Rattle.std.proofs.Common.{take, sym, subst, ap, ◌∙◌}
use Rattle.std.specs.Str.{IsAscii}
use Rattle.std.proofs.lemmas.Str.{IsUtf8-from_ascii}
use Rattle.lexing.specs.Bytes.{is_name_byte}
use Rattle.lexing.proofs.Runs.{run_own}
use Rattle.record_core.proofs.NameLemmas.{ascii_run}
use Rattle.record_core.proofs.line.name_from.Goals as goal

pub returns-in-Err : goal.returns-in-Err
returns-in-Err c =
    let rest = c.behind-rest.result.now in
    let run = ap (λ n. take n rest) c.name_bytes.ensures ∙ run_own is_name_byte rest in
    absurd (c.in-Err.ensures.cases.0 (IsUtf8-from_ascii _ (subst IsAscii (sym run) (ascii_run rest))))
