use Rattle.std.proofs.Common.{◌≡◌, ◌^◌, ◌<◌, drop}
use Rattle.text_lines.specs.Fields.{decimal_from}
use Rattle.text_lines.proofs.field.value.Given as goal

-- the value so far, and the digits that are left, make the whole value
abbrev pub invariant-loop-digit : goal.invariant-loop-digit
invariant-loop-digit l = record { same : decimal_from l.number (drop l.digit-index l.digits) ≡ decimal_from 0 l.digits; small : l.number < 2 ^ 64 }
