use Rattle.std.proofs.Common.{◌≡◌, ◌≤◌, ◌-◌, ◌++◌, drop, length}
use Rattle.lexing.specs.Tokens.{tokens_from, tokens_of}
use Rattle.lexing.proofs.scan.tokens.Given as goal

-- the tokens so far and those from here on are all of them
abbrev pub invariant-scan : goal.invariant-scan
invariant-scan l = record { within : l.next ≤ length l.bytes; so_far : l.found ++ tokens_from l.language l.next 0 (drop l.next l.bytes) ≡ tokens_of l.language l.bytes }

abbrev pub decreases-scan : goal.decreases-scan
decreases-scan l = length l.bytes - l.next
