use Rattle.std.proofs.Common.{◌++◌, length, map}
use Rattle.grammar.specs.Reading.{Leads, ListOf}
use Rattle.net_model.specs.Grammar.{IsDriver, IsDrivers}
use Rattle.net_model.specs.Written.{driver_of}
use Rattle.net_parser.specs.Inner.Steps.{after_drivers}
use Rattle.net_parser.proofs.parts.drivers.Given as goal

-- what completes the list so far completes the whole
abbrev pub invariant-others : goal.invariant-others
invariant-others l = Leads (λ vs. map driver_of l.drivers ++ vs) (ListOf IsDriver) after_drivers l.rest IsDrivers after_drivers l.fn.ts

abbrev pub decreases-others : goal.decreases-others
decreases-others l = length l.rest
