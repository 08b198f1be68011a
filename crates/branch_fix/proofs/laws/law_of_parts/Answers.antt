use Rattle.branch_fix.proofs.Addresses.{address_is}
use Rattle.branch_fix.proofs.Laying.{settled_fit}
use Rattle.branch_fix.proofs.Rounds.{settled_once, settled_shows}
use Rattle.branch_fix.proofs.laws.law_of_parts.Goals as goal

pub returns-clause-one : goal.returns-clause-one
returns-clause-one c = settled_once

pub returns-clause-fit : goal.returns-clause-fit
returns-clause-fit c = settled_fit

pub returns-clause-shown : goal.returns-clause-shown
returns-clause-shown c = settled_shows

pub returns-clause-addresses : goal.returns-clause-addresses
returns-clause-addresses c = address_is
