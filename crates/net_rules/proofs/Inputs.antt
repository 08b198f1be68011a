-- What is asked of all ports looks at the inputs alone.
use Rattle.std.proofs.Common.{◌≡◌, ℕ, ◌+◌, ◌&&◌, ◌||◌, if◌then◌else◌, Bool, true, false, List, [], ◌∷◌, refl, ap, arith}
use Rattle.std.specs.List.{list_all}
use Rattle.grammar.specs.declared.words.Ident.{Ident}
use Rattle.net_model.specs.declared.units.Port.{Port}
use Rattle.net_model.specs.Written.{NetExprModel}
use Rattle.net_model.specs.DriverRules.{is_driven}
use Rattle.net_model.specs.Numbering.{bound, count_if, count_inputs}
use Rattle.net_names.specs.Places.{inputs_of}
use Rattle.net_rules.specs.Inner.Counts.{count_linked}
use Rattle.net_rules.specs.Inner.Modules.{is_bound}

driven_head : (output : Bool) (links : List (Ident × NetExprModel)) (port : Port) (inputs : List Port) (rest : Bool) → list_all (is_bound links) inputs ≡ rest
    → list_all (is_bound links) (if output then inputs else port ∷ inputs) ≡ ((output || is_bound links port) && rest)
driven_head true links port inputs rest h = h
driven_head false links port inputs rest h = ap (λ b. is_bound links port && b) h

pub driven_inputs : (links : List (Ident × NetExprModel)) (ports : List Port) → list_all (is_bound links) (inputs_of ports) ≡ list_all (is_driven false links) ports
driven_inputs links [] = refl
driven_inputs links (port ∷ ports) = driven_head port.output links port (inputs_of ports) (list_all (is_driven false links) ports) (driven_inputs links ports)

counted_head : (output : Bool) (links : List (Ident × NetExprModel)) (port : Port) (inputs : List Port) (rest : ℕ) → count_linked links inputs ≡ rest
    → count_linked links (if output then inputs else port ∷ inputs) ≡ (if output then 0 else count_if (bound links port.name.name) + 1) + rest
counted_head true links port inputs rest h = omega (arith, h)
counted_head false links port inputs rest h = ap (λ n. count_if (bound links port.name.name) + 1 + n) h

pub counted_inputs : (links : List (Ident × NetExprModel)) (ports : List Port) → count_linked links (inputs_of ports) ≡ count_inputs links ports
counted_inputs links [] = refl
counted_inputs links (port ∷ ports) = counted_head port.output links port (inputs_of ports) (count_inputs links ports) (counted_inputs links ports)
