-- Where expressions stand.
use Rattle.std.specs.Prelude.{map}
use Rattle.net_model.specs.Written.{model_of_unit}
use Rattle.net_model.specs.TextNames.{ScopeModel, in_text, in_module}
use Rattle.net_rules.specs.declared.text.Scope.{Scope}
use Rattle.net_rules.specs.declared.text.Scope.TheVariants.{Items, Ports}

abbrev pub model_of_scope : Scope → ScopeModel
model_of_scope (Items text) = in_text (map model_of_unit text.now)
model_of_scope (Ports ports) = in_module ports.now
