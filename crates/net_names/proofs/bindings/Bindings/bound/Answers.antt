use Rattle.std.proofs.Common.{map, option_map, ap, ◌∙◌}
use Rattle.grammar.specs.declared.words.Ident.{Ident}
use Rattle.net_model.specs.declared.units.NetExpr.{NetExpr}
use Rattle.net_model.specs.Numbering.{bound}
use Rattle.net_model.specs.Written.{binding_of, model_of_net_expr}
use Rattle.net_names.specs.Places.{item_at}
use Rattle.net_names.proofs.PortTables.{bound_found}
use Rattle.net_names.proofs.bindings.Bindings.bound.Goals as goal

pub returns-in-Some : goal.returns-in-Some
returns-in-Some c =
    let bindings = c.self.inside.bindings.now in
    ap (option_map (λ (b : Ident × NetExpr). model_of_net_expr b.1)) (c.in-Some.ensures ∙ ap (item_at bindings) c.place.ensures)
    ∙ bound_found c.self.inside.table bindings c.args.name.now c.self.invariant
    ∙ ap (λ bs. bound (map binding_of bs) c.args.name.now) c.self.view_is

pub returns-in-None : goal.returns-in-None
returns-in-None c =
    let bindings = c.self.inside.bindings.now in
    ap (option_map (λ (b : Ident × NetExpr). model_of_net_expr b.1)) (c.in-None.ensures ∙ ap (item_at bindings) c.place.ensures)
    ∙ bound_found c.self.inside.table bindings c.args.name.now c.self.invariant
    ∙ ap (λ bs. bound (map binding_of bs) c.args.name.now) c.self.view_is
