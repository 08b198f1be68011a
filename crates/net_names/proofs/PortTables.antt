-- Tables of the ports of a module.
use Rattle.std.proofs.Common.{◌≡◌, ℕ, ◌+◌, ◌<◌, Bool, true, false, ◌&&◌, if◌then◌else◌, List, [], ◌∷◌, map, drop, length, get_or, add-one, Option, Some, None, option_map, slice_get, refl, sym, ap, ◌∙◌, arith}
use Rattle.std.specs.Map.{lookup}
use Rattle.rec_bits.proofs.Faults.{drop_item}
use Rattle.std.proofs.lemmas.List.{drop_all}
use Rattle.std.proofs.lemmas.Option.{slice_get-map, slice_get_past}
use Rattle.grammar.specs.declared.words.Ident.{Ident}
use Rattle.net_model.specs.declared.units.NetExpr.{NetExpr}
use Rattle.net_model.specs.declared.units.Port.{Port}
use Rattle.net_model.specs.Written.{NetExprModel, model_of_net_expr, binding_of}
use Rattle.net_model.specs.TextNames.{is_port, port_named}
use Rattle.rec_bits.specs.Faults.{same_name}
use Rattle.net_model.specs.Numbering.{port_place, bound}
use Rattle.net_names.specs.Places.{Enters, place_or, HasPlaces, HasPortPlaces, bound_place, item_at}
use Rattle.net_names.proofs.Tables.{places_next, places_skip}

-- ---- one port further

module _ (ports : List Port) (i : ℕ) (port : Port) (there : i < length ports) (is : port ≡ get_or ports i port) where
  steps : (output : Bool) (name : List ℕ) → port_place output (drop i ports) name ≡ (if is_port output name port then 0 else port_place output (drop (i + 1) ports) name + 1)
  steps output name = ap (λ ps. port_place output ps name) (drop_item ports i port there is)

  pub outputs_next : (inputs outputs new : List (List ℕ × ℕ)) → port.output ≡ true → Enters outputs new port.name.name i → HasPortPlaces inputs outputs ports i → HasPortPlaces inputs new ports (i + 1)
  outputs_next inputs outputs new direction enters h = record {
    inputs_there = places_skip inputs i (port_place false (drop i ports)) (port_place false (drop (i + 1) ports)) (port_place false ports)
        (λ name. steps false name ∙ ap (λ b. if (if b then false else same_name port.name.name name) then 0 else port_place false (drop (i + 1) ports) name + 1) direction)
        h.inputs_there;
    outputs_there = places_next outputs new port.name.name i (port_place true (drop i ports)) (port_place true (drop (i + 1) ports)) (port_place true ports) enters
        (λ name. steps true name ∙ ap (λ b. if (b && same_name port.name.name name) then 0 else port_place true (drop (i + 1) ports) name + 1) direction)
        h.outputs_there;
  }

  pub inputs_next : (inputs outputs new : List (List ℕ × ℕ)) → port.output ≡ false → Enters inputs new port.name.name i → HasPortPlaces inputs outputs ports i → HasPortPlaces new outputs ports (i + 1)
  inputs_next inputs outputs new direction enters h = record {
    inputs_there = places_next inputs new port.name.name i (port_place false (drop i ports)) (port_place false (drop (i + 1) ports)) (port_place false ports) enters
        (λ name. steps false name ∙ ap (λ b. if (if b then false else same_name port.name.name name) then 0 else port_place false (drop (i + 1) ports) name + 1) direction)
        h.inputs_there;
    outputs_there = places_skip outputs i (port_place true (drop i ports)) (port_place true (drop (i + 1) ports)) (port_place true ports)
        (λ name. steps true name ∙ ap (λ b. if (b && same_name port.name.name name) then 0 else port_place true (drop (i + 1) ports) name + 1) direction)
        h.outputs_there;
  }

-- ---- what a place finds

at_head : (b : Bool) (p : Port) (ports : List Port) (n : ℕ) (found : Option Port) → found ≡ slice_get ports n
    → (if b then Some p else found) ≡ slice_get (p ∷ ports) (if b then 0 else n + 1)
at_head true p ports n found h = refl
at_head false p ports n found h = rw add-one h

pub port_at : (output : Bool) (ports : List Port) (name : List ℕ) → port_named output ports name ≡ slice_get ports (port_place output ports name)
port_at output [] name = refl
port_at output (p ∷ ports) name = at_head (is_port output name p) p ports (port_place output ports name) (port_named output ports name) (port_at output ports name)

pub found_item : {A : Type 0} (xs : List A) (found : Option ℕ) (place : ℕ) → place_or found (length xs) 0 ≡ place → item_at xs found ≡ slice_get xs place
found_item xs None place h = sym (slice_get_past xs place (omega (arith, h)))
found_item xs (Some n) place h = ap (slice_get xs) h

pub port_found : (output : Bool) (table : List (List ℕ × ℕ)) (ports : List Port) (name : List ℕ)
    → HasPlaces table (length ports) (port_place output (drop (length ports) ports)) (port_place output ports)
    → item_at ports (lookup (same_name name) table) ≡ port_named output ports name
port_found output table ports name h =
    let none : port_place output (drop (length ports) ports) name ≡ 0 = ap (λ ps. port_place output ps name) (drop_all (length ports) ports (omega arith)) in
    found_item ports (lookup (same_name name) table) (port_place output ports name) (ap (place_or (lookup (same_name name) table) (length ports)) (sym none) ∙ h.first name)
    ∙ sym (port_at output ports name)

-- ---- what is bound

bound_head : (same : Bool) (b : Ident × NetExprModel) (bindings : List (Ident × NetExprModel)) (n : ℕ) (found : Option NetExprModel) → found ≡ option_map (λ (x : Ident × NetExprModel). x.1) (slice_get bindings n)
    → (if same then Some b.1 else found) ≡ option_map (λ (x : Ident × NetExprModel). x.1) (slice_get (b ∷ bindings) (if same then 0 else n + 1))
bound_head true b bindings n found h = refl
bound_head false b bindings n found h = rw add-one h

bound_at : (bindings : List (Ident × NetExprModel)) (name : List ℕ) → bound bindings name ≡ option_map (λ (x : Ident × NetExprModel). x.1) (slice_get bindings (bound_place bindings name))
bound_at [] name = refl
bound_at (b ∷ bindings) name = bound_head (same_name b.0.name name) b bindings (bound_place bindings name) (bound bindings name) (bound_at bindings name)

twice_seen : (found : Option (Ident × NetExpr)) → option_map (λ (x : Ident × NetExprModel). x.1) (option_map binding_of found) ≡ option_map (λ (b : Ident × NetExpr). model_of_net_expr b.1) found
twice_seen None = refl
twice_seen (Some b) = refl

pub bound_found : (table : List (List ℕ × ℕ)) (bindings : List (Ident × NetExpr)) (name : List ℕ) → HasPlaces table (length bindings) (bound_place []) (bound_place (map binding_of bindings))
    → option_map (λ (b : Ident × NetExpr). model_of_net_expr b.1) (item_at bindings (lookup (same_name name) table)) ≡ bound (map binding_of bindings) name
bound_found table bindings name h =
    ap (option_map (λ (b : Ident × NetExpr). model_of_net_expr b.1)) (found_item bindings (lookup (same_name name) table) (bound_place (map binding_of bindings) name) (h.first name))
    ∙ sym (twice_seen (slice_get bindings (bound_place (map binding_of bindings) name)))
    ∙ ap (option_map (λ (x : Ident × NetExprModel). x.1)) (sym (slice_get-map binding_of bindings (bound_place (map binding_of bindings) name)))
    ∙ sym (bound_at (map binding_of bindings) name)
