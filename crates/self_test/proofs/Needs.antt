-- What is counted of the values that are found is what the self-test needs.
use Rattle.std.proofs.Common.{◌≡◌, ℕ, ◌+◌, ◌-◌, ◌^◌, ◌<◌, ◌≤◌, List, length, min, ap, sym, ◌∙◌, arith}
use Rattle.std.proofs.lemmas.List.{length-map}
use Rattle.rec_bits.specs.Counts.{capped}
use Rattle.net_model.specs.declared.hardware.Netlist.{Netlist}
use Rattle.net_model.specs.Nets.{memory_width}
use Rattle.net_model.specs.Patterns.{Pattern}
use Rattle.net_model.specs.Exprs.{ExprModel}
use Rattle.form_model.specs.Forms.{FormModel}
use Rattle.src_trees.specs.Lowered.{JobModel}
use Rattle.sym_expr.specs.declared.pool.Node.{Node}
use Rattle.sym_expr.specs.Pools.{expr_of_id}
use Rattle.self_test.specs.Cells.{all_operands, test_need, test_temps, test_values, test_jobs, jobs_from}
use Rattle.self_test.specs.Inner.Values.{greatest_inner, exprs_at}
use Rattle.self_test.specs.Trees.{widths_of}
use Rattle.self_test.proofs.Inner.{temps_are}

module _ (netlist : Netlist) (forms : List FormModel) (patterns : List Pattern) (pool : List Node) (ids : List ℕ) (found : exprs_at pool ids ≡ test_values netlist forms patterns) where
  module _ (width temps operands : ℕ) (w : width ≡ memory_width netlist.storages) (t : temps ≡ capped (greatest_inner width (exprs_at pool ids))) (o : operands ≡ capped (all_operands (exprs_at pool ids))) where
    temps_found : temps ≡ capped (test_temps netlist forms patterns)
    temps_found =
        t
        ∙ ap (λ v. capped (greatest_inner v (exprs_at pool ids))) w
        ∙ ap (λ (values : List ExprModel). capped (greatest_inner (memory_width netlist.storages) values)) found
        ∙ ap capped (sym (temps_are (widths_of netlist) (test_values netlist forms patterns)))

    operands_found : operands ≡ capped (all_operands (test_values netlist forms patterns))
    operands_found = o ∙ ap (λ (values : List ExprModel). capped (all_operands values)) found

    values_found : length ids ≡ length (test_values netlist forms patterns)
    values_found = sym (length-map ids (expr_of_id pool)) ∙ ap (λ (values : List ExprModel). length values) found

    module _ (outputs need : ℕ) (f : outputs ≡ min (temps + operands) (2 ^ 64 - 1)) (n : need ≡ min (outputs + length ids) (2 ^ 64 - 1)) where
      pub need_found : need ≡ capped (test_need netlist forms patterns)
      need_found = omega (arith, temps_found, operands_found, values_found, f, n)

      -- a count that a memory has room for is as it is
      module _ (have : ℕ) (few : have < 2 ^ 32) (room : need ≤ have) where
        pub temps_exact : temps ≡ test_temps netlist forms patterns
        temps_exact = omega (arith, temps_found, operands_found, values_found, f, n, few, room)

        outputs_exact : outputs ≡ test_temps netlist forms patterns + all_operands (test_values netlist forms patterns)
        outputs_exact = omega (arith, temps_found, operands_found, values_found, f, n, few, room)

        pub need_within : test_need netlist forms patterns ≤ have
        need_within = omega (arith, need_found, few, room)

        pub jobs_found : (jobs : List JobModel) → jobs ≡ jobs_from (widths_of netlist) temps outputs (exprs_at pool ids) → jobs ≡ test_jobs netlist forms patterns
        jobs_found jobs e =
            e
            ∙ ap (λ at. jobs_from (widths_of netlist) at outputs (exprs_at pool ids)) temps_exact
            ∙ ap (λ out. jobs_from (widths_of netlist) (test_temps netlist forms patterns) out (exprs_at pool ids)) outputs_exact
            ∙ ap (λ (values : List ExprModel). jobs_from (widths_of netlist) (test_temps netlist forms patterns) (test_temps netlist forms patterns + all_operands (test_values netlist forms patterns)) values) found
