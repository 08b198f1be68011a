use Rattle.std.proofs.Common.{◌≡◌, ◌<◌, ◌≤◌, ◌^◌, ◌∙◌, arith}
use Rattle.rec_bits.specs.Counts.{capped}
use Rattle.form_model.specs.Forms.{models_of_forms}
use Rattle.transfer_set.specs.Rows.{row_patterns}
use Rattle.self_test.specs.Cells.{test_need, test_values}
use Rattle.self_test.specs.Inner.Values.{exprs_at}
use Rattle.self_test.proofs.Needs.{need_found, need_within, temps_exact, jobs_found}
use Rattle.self_test.proofs.cells.candidates.Goals as goal

pub returns-then-need-have-clause-refused : goal.returns-then-need-have-clause-refused
returns-then-need-have-clause-refused c =
    let nt = c.args.machine.now.checked.now.netlist in
    let forms = models_of_forms c.args.forms.now.list.items in
    let patterns = row_patterns c.args.machine.now.pool.now c.args.machine.now.patterns.now.rows in
    let found : exprs_at c.args.machine.now.pool.now c.as_slice-values.result.now ≡ test_values nt forms patterns = rw (c.as_slice-values.ensures, ← c.deref.ensures.value) c.in_ok-values.ensures.values in
    let need : c.saturating_add-need.result ≡ capped (test_need nt forms patterns) = need_found nt forms patterns c.args.machine.now.pool.now _ found _ _ _ c.memory_width.ensures.width c.all_temps-temps.ensures c.all_operands-operands.ensures _ _ c.saturating_add-first_output.ensures c.saturating_add-need.ensures in
    (need, c.from-have.ensures ∙ c.memory_size.ensures, omega (arith, need, c.from-have.ensures ∙ c.memory_size.ensures, c.if-need-have.true))

pub returns-clause-temps : goal.returns-clause-temps
returns-clause-temps c =
    let nt = c.args.machine.now.checked.now.netlist in
    let forms = models_of_forms c.args.forms.now.list.items in
    let patterns = row_patterns c.args.machine.now.pool.now c.args.machine.now.patterns.now.rows in
    let found : exprs_at c.args.machine.now.pool.now c.as_slice-values.result.now ≡ test_values nt forms patterns = rw (c.as_slice-values.ensures, ← c.deref.ensures.value) c.in_ok-values.ensures.values in
    let few : c.from-have.result < 2 ^ 32 = omega (arith, c.from-have.ensures, c.memory_size.type_inv) in
    temps_exact nt forms patterns c.args.machine.now.pool.now _ found _ _ _ c.memory_width.ensures.width c.all_temps-temps.ensures c.all_operands-operands.ensures _ _ c.saturating_add-first_output.ensures c.saturating_add-need.ensures _ few c.if-need-have.false

pub returns-clause-jobs : goal.returns-clause-jobs
returns-clause-jobs c =
    let nt = c.args.machine.now.checked.now.netlist in
    let forms = models_of_forms c.args.forms.now.list.items in
    let patterns = row_patterns c.args.machine.now.pool.now c.args.machine.now.patterns.now.rows in
    let found : exprs_at c.args.machine.now.pool.now c.as_slice-values.result.now ≡ test_values nt forms patterns = rw (c.as_slice-values.ensures, ← c.deref.ensures.value) c.in_ok-values.ensures.values in
    let few : c.from-have.result < 2 ^ 32 = omega (arith, c.from-have.ensures, c.memory_size.type_inv) in
    jobs_found nt forms patterns c.args.machine.now.pool.now _ found _ _ _ c.memory_width.ensures.width c.all_temps-temps.ensures c.all_operands-operands.ensures _ _ c.saturating_add-first_output.ensures c.saturating_add-need.ensures _ few c.if-need-have.false _ c.in_ok-jobs.ensures

pub returns-clause-enough : goal.returns-clause-enough
returns-clause-enough c =
    let nt = c.args.machine.now.checked.now.netlist in
    let forms = models_of_forms c.args.forms.now.list.items in
    let patterns = row_patterns c.args.machine.now.pool.now c.args.machine.now.patterns.now.rows in
    let found : exprs_at c.args.machine.now.pool.now c.as_slice-values.result.now ≡ test_values nt forms patterns = rw (c.as_slice-values.ensures, ← c.deref.ensures.value) c.in_ok-values.ensures.values in
    let few : c.from-have.result < 2 ^ 32 = omega (arith, c.from-have.ensures, c.memory_size.type_inv) in
    let within : test_need nt forms patterns ≤ c.from-have.result = need_within nt forms patterns c.args.machine.now.pool.now _ found _ _ _ c.memory_width.ensures.width c.all_temps-temps.ensures c.all_operands-operands.ensures _ _ c.saturating_add-first_output.ensures c.saturating_add-need.ensures _ few c.if-need-have.false in
    omega (arith, c.from-have.ensures ∙ c.memory_size.ensures, within)
