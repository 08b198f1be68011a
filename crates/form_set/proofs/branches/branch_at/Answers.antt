use Rattle.std.proofs.Common.{◌≡◌, ◌∙◌, ap, sym}
use Rattle.net_model.specs.declared.hardware.Netlist.{Netlist}
use Rattle.sym_expr.specs.Pools.{expr_of_id}
use Rattle.transfer_set.specs.declared.stepping.Counter.{Counter}
use Rattle.form_set.specs.Listing.{counter_at}
use Rattle.form_set.specs.Targets.{select_branch, expr_branch}
use Rattle.form_set.proofs.branches.branch_at.Goals as goal

pub returns-in-Select-clause-branch : goal.returns-in-Select-clause-branch
returns-in-Select-clause-branch c =
    let pool = c.args.pool.now in
    let netlist = c.args.checked.now.netlist in
    let counter : c.of.result ≡ counter_at netlist = (λ j. record { storage = c.of.ensures.storage j; width = c.of.ensures.width j }) in
    c.choice_at.ensures.branch
    ∙ ap (λ (n : Netlist). select_branch n.edition c.of.result c.args.reach (expr_of_id pool c.in-Select.test) (expr_of_id pool c.in-Select.a) (expr_of_id pool c.in-Select.b)) c.netlist.ensures.value
    ∙ ap (λ (pc : Counter). select_branch netlist.edition pc c.args.reach (expr_of_id pool c.in-Select.test) (expr_of_id pool c.in-Select.a) (expr_of_id pool c.in-Select.b)) counter
    ∙ sym (ap (expr_branch netlist.edition (counter_at netlist) c.args.reach) c.in-Select.ensures.expr)
