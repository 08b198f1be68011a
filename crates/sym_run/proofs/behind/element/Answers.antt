use Rattle.std.proofs.Common.{List, subst}
use Rattle.sym_expr.specs.declared.pool.Node.TheVariants.{Read}
use Rattle.tree_laws.specs.Classes.{NodeStands}
use Rattle.sym_run.specs.declared.known.Element.{Element}
use Rattle.sym_run.specs.declared.known.Put.{Put}
use Rattle.sym_run.specs.Inner.Passed.{ArePassed}
use Rattle.class_values.proofs.Made.{if_found, some_of}
use Rattle.sym_run.proofs.Passing.{element_made}
use Rattle.sym_run.proofs.behind.element.Goals as goal

pub returns-clause-is : goal.returns-clause-is
returns-clause-is c =
    let t0 = c.args.table.now in
    let t1 = c.class_of.new.table in
    let t2 = c.all_passed.new.table in
    let facts = c.args.facts.now in
    let known = c.args.known.now in
    let at = c.args.at in
    let width = c.args.width in
    let old = c.in-Some.old in
    let stands = some_of (NodeStands t1 (Read at width)) c.in_ok-old.field-0 old c.in-Some.is c.in_ok-old.ensures.stands in
    if_found c.all_passed.result _ _ (λ k s. element_made facts known at width t0 t1 t2 c.in_ok-old.ensures.grows old k stands
    (subst (λ (es : List Element). ArePassed t1 t2 facts es known.puts at width old k) c.as_slice.ensures (subst (λ (ps : List Put). ArePassed t1 t2 facts c.as_slice.result.now ps at width old k) c.as_slice-2.ensures s))) c.all_passed.ensures.is
