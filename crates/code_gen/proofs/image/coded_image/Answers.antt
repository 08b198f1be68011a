use Rattle.std.proofs.Common.{◌≡◌, ◌∙◌, List, ap, length, subst, sym}
use Rattle.std.proofs.lemmas.Slice.Zip.{AllZip-long}
use Rattle.bit_bdd.specs.Diagrams.{Diagrams}
use Rattle.net_model.specs.CheckedRules.{Ordered}
use Rattle.isa_extract.specs.declared.netlists.Isa.{Isa}
use Rattle.isa_extract.specs.Extraction.{IsIsaOf}
use Rattle.compaction.specs.declared.machine.KnownMachine.{KnownMachine}
use Rattle.code_gen.specs.Inner.Planning.{AreMachinesOf, AreOperationsOf, AreReadyAll, AreViews}
use Rattle.code_gen.specs.declared.views.Operations.{Operations}
use Rattle.code_gen.proofs.ByMode.{views_machines, views_ready}
use Rattle.code_gen.proofs.image.coded_image.Goals as goal

-- each mode has its parts
pub machines_of-requires : goal.machines_of-requires
machines_of-requires c =
    let isas = AllZip-long (λ (base : Ordered) (isa : Isa). IsIsaOf base.netlist isa) c.args.modes.now.bases c.args.extracted c.requires.isas in
    let rest = AllZip-long AreOperationsOf c.args.extracted c.in_ok-books.rest.items c.in_ok-books.ensures.rest in
    ap (λ (list : List Ordered). length list) c.bases.ensures.value ∙ sym isas ∙ sym rest ∙ sym (ap (λ (list : List Operations). length list) c.deref.ensures.value)

module _ (bases given : List Ordered) (rest told : List Operations) (machines : List KnownMachine) (same : given ≡ bases) (is : told ≡ rest) where
  views : AreViews given told machines → AreViews bases rest machines
  views v = subst (λ (list : List Ordered). AreViews list rest machines) same (subst (λ (list : List Operations). AreViews given list machines) is v)

pub image_for-requires-clause-machines : goal.image_for-requires-clause-machines
image_for-requires-clause-machines c =
    subst (λ (list : List KnownMachine). AreMachinesOf list c.args.modes.now.netlist) (sym c.deref-2.ensures.value)
    (views_machines c.args.modes.now.netlist c.args.modes.now.bases c.args.extracted c.in_ok-books.rest.items c.in_ok-machines.machines.items c.bases.ensures.kept c.requires.isas c.in_ok-books.ensures.rest (views c.args.modes.now.bases c.bases.result.now c.in_ok-books.rest.items c.deref.result.now c.in_ok-machines.machines.items c.bases.ensures.value c.deref.ensures.value c.in_ok-machines.ensures))

pub image_for-requires-clause-ready : goal.image_for-requires-clause-ready
image_for-requires-clause-ready c =
    subst (λ (list : List KnownMachine). AreReadyAll list c.deref_mut.result.now) (sym c.deref-2.ensures.value)
    (subst (λ (list : List Diagrams). AreReadyAll c.in_ok-machines.machines.items list) (sym (c.deref_mut.ensures.value ∙ c.in_ok-books.ensures.books))
    (views_ready c.args.modes.now.bases c.args.extracted c.in_ok-books.rest.items c.in_ok-machines.machines.items c.requires.isas c.in_ok-books.ensures.rest (views c.args.modes.now.bases c.bases.result.now c.in_ok-books.rest.items c.deref.result.now c.in_ok-machines.machines.items c.bases.ensures.value c.deref.ensures.value c.in_ok-machines.ensures)))
