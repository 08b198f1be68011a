use Rattle.std.proofs.Common.{◌≡◌, ℕ, [], ap, inl, refl, subst, sym, ◌∙◌}
use Rattle.std.proofs.lemmas.List.{append-nil}
use Rattle.mode_set.specs.Plans.{UsableAt, stock_at}
use Rattle.net_model.specs.Nets.{memory_width}
use Rattle.respell.specs.Kept.{IsGain}
use Rattle.respell.specs.Respelled.{IsRespelled}
use Rattle.respell.specs.declared.needs.Limits.{Limits}
use Rattle.right_code.specs.FlowJobs.{node_limit}
use Rattle.src_trees.specs.Jobs.{model_of_job}
use Rattle.src_trees.specs.Measures.{IsSmall}
use Rattle.explain_command.specs.Inner.Telling.{netlist_of, stock_of}
use Rattle.explain_command.proofs.equal.add_equal.Goals as goal

pub returns-in-Kept : goal.returns-in-Kept
returns-in-Kept c = record { more = []; is = inl refl; text = sym (append-nil c.args.text.now.items) }

pub returns : goal.returns
returns c =
    let speller = c.in_ok-speller.speller in
    let limits = speller.limits in
    let job = model_of_job c.args.job.now in
    let other = model_of_job c.in-Changed.other in
    let gain : IsGain (stock_at speller.forms.now limits.temps) (UsableAt speller.usable.now) limits.cell limits.temps limits.nodes c.in-Changed.turned job other = rw c.in-Changed.is at c.in_ok-respell.ensures in
    let cell : limits.cell ≡ memory_width (netlist_of c.args.subject.now).storages = ap (λ (l : Limits). l.cell) c.in_ok-speller.ensures.limits ∙ c.memory_width.ensures.width in
    let temps : limits.temps ≡ (stock_of c.args.subject.now).temps = ap (λ (l : Limits). l.temps) c.in_ok-speller.ensures.limits in
    let nodes : limits.nodes ≡ node_limit = ap (λ (l : Limits). l.nodes) c.in_ok-speller.ensures.limits in
    c.add_other.ensures job (record {
      respelled = subst (λ (n : ℕ). IsRespelled n c.in-Changed.turned job other) cell gain.respelled;
      small = subst (λ (n : ℕ). IsSmall n (stock_of c.args.subject.now).temps node_limit other) cell
          (subst (λ (n : ℕ). IsSmall limits.cell n node_limit other) temps
          (subst (λ (n : ℕ). IsSmall limits.cell limits.temps n other) nodes gain.small));
    })
