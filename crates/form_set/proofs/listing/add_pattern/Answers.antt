use Rattle.form_model.specs.Forms.{models_of_forms}
use Rattle.form_set.proofs.Classifying.{added_branch, added_jump, added_plain}
use Rattle.form_set.proofs.listing.add_pattern.Goals as goal

pub returns-in_ok-add_plain-in-Plain-clause-added : goal.returns-in_ok-add_plain-in-Plain-clause-added
returns-in_ok-add_plain-in-Plain-clause-added c =
    added_plain c.args.machine.now.checked.now.netlist c.args.machine.now.pool.now c.args.reach c.args.known.number c.args.known.ids c.in_ok-class.class c.in_ok-class.ensures.class c.in-Plain.clobbers c.in-Plain.is
    (models_of_forms c.args.list.now.items) (models_of_forms c.add_plain.new.list.items) c.in_ok-add_plain-in-Plain.ensures

pub returns-in_ok-add_branches-in-Branch-clause-added : goal.returns-in_ok-add_branches-in-Branch-clause-added
returns-in_ok-add_branches-in-Branch-clause-added c =
    added_branch c.args.machine.now.checked.now.netlist c.args.machine.now.pool.now c.args.reach c.args.known.number c.args.known.ids c.in_ok-class.class c.in_ok-class.ensures.class c.in-Branch.parts c.in-Branch.is
    (models_of_forms c.args.list.now.items) (models_of_forms c.add_branches.new.list.items) c.in_ok-add_branches-in-Branch.ensures

pub returns-in_ok-push-in-Jump-clause-added : goal.returns-in_ok-push-in-Jump-clause-added
returns-in_ok-push-in-Jump-clause-added c =
    added_jump c.args.machine.now.checked.now.netlist c.args.machine.now.pool.now c.args.reach c.args.known.number c.args.known.ids c.in_ok-class.class c.in_ok-class.ensures.class c.in-Jump.is c.requires.ids.fields
    c.args.list.now.items c.push.new.self.items c.in_ok-form-in-Jump.form c.in_ok-push-in-Jump.ensures.items c.in_ok-form-in-Jump.ensures
