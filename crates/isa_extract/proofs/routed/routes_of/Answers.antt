use Rattle.std.proofs.Common.{◌∙◌, ap}
use Rattle.net_model.specs.declared.hardware.Netlist.{Netlist}
use Rattle.net_model.specs.NetFaults.{name_at}
use Rattle.isa_extract.proofs.Cleans.{clean_word}
use Rattle.isa_extract.proofs.routed.routes_of.Goals as goal

pub returns-in-Ok-clause-kept : goal.returns-in-Ok-clause-kept
returns-in-Ok-clause-kept c = record {
  clean = clean_word c.args.checked.now.netlist c.args.book.now c.args.controls.now c.requires.controls;
  limits = c.in-Ok.ensures.limits;
}

pub returns-in-Err-PatternLarge-clause-refused : goal.returns-in-Err-PatternLarge-clause-refused
returns-in-Err-PatternLarge-clause-refused c = record {
  clean = clean_word c.args.checked.now.netlist c.args.book.now c.args.controls.now c.requires.controls;
  net = c.in-Err-PatternLarge.net;
  refused = rw c.in-Err-PatternLarge.field-0-is at c.in-Err-PatternLarge.ensures.refusal;
  at = c.name_at-at.ensures ∙ ap (λ (n : Netlist). name_at n c.in-Err-PatternLarge.net) c.netlist.ensures.value;
}

pub returns-in-Err-TooMany-clause-refused : goal.returns-in-Err-TooMany-clause-refused
returns-in-Err-TooMany-clause-refused c = record {
  clean = clean_word c.args.checked.now.netlist c.args.book.now c.args.controls.now c.requires.controls;
  net = c.in-Err-TooMany.net;
  refused = rw c.in-Err-TooMany.field-0-is at c.in-Err-TooMany.ensures.refusal;
  at = c.name_at-at-in-Err-TooMany.ensures ∙ ap (λ (n : Netlist). name_at n c.in-Err-TooMany.net) c.netlist-in-Err-TooMany.ensures.value;
}
