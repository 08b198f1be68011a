use Rattle.explain_command.proofs.explaining.task_text.Goals as goal

pub add_ending-requires-clause-room : goal.add_ending-requires-clause-room
add_ending-requires-clause-room c = c.in_ok-text.ensures.told.room

pub add_ending-requires-clause-jumps : goal.add_ending-requires-clause-jumps
add_ending-requires-clause-jumps c = c.in_ok-text.ensures.told.jumps

pub returns-clause-explained : goal.returns-clause-explained
returns-clause-explained c =
    let jobs = c.in_ok-text.ensures.told in
    let end = c.in_ok-add_ending.ensures in
    record {
      room = jobs.room;
      jumps = jobs.jumps;
      all = jobs.all;
      reach = jobs.reach;
      forms = jobs.forms;
      jobs = c.in_ok-text.text.items;
      told = jobs.told;
      ending = end.more;
      ends = end.is;
      lines = end.text;
    }
