use Rattle.std.proofs.Common.{◌≡◌, ◌++◌, take}
use Rattle.code_gen.proofs.cuts.append.Given as goal

abbrev pub invariant-loop-group : goal.invariant-loop-group
invariant-loop-group l = record {
  groups : l.block.groups ≡ l.initial.block.groups ++ l.yielded;
  words : l.block.words ≡ l.initial.block.words;
}

abbrev pub invariant-loop-word : goal.invariant-loop-word
invariant-loop-word l = record {
  groups : l.block.groups ≡ l.initial.block.groups;
  words : l.block.words ≡ l.initial.block.words ++ take l.word-index l.word-items;
}
