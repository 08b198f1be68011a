use Rattle.std.proofs.Common.{arith}
use Rattle.lexing.proofs.Scans.{blank_within, blank_passed, token_within, token_passed, wrong_ends, all_read}
use Rattle.lexing.proofs.TokenLaws.{lawful_all}
use Rattle.lexing.proofs.scan.tokens.Goals as goal

pub overflow_add-next : goal.overflow_add-next
overflow_add-next c = let within = blank_within c.args.language.now c.args.bytes.now c.scan.next c.scan.found _ c.scan-test.true c.scan.invariant.so_far c.in-Blank.length c.in-Blank.ensures in omega (arith, within.1)

pub scan-smaller-in-Blank : goal.scan-smaller-in-Blank
scan-smaller-in-Blank c = let within = blank_within c.args.language.now c.args.bytes.now c.scan.next c.scan.found _ c.scan-test.true c.scan.invariant.so_far c.in-Blank.length c.in-Blank.ensures in omega (arith, within.0, within.1)

pub scan-preserved-in-Blank : goal.scan-preserved-in-Blank
scan-preserved-in-Blank c = record {
  within = (blank_within c.args.language.now c.args.bytes.now c.scan.next c.scan.found _ c.scan-test.true c.scan.invariant.so_far c.in-Blank.length c.in-Blank.ensures).1;
  so_far = blank_passed c.args.language.now c.args.bytes.now c.scan.next c.scan.found _ c.scan-test.true c.scan.invariant.so_far c.in-Blank.length c.in-Blank.ensures;
}

pub overflow_cast-len : goal.overflow_cast-len
overflow_cast-len c = let within = token_within c.args.language.now c.args.bytes.now c.scan.next c.scan.found _ c.scan-test.true c.scan.invariant.so_far c.in-Whole.kind c.in-Whole.length c.in-Whole.ensures in omega (arith, within.1)

pub overflow_add-next-in-Whole : goal.overflow_add-next-in-Whole
overflow_add-next-in-Whole c = let within = token_within c.args.language.now c.args.bytes.now c.scan.next c.scan.found _ c.scan-test.true c.scan.invariant.so_far c.in-Whole.kind c.in-Whole.length c.in-Whole.ensures in omega (arith, within.1)

pub scan-smaller : goal.scan-smaller
scan-smaller c = let within = token_within c.args.language.now c.args.bytes.now c.scan.next c.scan.found _ c.scan-test.true c.scan.invariant.so_far c.in-Whole.kind c.in-Whole.length c.in-Whole.ensures in omega (arith, within.0, within.1)

pub scan-preserved : goal.scan-preserved
scan-preserved c = record {
  within = (token_within c.args.language.now c.args.bytes.now c.scan.next c.scan.found _ c.scan-test.true c.scan.invariant.so_far c.in-Whole.kind c.in-Whole.length c.in-Whole.ensures).1;
  so_far = rw c.in_ok-push-in-Whole.ensures.pushed (token_passed c.args.language.now c.args.bytes.now c.scan.next c.scan.found _ c.scan-test.true c.scan.invariant.so_far c.in-Whole.kind c.in-Whole.length c.in-Whole.ensures);
}

pub returns-in-Wrong : goal.returns-in-Wrong
returns-in-Wrong c = let all = wrong_ends c.args.language.now c.args.bytes.now c.scan.next c.scan.found _ c.scan-test.true c.scan.invariant.so_far c.in-Wrong.ensures in rw c.in_ok-push-in-Wrong.ensures.pushed (record { exact = all; lawful = lawful_all c.args.language.now c.args.bytes.now _ all })

pub returns : goal.returns
returns c = let all = all_read c.args.language.now c.args.bytes.now c.scan.next c.scan.found _ c.scan-test.false c.scan.invariant.so_far in record { exact = all; lawful = lawful_all c.args.language.now c.args.bytes.now _ all }
