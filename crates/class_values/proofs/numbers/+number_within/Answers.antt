use Rattle.std.proofs.Common.{subst}
use Rattle.sym_expr.specs.declared.pool.Node.{Node}
use Rattle.class_values.specs.Inner.Numbers.{IsListed}
use Rattle.class_values.proofs.Made.{if_known}
use Rattle.class_values.proofs.Numbering.{bin_number, sext_number, slice_number, un_number, zext_number}
use Rattle.class_values.proofs.numbers.+number_within.Goals as goal

pub returns-in_ok-x-in-Un : goal.returns-in_ok-x-in-Un
returns-in_ok-x-in-Un t c =
    let table = c.args.table.now in
    let listed = subst (λ (k : Node). IsListed table k c.args.class) c.in-Un.is (c.is_listed.ensures c.if-not-is_listed.false) in
    if_known c.unary_number.result _ _
    (λ n e. un_number table c.args.facts.now c.in-Un.op c.in-Un.a c.in_ok-x-in-Un.x n c.args.class listed c.in_ok-x-in-Un.ensures e) c.unary_number.ensures

pub returns-in_ok-y-in-Bin : goal.returns-in_ok-y-in-Bin
returns-in_ok-y-in-Bin t c =
    let table = c.args.table.now in
    let listed = subst (λ (k : Node). IsListed table k c.args.class) c.in-Bin.is (c.is_listed.ensures c.if-not-is_listed.false) in
    if_known c.binary_number.result _ _
    (λ n e. bin_number table c.args.facts.now c.in-Bin.op c.in-Bin.a c.in-Bin.b c.in_ok-x-in-Bin.x c.in_ok-y-in-Bin.y n c.args.class listed c.in_ok-x-in-Bin.ensures c.in_ok-y-in-Bin.ensures e)
    c.binary_number.ensures

pub returns-in_ok-x-in-Slice : goal.returns-in_ok-x-in-Slice
returns-in_ok-x-in-Slice t c =
    let table = c.args.table.now in
    let listed = subst (λ (k : Node). IsListed table k c.args.class) c.in-Slice.is (c.is_listed.ensures c.if-not-is_listed.false) in
    if_known c.part_number.result _ _
    (λ n e. slice_number table c.args.facts.now c.in-Slice.a c.in_ok-x-in-Slice.x c.in-Slice.hi c.in-Slice.lo n c.args.class listed c.in_ok-x-in-Slice.ensures e) c.part_number.ensures

pub returns-in-Zext : goal.returns-in-Zext
returns-in-Zext t c =
    let table = c.args.table.now in
    let listed = subst (λ (k : Node). IsListed table k c.args.class) c.in-Zext.is (c.is_listed.ensures c.if-not-is_listed.false) in
    if_known c.number_within-in-Zext.result _ _ (λ n h. zext_number table c.args.facts.now c.in-Zext.a n c.in-Zext._width c.args.class listed h) c.number_within-in-Zext.ensures

pub returns-in_ok-x-in-Sext : goal.returns-in_ok-x-in-Sext
returns-in_ok-x-in-Sext t c =
    let table = c.args.table.now in
    let listed = subst (λ (k : Node). IsListed table k c.args.class) c.in-Sext.is (c.is_listed.ensures c.if-not-is_listed.false) in
    if_known c.signed_number.result _ _
    (λ n e. sext_number table c.args.facts.now c.in-Sext.a c.in_ok-x-in-Sext.x c.in-Sext.width n c.args.class listed c.in_ok-x-in-Sext.ensures e) c.signed_number.ensures
