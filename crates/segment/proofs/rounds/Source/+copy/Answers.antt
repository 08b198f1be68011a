use Rattle.std.proofs.Common.{subst, sym}
use Rattle.sym_expr.specs.declared.pool.Node.{Node}
use Rattle.segment.specs.Copied.{IsCopy, IsCopyOf}
use Rattle.class_values.proofs.Made.{if_found, some_of}
use Rattle.segment.proofs.Copying.{bin_copied, copy_kept, node_copied, number_copied, read_copied, sext_copied, slice_copied, un_copied, zext_copied}
use Rattle.segment.proofs.rounds.Source.+copy.Goals as goal

pub copied-returns-in-Some-clause-is : goal.copied-returns-in-Some-clause-is
copied-returns-in-Some-clause-is t c =
    let table = c.args.self.now.table.now in
    let facts = c.args.self.now.facts.now in
    if_found c.number.result _ _ (λ k is. number_copied table facts c.number.new.table c.args.class c.in-Some.x.width c.in-Some.x.number k c.in-Some.ensures is) c.number.ensures.is

pub copied-returns-then-are_as_wide-clause-is : goal.copied-returns-then-are_as_wide-clause-is
copied-returns-then-are_as_wide-clause-is t c =
    let table = c.args.self.now.table.now in
    let facts = c.args.self.now.facts.now in
    let to = c.relisted.new.to in
    let of = some_of (IsCopyOf table facts to c.in-Some-node_of.node) c.in_ok-copy.field-0 c.in-Some-2.copy c.in-Some-2.is c.in_ok-copy.ensures.is in
    node_copied table facts to c.in-Some-node_of.node c.args.class c.in-Some-2.copy c.in-Some-node_of.ensures (c.are_as_wide.ensures c.if-are_as_wide.true) of

pub relisted-returns-in-Some-clause-is : goal.relisted-returns-in-Some-clause-is
relisted-returns-in-Some-clause-is t c =
    let table = c.args.self.now.table.now in
    let facts = c.args.self.now.facts.now in
    let t1 = c.copied.new.to in
    let t2 = c.add.new.self in
    let x = c.in-Some.addr in
    let first = some_of (IsCopy table facts t1 c.in-Read.a) c.in_ok-addr-in-Read.field-0 x c.in-Some.is c.in_ok-addr-in-Read.ensures.is in
    if_found c.add.result _ _
    (λ k s. subst (λ (node : Node). IsCopyOf table facts t2 node k) (sym c.in-Read.is) (read_copied table facts t1 t2 c.add.ensures.grows c.in-Read.a c.in-Read.width x k first s)) c.add.ensures.stands

pub relisted-returns-in-Some-2-clause-is : goal.relisted-returns-in-Some-2-clause-is
relisted-returns-in-Some-2-clause-is t c =
    let table = c.args.self.now.table.now in
    let facts = c.args.self.now.facts.now in
    let t1 = c.copied-in-Un.new.to in
    let t2 = c.add-in-Un.new.self in
    let x = c.in-Some-2.of in
    let first = some_of (IsCopy table facts t1 c.in-Un.a) c.in_ok-of-in-Un.field-0 x c.in-Some-2.is c.in_ok-of-in-Un.ensures.is in
    if_found c.add-in-Un.result _ _
    (λ k s. subst (λ (node : Node). IsCopyOf table facts t2 node k) (sym c.in-Un.is) (un_copied table facts t1 t2 c.add-in-Un.ensures.grows c.in-Un.op c.in-Un.a x k first s)) c.add-in-Un.ensures.stands

pub relisted-returns-in-Some-4-clause-is : goal.relisted-returns-in-Some-4-clause-is
relisted-returns-in-Some-4-clause-is t c =
    let table = c.args.self.now.table.now in
    let facts = c.args.self.now.facts.now in
    let t1 = c.copied-in-Bin.new.to in
    let t2 = c.copied-in-Bin-2.new.to in
    let t3 = c.add-in-Bin.new.self in
    let x = c.in-Some-3.left in
    let y = c.in-Some-4.right in
    let first = copy_kept table facts t1 t2 c.copied-in-Bin-2.ensures.grows c.in-Bin.a x (some_of (IsCopy table facts t1 c.in-Bin.a) c.in_ok-left-in-Bin.field-0 x c.in-Some-3.is c.in_ok-left-in-Bin.ensures.is) in
    let second = some_of (IsCopy table facts t2 c.in-Bin.b) c.in_ok-right-in-Bin.field-0 y c.in-Some-4.is c.in_ok-right-in-Bin.ensures.is in
    if_found c.add-in-Bin.result _ _
    (λ k s. subst (λ (node : Node). IsCopyOf table facts t3 node k) (sym c.in-Bin.is) (bin_copied table facts t2 t3 c.add-in-Bin.ensures.grows c.in-Bin.op c.in-Bin.a c.in-Bin.b x y k first second s)) c.add-in-Bin.ensures.stands

pub relisted-returns-in-Some-5-clause-is : goal.relisted-returns-in-Some-5-clause-is
relisted-returns-in-Some-5-clause-is t c =
    let table = c.args.self.now.table.now in
    let facts = c.args.self.now.facts.now in
    let t1 = c.copied-in-Slice.new.to in
    let t2 = c.add-in-Slice.new.self in
    let x = c.in-Some-5.of in
    let first = some_of (IsCopy table facts t1 c.in-Slice.a) c.in_ok-of-in-Slice.field-0 x c.in-Some-5.is c.in_ok-of-in-Slice.ensures.is in
    if_found c.add-in-Slice.result _ _
    (λ k s. subst (λ (node : Node). IsCopyOf table facts t2 node k) (sym c.in-Slice.is) (slice_copied table facts t1 t2 c.add-in-Slice.ensures.grows c.in-Slice.a c.in-Slice.hi c.in-Slice.lo x k first s)) c.add-in-Slice.ensures.stands

pub relisted-returns-in-Some-6-clause-is : goal.relisted-returns-in-Some-6-clause-is
relisted-returns-in-Some-6-clause-is t c =
    let table = c.args.self.now.table.now in
    let facts = c.args.self.now.facts.now in
    let t1 = c.copied-in-Zext.new.to in
    let t2 = c.add-in-Zext.new.self in
    let x = c.in-Some-6.of in
    let first = some_of (IsCopy table facts t1 c.in-Zext.a) c.in_ok-of-in-Zext.field-0 x c.in-Some-6.is c.in_ok-of-in-Zext.ensures.is in
    if_found c.add-in-Zext.result _ _
    (λ k s. subst (λ (node : Node). IsCopyOf table facts t2 node k) (sym c.in-Zext.is) (zext_copied table facts t1 t2 c.add-in-Zext.ensures.grows c.in-Zext.a c.in-Zext.width x k first s)) c.add-in-Zext.ensures.stands

pub relisted-returns-in-Some-7-clause-is : goal.relisted-returns-in-Some-7-clause-is
relisted-returns-in-Some-7-clause-is t c =
    let table = c.args.self.now.table.now in
    let facts = c.args.self.now.facts.now in
    let t1 = c.copied-in-Sext.new.to in
    let t2 = c.add-in-Sext.new.self in
    let x = c.in-Some-7.of in
    let first = some_of (IsCopy table facts t1 c.in-Sext.a) c.in_ok-of-in-Sext.field-0 x c.in-Some-7.is c.in_ok-of-in-Sext.ensures.is in
    if_found c.add-in-Sext.result _ _
    (λ k s. subst (λ (node : Node). IsCopyOf table facts t2 node k) (sym c.in-Sext.is) (sext_copied table facts t1 t2 c.add-in-Sext.ensures.grows c.in-Sext.a c.in-Sext.width x k first s)) c.add-in-Sext.ensures.stands
