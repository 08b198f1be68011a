-- The instruction bits of an expression of a netlist are bits of its words.
use Rattle.std.proofs.Common.{lit<, ℕ, ◌+◌, ◌-◌, ◌^◌, ◌<◌, ◌≤◌, List, Option, Some, None, length, subst, arith}
use Rattle.std.specs.Prelude.{bit_or}
use Rattle.std.proofs.lemmas.Nat.{pow_pos, or_lt}
use Rattle.std.proofs.Math.Nat.{pow-le-pow_right}
use Rattle.net_model.specs.declared.hardware.Netlist.{Netlist}
use Rattle.net_model.specs.Fields.{bits_between, fields, transfer_fields}
use Rattle.net_model.specs.Nets.{word_width}
use Rattle.net_model.specs.Exprs.{ExprModel, word, reg, const, read, un, bin, slice, cat, zext, sext, select}
use Rattle.sym_expr.specs.declared.pool.Node.{Node}
use Rattle.sym_expr.specs.Pools.{ExprFits, expr_of_id}
use Rattle.transfer_set.specs.Entries.{IsAddrKnown, ids_transfer}
use Rattle.transfer_set.specs.TextMarks.{IsTransferOf, IsExprOf}

span_small : (w hi lo : ℕ) → hi < w → bits_between hi lo < 2 ^ w
span_small w hi lo h =
    let q : 2 ^ (hi + 1) ≤ 2 ^ w = pow-le-pow_right (lit< tt) (omega (arith, h)) in
    let a = pow_pos (hi + 1) in let b = pow_pos lo in omega (arith, q, a, b)

fields_small : (netlist : Netlist) (t : ExprModel) → IsExprOf netlist t → ExprFits t → fields t < 2 ^ word_width netlist
fields_small netlist (word w) h f = subst (λ n. 2 ^ w - 1 < 2 ^ n) h (let p = pow_pos w in omega (arith, p))
fields_small netlist (reg r w) h f = pow_pos (word_width netlist)
fields_small netlist (const w v) h f = pow_pos (word_width netlist)
fields_small netlist (read space a w) h f = fields_small netlist a h.0 f.0
fields_small netlist (un o a) h f = fields_small netlist a h f
fields_small netlist (bin o a b) h f = or_lt (word_width netlist) (fields a) (fields b) (fields_small netlist a h.0 f.0) (fields_small netlist b h.1 f.1)
fields_small netlist (slice (word w) hi lo) h f = subst (λ n. bits_between hi lo < 2 ^ n) h.0 (span_small w hi lo f.1.1)
fields_small netlist (slice (reg r w) hi lo) h f = pow_pos (word_width netlist)
fields_small netlist (slice (const w v) hi lo) h f = pow_pos (word_width netlist)
fields_small netlist (slice (read space a w) hi lo) h f = fields_small netlist (read space a w) h.0 f.0
fields_small netlist (slice (un o a) hi lo) h f = fields_small netlist (un o a) h.0 f.0
fields_small netlist (slice (bin o a b) hi lo) h f = fields_small netlist (bin o a b) h.0 f.0
fields_small netlist (slice (slice a u l) hi lo) h f = fields_small netlist (slice a u l) h.0 f.0
fields_small netlist (slice (cat a b) hi lo) h f = fields_small netlist (cat a b) h.0 f.0
fields_small netlist (slice (zext a w) hi lo) h f = fields_small netlist (zext a w) h.0 f.0
fields_small netlist (slice (sext a w) hi lo) h f = fields_small netlist (sext a w) h.0 f.0
fields_small netlist (slice (select c a b) hi lo) h f = fields_small netlist (select c a b) h.0 f.0
fields_small netlist (cat a b) h f = or_lt (word_width netlist) (fields a) (fields b) (fields_small netlist a h.0 f.0) (fields_small netlist b h.1 f.1)
fields_small netlist (zext a w) h f = fields_small netlist a h.0 f.0
fields_small netlist (sext a w) h f = fields_small netlist a h.0 f.0
fields_small netlist (select c a b) h f =
    or_lt (word_width netlist) (bit_or (fields c) (fields a)) (fields b)
    (or_lt (word_width netlist) (fields c) (fields a) (fields_small netlist c h.0 f.0) (fields_small netlist a h.1 f.1)) (fields_small netlist b h.2 f.2)

pub move_small : (netlist : Netlist) (pool : List Node) → ((id : ℕ) → id < length pool → ExprFits (expr_of_id pool id)) → (addr : Option ℕ) (value : ℕ) → IsAddrKnown (length pool) addr → value < length pool
    → IsTransferOf netlist (ids_transfer pool addr value) → transfer_fields (ids_transfer pool addr value) < 2 ^ word_width netlist
move_small netlist pool fits None value a v h = fields_small netlist (expr_of_id pool value) h (fits value v)
move_small netlist pool fits (Some addr) value a v h =
    or_lt (word_width netlist) (fields (expr_of_id pool addr)) (fields (expr_of_id pool value)) (fields_small netlist (expr_of_id pool addr) h.0 (fits addr a)) (fields_small netlist (expr_of_id pool value) h.1 (fits value v))
