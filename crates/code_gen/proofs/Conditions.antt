-- The registers that are wanted behind a test are those that its branch's condition reads.
use Rattle.std.proofs.Common.{◌≡◌, ℕ, ◌<◌, ◌≤◌, ◌||◌, ◌^◌, nat_lt, Bool, true, false, Some, length, slice_get, refl, sym, ◌∙◌, ap, arith}
use Rattle.std.proofs.lemmas.Bool.{ltb-true, ltb-false, ne_eqb}
use Rattle.rec_bits.proofs.Booleans.{or_from}
use Rattle.net_model.specs.declared.hardware.Space.TheVariants.{Memory as InMemory, File as InFile}
use Rattle.net_model.specs.declared.hardware.Netlist.{Netlist}
use Rattle.net_model.specs.ModeRules.{KeepsInOrder, base_at}
use Rattle.net_model.proofs.ModeFaults.{first_keeps}
use Rattle.net_model.specs.Exprs.{ExprModel, word, reg, const, read, un, bin, slice, cat, zext, sext, select}
use Rattle.net_model.proofs.KeptRules.{few_storages}
use Rattle.net_model.proofs.WordWidths.{has_bits}
use Rattle.transfer_set.specs.TextMarks.{IsExprOf}
use Rattle.form_model.specs.Covers.{IsOrderly}
use Rattle.form_model.specs.Effects.{register, expr_reads}
use Rattle.form_model.specs.Live.{regs_of}
use Rattle.form_model.specs.CoverModels.{CoverModel, use_form}
use Rattle.form_model.specs.Forms.{TargetModel, FormModel, branches, tested}
use Rattle.form_model.specs.Steps.{branch_setting, form_at}
use Rattle.mode_set.specs.Keeping.{Isas}
use Rattle.emit_seq.specs.Spares.{wanted}
use Rattle.emit_seq.proofs.Opened.{opened_cover}
use Rattle.live_sets.proofs.Bits.{regs_of_past}
use Rattle.right_code.specs.Forks.{cover_form}
use Rattle.right_code.specs.Inner.Forks.{IsBranchForm}
use Rattle.right_code.specs.Covered.{mode_stock}
use Rattle.right_code.specs.Tasks.{IsChecked, Task}
use Rattle.right_code.proofs.Kept.{part_of}
use Rattle.right_code.proofs.Known.{known_of}
use Rattle.right_code.proofs.Layouts.{cover_goal}
use Rattle.right_code.proofs.Turns.{fork_form}
use Rattle.code_gen.specs.Inner.Registers.{AreConditionReads, pattern_condition}

-- an expression of a netlist reads no register past its storages
past_netlist : (netlist : Netlist) → length netlist.storages ≤ 15 → (t : ExprModel) → IsExprOf netlist t → (i r : ℕ) → 16 ≤ r → expr_reads i t (register r) ≡ false
past_netlist netlist few (word w) h i r le = refl
past_netlist netlist few (reg q w) h i r le = ne_eqb r q (λ e. let k = h.0 in omega (arith, k, few, le, e))
past_netlist netlist few (const w v) h i r le = refl
past_netlist netlist few (read InMemory a w) h i r le = past_netlist netlist few a h.0 i r le
past_netlist netlist few (read InFile a w) h i r le = past_netlist netlist few a h.0 i r le
past_netlist netlist few (un o a) h i r le = past_netlist netlist few a h i r le
past_netlist netlist few (bin o a b) h i r le = or_from (expr_reads i a (register r)) (expr_reads i b (register r)) (past_netlist netlist few a h.0 i r le) (past_netlist netlist few b h.1 i r le)
past_netlist netlist few (slice a hi lo) h i r le = past_netlist netlist few a h.0 i r le
past_netlist netlist few (cat a b) h i r le = or_from (expr_reads i a (register r)) (expr_reads i b (register r)) (past_netlist netlist few a h.0 i r le) (past_netlist netlist few b h.1 i r le)
past_netlist netlist few (zext a w) h i r le = past_netlist netlist few a h.0 i r le
past_netlist netlist few (sext a w) h i r le = past_netlist netlist few a h.0 i r le
past_netlist netlist few (select c a b) h i r le =
    or_from (expr_reads i c (register r)) (expr_reads i a (register r) || expr_reads i b (register r)) (past_netlist netlist few c h.0 i r le)
    (or_from (expr_reads i a (register r)) (expr_reads i b (register r)) (past_netlist netlist few a h.1 i r le) (past_netlist netlist few b h.2 i r le))

module _ (task : Task) (checked : IsChecked task) (isas : Isas task.netlist) where
  -- the registers that are wanted after a test's steps
  pub wanted_registers : (tree : ExprModel) (cover : CoverModel) → IsOrderly (mode_stock task isas 0) tested tree true cover
      → (n : ℕ) → n < 2 ^ 16 → AreConditionReads (isas 0).patterns (cover_form (mode_stock task isas 0) cover).pattern n → wanted (mode_stock task isas 0) tested tree cover ≡ regs_of n
  wanted_registers tree (use_form k ps cs) orderly n small reads = λ x r. point r (nat_lt r 16) refl x
    where
      base : Netlist
      base = base_at task.netlist 0

      keeps : KeepsInOrder (base_at task.netlist 0)
      keeps = first_keeps task.netlist checked.netlist

      branch : FormModel
      branch = form_at (mode_stock task isas 0) k

      setting : ℕ
      setting = branch_setting (mode_stock task isas 0) tree (use_form k ps cs)

      goal : (b : Bool) × (way : TargetModel) × (branch.goal ≡ branches b way)
      goal = cover_goal (mode_stock task isas 0) tree (use_form k ps cs) orderly

      -- a form that keeps the mode is one of all forms
      among : (j : ℕ) × (slice_get (isas 0).all j ≡ Some branch)
      among = part_of base (isas 0).patterns task.netlist.special (isas 0).all (isas 0).keeping (isas 0).kept k branch (opened_cover (mode_stock task isas 0) k ps cs tested tree true orderly).listed

      form : IsBranchForm base (isas 0).patterns branch goal.0 goal.1
      form = fork_form base keeps.order keeps.rules (has_bits base keeps.order keeps.rules) (isas 0).patterns (known_of base keeps.order keeps.rules (isas 0).patterns (isas 0).are) (isas 0).most (isas 0).all (isas 0).forms among.0 branch goal.0 goal.1 among.1 goal.2

      exprs : IsExprOf base form.condition
      exprs = (known_of base keeps.order keeps.rules (isas 0).patterns (isas 0).are branch.pattern _ form.is).exprs.0

      condition : pattern_condition (slice_get (isas 0).patterns branch.pattern) ≡ Some form.condition
      condition = ap pattern_condition form.is

      point : (r : ℕ) (b : Bool) → nat_lt r 16 ≡ b → expr_reads setting branch.value (register r) ≡ regs_of n r
      point r true e = form.alike.reads setting r ∙ sym (reads form.condition condition setting r (ltb-true r 16 e))
      point r false e =
          let le = ltb-false r 16 e in
          form.alike.reads setting r ∙ past_netlist base (few_storages base keeps.order keeps.rules) form.condition exprs setting r le ∙ sym (regs_of_past n r small le)
