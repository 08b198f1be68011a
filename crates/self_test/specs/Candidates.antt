-- Which patterns a self-test can compute: those whose transfer is an expression over words of the
-- memory's width, that code can load before it and store behind it.
use Rattle.std.specs.Prelude.{ℕ, ◌+◌, ◌==◌, ◌&&◌, not, nat_eq, if◌then◌else◌, Bool, true, false, List, [], ◌∷◌, ◌++◌, Option, Some, None, slice_get}
use Rattle.std.specs.List.{list_any}
use Rattle.net_model.specs.declared.hardware.Netlist.{Netlist}
use Rattle.net_model.specs.Nets.{counter_of, memory_width, storage_bits}
use Rattle.net_model.specs.Exprs.{ExprModel, word, reg, const, read, un, bin, slice, cat, zext, sext, select, TransferModel, keep, write, write_at}
use Rattle.net_model.specs.Patterns.{Pattern}
use Rattle.net_model.specs.Occurs.{transfer_occurs}
use Rattle.form_model.specs.Shapes.{is_plain}
use Rattle.form_model.specs.Forms.{FormModel}

-- ---- what holds of all parts of an expression

-- each register in it has this width
abbrev pub has_registers : ℕ → ExprModel → Bool
has_registers w (word v) = true
has_registers w (reg r v) = v == w
has_registers w (const v n) = true
has_registers w (read space a v) = has_registers w a
has_registers w (un o a) = has_registers w a
has_registers w (bin o a b) = has_registers w a && has_registers w b
has_registers w (slice a hi lo) = has_registers w a
has_registers w (cat a b) = has_registers w a && has_registers w b
has_registers w (zext a v) = has_registers w a
has_registers w (sext a v) = has_registers w a
has_registers w (select c a b) = has_registers w c && (has_registers w a && has_registers w b)

-- each read in it stands at a field shape, in which there is no read
abbrev pub has_field_reads : ExprModel → Bool
has_field_reads (word v) = true
has_field_reads (reg r v) = true
has_field_reads (const v n) = true
has_field_reads (read space a v) = is_plain a
has_field_reads (un o a) = has_field_reads a
has_field_reads (bin o a b) = has_field_reads a && has_field_reads b
has_field_reads (slice a hi lo) = has_field_reads a
has_field_reads (cat a b) = has_field_reads a && has_field_reads b
has_field_reads (zext a v) = has_field_reads a
has_field_reads (sext a v) = has_field_reads a
has_field_reads (select c a b) = has_field_reads c && (has_field_reads a && has_field_reads b)

-- no cat and no select occurs in it, so a tree can say it
abbrev pub has_tree : ExprModel → Bool
has_tree (word v) = true
has_tree (reg r v) = true
has_tree (const v n) = true
has_tree (read space a v) = has_tree a
has_tree (un o a) = has_tree a
has_tree (bin o a b) = has_tree a && has_tree b
has_tree (slice a hi lo) = has_tree a
has_tree (cat a b) = false
has_tree (zext a v) = has_tree a
has_tree (sext a v) = has_tree a
has_tree (select c a b) = false

-- ---- the same of transfers

abbrev pub of_both : (ExprModel → Bool) → TransferModel → Bool
of_both f keep = false
of_both f (write e) = f e
of_both f (write_at a e) = f a && f e

abbrev pub value_of_transfer : TransferModel → ExprModel
value_of_transfer keep = const 0 0
value_of_transfer (write e) = e
value_of_transfer (write_at a e) = e

-- a register of this width, or the memory at a field shape
abbrev pub has_target : ℕ → ℕ → TransferModel → Bool
has_target w bits keep = false
has_target w bits (write e) = bits == w
has_target w bits (write_at a e) = is_plain a

-- ---- candidates

-- six things hold of a candidate: the program counter isn't its storage and doesn't occur in it; it
-- writes a register of the memory's width, or the memory at a field shape; each register in it has
-- that width; each read in it stands at a field shape; no cat and no select occurs in its value
abbrev pub is_candidate : Netlist → Pattern → Bool
is_candidate netlist p =
    not (p.storage == counter_of netlist.codes)
    && (not (transfer_occurs (counter_of netlist.codes) p.move)
    && (has_target (memory_width netlist.storages) (storage_bits (slice_get netlist.storages p.storage)) p.move
    && (of_both (has_registers (memory_width netlist.storages)) p.move
    && (of_both has_field_reads p.move && has_tree (value_of_transfer p.move)))))

-- the pattern of this number gives a form
abbrev pub gives_form : List FormModel → ℕ → Bool
gives_form forms number = list_any (λ (form : FormModel). nat_eq form.pattern number) forms

-- the value of the pattern of this number, if it is a candidate that gives a form
abbrev pub value_at : Netlist → List FormModel → ℕ → Option Pattern → List ExprModel
value_at netlist forms number None = []
value_at netlist forms number (Some p) =
    if gives_form forms number && is_candidate netlist p then value_of_transfer p.move ∷ [] else []

-- those of patterns that are numbered from a number on, in their order
abbrev pub values_from : Netlist → List FormModel → ℕ → List Pattern → List ExprModel
values_from netlist forms number [] = []
values_from netlist forms number (p ∷ patterns) =
    value_at netlist forms number (Some p) ++ values_from netlist forms (number + 1) patterns

abbrev pub candidate_values : Netlist → List FormModel → List Pattern → List ExprModel
candidate_values netlist forms patterns = values_from netlist forms 0 patterns
