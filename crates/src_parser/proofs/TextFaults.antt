-- Texts as bytes: what is a text has no fault, and a fault is at one place.
use Rattle.std.proofs.Common.{◌≡◌, ℕ, List}
use Rattle.grammar.proofs.Faults.{none_in_text, one_offset}
use Rattle.src_model.specs.Grammar.{IsProgram}
use Rattle.src_model.specs.Written.{ProgramModel}
use Rattle.src_parser.specs.Texts.{src_lexed, IsSrcText, IsNoSrcText}

pub no_fault_of_src_text : (bytes : List ℕ) (program : ProgramModel) (offset : ℕ) → IsSrcText bytes program → IsNoSrcText bytes offset → ⊥
no_fault_of_src_text bytes program offset text none = none_in_text IsProgram bytes (src_lexed bytes) offset none.fault program text.spelled

pub one_src_fault : (bytes : List ℕ) (offset later : ℕ) → IsNoSrcText bytes offset → IsNoSrcText bytes later → offset ≡ later
one_src_fault bytes offset later a b = one_offset IsProgram bytes (src_lexed bytes) offset later a.fault b.fault
