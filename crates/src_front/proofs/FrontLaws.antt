-- The answers on a program's bytes exclude each other.
use Rattle.std.proofs.Common.{◌≡◌, ℕ, List}
use Rattle.src_model.specs.declared.fault.SrcFault.{SrcFault}
use Rattle.src_model.specs.Written.{ProgramModel}
use Rattle.src_parser.specs.Texts.{IsNoSrcText}
use Rattle.src_parser.proofs.TextFaults.{no_fault_of_src_text}
use Rattle.src_front.specs.Fronts.{SaysSrc, IsSrcFile, BreaksSrcRule}

pub no_text_fault : (bytes : List ℕ) (program : ProgramModel) (offset : ℕ) → SaysSrc bytes program → IsNoSrcText bytes offset → ⊥
no_text_fault bytes program offset says faulty = no_fault_of_src_text bytes program offset says.text faulty

pub no_broken_rule : (bytes : List ℕ) (width : ℕ) (program : ProgramModel) (fault : SrcFault) → IsSrcFile bytes width program → BreaksSrcRule bytes width fault → ⊥
no_broken_rule bytes width program fault file breaks =
    let same = file.says.only breaks.program breaks.says.text in let a = file.kept in let b = breaks.broken in absurd cc

pub one_broken_rule : (bytes : List ℕ) (width : ℕ) (fault later : SrcFault) → BreaksSrcRule bytes width fault → BreaksSrcRule bytes width later → fault ≡ later
one_broken_rule bytes width fault later a b = let same = a.says.only b.program b.says.text in let e = a.broken in let f = b.broken in cc
