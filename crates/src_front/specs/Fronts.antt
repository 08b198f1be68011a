-- Which bytes are a program's, and why others are refused.
use Rattle.std.specs.Prelude.{◌≡◌, ℕ, true, List, Some, None}
use Rattle.std.specs.List.{AllByRecursion}
use Rattle.text_lines.specs.Fields.{is_name}
use Rattle.src_model.specs.declared.fault.SrcFault.{SrcFault}
use Rattle.src_model.specs.declared.program.Var.{Var as Declared}
use Rattle.src_model.specs.Rules.{first_fault}
use Rattle.src_model.specs.Written.{ProgramModel}
use Rattle.src_parser.specs.Texts.{IsSrcText, IsNoSrcText}
use Rattle.src_front.specs.declared.front.SrcRefusal.{SrcRefusal}
use Rattle.src_front.specs.declared.front.SrcRefusal.TheVariants.{Text, Fault, Memory}

-- the bytes are a program text, of this listing and no other
pub record SaysSrc (bytes : List ℕ) (program : ProgramModel) : Type 0 where
  pub text : IsSrcText bytes program
  pub only : (l : ProgramModel) → IsSrcText bytes l → program ≡ l

-- the bytes are a program text, and it keeps the rules for words of `width` bits
pub record IsSrcFile (bytes : List ℕ) (width : ℕ) (program : ProgramModel) : Type 0 where
  pub says : SaysSrc bytes program
  pub kept : first_fault width program ≡ None

-- the bytes are a program text, and this is the first rule that it breaks
pub record BreaksSrcRule (bytes : List ℕ) (width : ℕ) (fault : SrcFault) : Type 0 where
  pub program : ProgramModel
  pub says : SaysSrc bytes program
  pub broken : first_fault width program ≡ Some fault

-- why the bytes are no program's; nothing is said where memory ran out
abbrev pub IsSrcRefusal : List ℕ → ℕ → SrcRefusal → Type 0
IsSrcRefusal bytes width (Text at) = IsNoSrcText bytes at
IsSrcRefusal bytes width (Fault fault) = BreaksSrcRule bytes width fault
IsSrcRefusal bytes width Memory = Unit {0}

-- a variable's name is one that a line of an image can say
abbrev pub IsNamed : Declared → Type 0
IsNamed var = is_name var.name ≡ true

abbrev pub AreNamed : List Declared → Type 0
AreNamed = AllByRecursion IsNamed
