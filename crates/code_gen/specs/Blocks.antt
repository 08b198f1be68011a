-- Blocks of steps, packed.
use Rattle.std.specs.Prelude.{List}
use Rattle.net_model.specs.declared.hardware.Netlist.{Netlist}
use Rattle.net_model.specs.Patterns.{Pattern}
use Rattle.form_model.specs.Live.{Regs}
use Rattle.form_model.specs.declared.forms.Step.{Step}
use Rattle.right_code.specs.Words.{AreGroupWords, IsPackingOf}
use Rattle.compaction.specs.Lists.{EachHasPatternsOnce}
use Rattle.compaction.specs.declared.packer.PackedBlock.{PackedBlock}

-- steps are packed into the groups of a block, behind which these registers are live, and each
-- group has its word
pub record IsPackedBlock (netlist : Netlist) (patterns : List Pattern) (steps : List Step)
    (after : Regs) (block : PackedBlock) : Type 0 where
  pub packing : IsPackingOf netlist patterns steps after block.groups
  pub least : AreGroupWords netlist patterns block.groups after block.words

-- no group of a block has two steps of one pattern
abbrev pub IsOnce : PackedBlock → Type 0
IsOnce block = EachHasPatternsOnce block.groups
