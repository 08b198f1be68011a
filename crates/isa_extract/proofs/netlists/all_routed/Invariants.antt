use Rattle.std.proofs.Common.{◌≡◌, ◌<◌, ℕ, take, length}
use Rattle.net_model.specs.ModeRules.{base_at}
use Rattle.isa_extract.specs.Extraction.{AreExtractedFrom}
use Rattle.isa_extract.specs.Extracts.{IsRouted}
use Rattle.isa_extract.proofs.netlists.all_routed.Given as goal

-- what is extracted of the modes so far, each of which keeps N10, N12 and N13
abbrev pub invariant-loop-one : goal.invariant-loop-one
invariant-loop-one l = record {
  place : l.mode ≡ length l.yielded;
  extracted : AreExtractedFrom (take l.mode l.bases) l.list;
  kept : (v : ℕ) → v < l.mode → IsRouted (base_at l.modes.netlist v);
}
