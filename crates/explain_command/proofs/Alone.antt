-- Netlists without modes, and the texts that are taken.
use Rattle.std.proofs.Common.{◌≡◌, ℕ, List, [], ◌∷◌, None, sym, ap, ◌∙◌, subst, arith}
use Rattle.net_model.specs.declared.hardware.Netlist.{Netlist}
use Rattle.net_model.specs.CheckedRules.{Ordered}
use Rattle.net_model.specs.ModeRules.{AreModesOfNetlist, base_at, Moded}
use Rattle.net_model.proofs.ModeFaults.{alone_base, modes_alone, modes_keep}
use Rattle.net_front.specs.declared.front.NetRefusal.{NetRefusal}
use Rattle.net_front.specs.declared.front.NetRefusal.TheVariants.{Text, Fault, Memory}
use Rattle.isa_extract.specs.declared.netlists.Isa.{Isa}
use Rattle.isa_extract.specs.Extraction.{AreIsas, IsIsaOf}
use Rattle.isa_extract.specs.Taken.{IsRoutedTakenRefusal, IsTakenModes, IsTakenNet}
use Rattle.isa_extract.proofs.RoutedTaken.{taken_plain}
use Rattle.compile_command.specs.Inner.Faults.{net_fault}
use Rattle.compile_command.specs.Tasks.{compiled_edition}
use Rattle.explain_command.specs.Explained.{explained_edition, HasTakenNet, IsUntaken}
use Rattle.explain_command.specs.Inner.Telling.{IsAlone, IsPlainNet}

module _ (modes : Moded) (alone : IsAlone modes) where
  -- what such a netlist is in mode 0 is the netlist
  pub first_is : (base : Netlist) → base ≡ base_at modes.netlist 0 → base ≡ modes.netlist
  first_is base is = is ∙ alone_base modes.netlist alone.plain 0

  pub first_plain : (base : Netlist) → base ≡ base_at modes.netlist 0 → base.special ≡ None
  first_plain base is = ap (λ (n : Netlist). n.special) (first_is base is) ∙ alone.plain

  -- its instruction set is that of its only mode
  pub only_isa : (isa : Isa) → IsIsaOf modes.netlist isa → AreIsas modes.bases (isa ∷ [])
  only_isa isa is =
      subst (λ (bases : List Ordered). AreIsas bases (isa ∷ [])) (sym alone.bases)
      (subst (λ (n : Netlist). IsIsaOf n isa) (sym alone.same) is, tt)

-- ---- a text that is taken

module _ (net : List ℕ) (checked : Ordered) (is : IsTakenNet explained_edition net checked) where
  plain : checked.netlist.special ≡ None
  plain = taken_plain explained_edition net checked is

  pub taken_rules : AreModesOfNetlist checked.netlist (checked ∷ [])
  taken_rules = modes_alone checked plain is.routed.netlist.rules

  module _ (modes : Moded) (same : modes.netlist ≡ checked.netlist) (bases : modes.bases ≡ checked ∷ []) where
    rules : AreModesOfNetlist modes.netlist modes.bases
    rules =
        subst (λ (n : Netlist). AreModesOfNetlist n modes.bases) (sym same)
        (subst (λ (list : List Ordered). AreModesOfNetlist checked.netlist list) (sym bases) taken_rules)

    pub plain_net : IsPlainNet net modes
    plain_net = record {
      routed = record {
        entries = is.routed.entries;
        file = is.routed.file;
        netlist = record {
          kept = is.routed.netlist.kept;
          rest = is.routed.file.file.keeps.rest;
          netlist = same ∙ is.routed.netlist.netlist;
          rules = rules;
        };
      };
      taken = is.taken;
    }

    pub alone_net : IsAlone modes
    alone_net = record {
      rules = modes_keep modes.netlist modes.bases rules;
      plain = ap (λ (n : Netlist). n.special) same ∙ plain;
      base = checked;
      bases = bases;
      same = sym same;
    }

pub taken_file : (net : List ℕ) (modes : Moded) → IsPlainNet net modes → HasTakenNet net
taken_file net modes is = record { entries = is.routed.entries; file = is.routed.file; taken = is.taken }

-- programs are compiled for it
pub taken_modes : (net : List ℕ) (modes : Moded) → IsPlainNet net modes → IsTakenModes compiled_edition net modes
taken_modes net modes is = record { routed = is.routed; taken = (let taken = is.taken in omega (arith, taken)) }

-- why it isn't
pub untaken : (net : List ℕ) (refusal : NetRefusal) → IsRoutedTakenRefusal explained_edition net refusal → IsUntaken net (net_fault refusal)
untaken net (Text at) h = h
untaken net (Fault fault) h = h
untaken net Memory h = tt
