-- A text of a netlist that keeps N10, N12 and N13 keeps all rules, and the patterns of that netlist
-- are those of the text.
use Rattle.std.proofs.Common.{◌≡◌, ◌≤◌, ℕ, suc, true, List, [], ◌∷◌, Option, Some, None, refl, subst, sym}
use Rattle.std.specs.Prelude.{slice_get}
use Rattle.bit_bdd.specs.Diagrams.{Diagrams}
use Rattle.net_model.specs.declared.fault.CheckFault.{CheckFault}
use Rattle.net_model.specs.declared.fault.CheckFault.TheVariants.{Fault as Broken, Memory as CheckMemory}
use Rattle.net_model.specs.declared.hardware.Netlist.{Netlist}
use Rattle.net_model.specs.CheckedRules.{Ordered}
use Rattle.net_model.specs.Fixed.{in_mode}
use Rattle.net_model.specs.Editions.{is_banked}
use Rattle.net_model.specs.ModeRules.{Moded}
use Rattle.net_model.specs.Patterns.{ArePatterns}
use Rattle.net_model.proofs.ModeFaults.{base_is}
use Rattle.net_model.specs.Written.{UnitsModel as NetText}
use Rattle.net_front.specs.Fronts.{IsCheckedOf, IsModedOf, IsNetFile, taken_of}
use Rattle.sym_expr.specs.declared.pool.Node.{Node}
use Rattle.transfer_set.specs.Rows.{row_patterns}
use Rattle.transfer_set.specs.Tables.{IsPatternTable, PatternTable}
use Rattle.transfer_set.specs.TextMarks.{HasPlainNames}
use Rattle.isa_extract.specs.Extraction.{AreExtractedFrom, AreIsas}
use Rattle.isa_extract.specs.Extracts.{AreRoutedModes, IsExtracted, IsModesRefusal, IsModesText, IsRoutedModes, ModesBreakRoutes, extracted_edition}
use Rattle.isa_extract.specs.Taken.{IsTakenModes, IsViewedModes}
use Rattle.isa_extract.specs.declared.netlists.Isa.{Isa}
use Rattle.isa_extract.proofs.PlainNames.{plain_names}

-- a text's names leave no choice of the order
pub patterns_of_text : (bytes : List ℕ) (entries : NetText) → IsNetFile bytes entries → (checked : Ordered) → IsCheckedOf entries checked → (book : Diagrams) (pool : List Node) (table : PatternTable) → IsPatternTable checked.netlist book pool table → ArePatterns checked.netlist (row_patterns pool table.rows)
patterns_of_text bytes entries file checked of book pool table is = is.patterns (subst HasPlainNames (sym of.netlist) (plain_names bytes entries file.says))

-- ---- of what a netlist is in its modes

-- it has the netlist's names
names_in : (netlist : Netlist) (special : Option ℕ) (v : ℕ) → HasPlainNames netlist → HasPlainNames (in_mode special v netlist)
names_in netlist None v h = h
names_in netlist (Some mode) v h = record { storages = h.storages; code = h.code }

-- so its patterns have one order
isas_of : (netlist : Netlist) → HasPlainNames netlist → (bases : List Ordered) → ((v : ℕ) (base : Ordered) → slice_get bases v ≡ Some base → HasPlainNames base.netlist) →
    (isas : List Isa) → AreExtractedFrom bases isas → AreIsas bases isas
isas_of netlist plain [] names [] from = tt
isas_of netlist plain [] names (isa ∷ isas) from = absurd from
isas_of netlist plain (base ∷ bases) names [] from = absurd from
isas_of netlist plain (base ∷ bases) names (isa ∷ isas) from = (
  record { extracted = from.0; patterns = from.0.ready.patterns.patterns (names 0 base refl) },
  isas_of netlist plain bases (λ v. names (suc v)) isas from.1,
)

pub isas_of_text : (bytes : List ℕ) (entries : NetText) → IsNetFile bytes entries → (moded : Moded) → IsModedOf entries moded → (isas : List Isa) → AreExtractedFrom moded.bases isas → AreIsas moded.bases isas
isas_of_text bytes entries file moded of isas from =
    let plain : HasPlainNames moded.netlist = subst HasPlainNames (sym of.netlist) (plain_names bytes entries file.says) in
    isas_of moded.netlist plain moded.bases
    (λ v base at. subst HasPlainNames (sym (base_is moded.netlist moded.bases of.rules v base at)) (names_in moded.netlist moded.netlist.special v plain)) isas from

routed_modes : (bytes : List ℕ) (entries : NetText) → IsNetFile bytes entries → (moded : Moded) → IsModedOf entries moded → AreRoutedModes moded.netlist → IsRoutedModes bytes moded
routed_modes bytes entries file moded of routed = record {
  entries = entries;
  file = record { file = file; routed = subst AreRoutedModes of.netlist routed };
  netlist = of;
}

-- where its edition is taken
pub taken_modes : (newest : ℕ) (bytes : List ℕ) (entries : NetText) → IsNetFile bytes entries → entries.edition ≤ newest → (moded : Moded) → IsModedOf entries moded → AreRoutedModes moded.netlist → IsTakenModes newest bytes moded
unfolding routed_modes
taken_modes newest bytes entries file taken moded of routed = record { routed = routed_modes bytes entries file moded of routed; taken = taken }

-- or where it has a bank
pub viewed_modes : (bytes : List ℕ) (entries : NetText) → IsNetFile bytes entries → is_banked entries.edition ≡ true → (moded : Moded) → IsModedOf entries moded → AreRoutedModes moded.netlist → IsViewedModes bytes moded
unfolding routed_modes
viewed_modes bytes entries file banked moded of routed = record { routed = routed_modes bytes entries file moded of routed; banked = banked }

pub routes_refused : (entries : NetText) (moded : Moded) → IsModedOf entries moded → (cause : CheckFault) → IsModesRefusal moded.netlist cause → IsModesRefusal (taken_of entries) cause
routes_refused entries moded of (Broken fault) is = subst (λ (n : Netlist). ModesBreakRoutes n fault) of.netlist is
routes_refused entries moded of CheckMemory is = tt

pub text_of_modes : (bytes text : List ℕ) (moded : Moded) → IsTakenModes extracted_edition bytes moded → IsModesText moded.netlist.special moded.netlist text → IsExtracted bytes text
text_of_modes bytes text moded net written = record {
  entries = net.routed.entries;
  file = net.routed.file;
  taken = net.taken;
  written = subst (λ (n : Netlist). IsModesText n.special n text) net.routed.netlist.netlist written;
}
