-- The routes and the control bits of a checked netlist are what its transfers are collected from.
use Rattle.std.proofs.Common.{◌≡◌, ℕ, nat_eq, false, ◌<◌, ◌&&◌, true, List, length, Option, option_to_list, None, Some, slice_get, refl, sym, ap, subst, ◌∙◌}
use Rattle.std.specs.List.{list_any}
use Rattle.std.proofs.lemmas.Bool.{eq-eqb}
use Rattle.bit_bdd.specs.Diagrams.{Diagrams, has_word}
use Rattle.ctl_bdd.specs.Bits.{AreSets}
use Rattle.ctl_bdd.specs.Controls.{IsControl}
use Rattle.ctl_bdd.specs.Places.{is_placed}
use Rattle.ctl_bdd.specs.declared.ControlBits.{ControlBits}
use Rattle.rec_bits.proofs.Booleans.{or_left}
use Rattle.rec_bits.proofs.Lists.{all_at}
use Rattle.ctl_bdd.proofs.CallerLemmas.{bits_found, one_set, when_placed}
use Rattle.net_model.specs.declared.hardware.Netlist.{Netlist}
use Rattle.net_model.specs.declared.hardware.Storage.{Storage}
use Rattle.net_model.specs.declared.hardware.Storage.TheVariants.{Register, Memory, File}
use Rattle.net_model.specs.CheckedRules.{KeepsRules, StorageKeeps}
use Rattle.net_model.specs.Control.{AllPass, storage_enables}
use Rattle.net_model.specs.Symbolic.{is_static}
use Rattle.net_model.specs.Widths.{WhenFits}
use Rattle.net_model.specs.Nets.{word_width}
use Rattle.sym_expr.specs.declared.pool.Node.{Node}
use Rattle.transfer_set.specs.declared.route.Route.{Route}
use Rattle.transfer_set.specs.Routes.{AreRoutes}
use Rattle.transfer_set.specs.Inner.Sources.{IsOnSet, AreSources, IsStorageKnown, IsWhenKnown, only_set}
use Rattle.net_model.proofs.KeptRules.{sound_of}
use Rattle.net_model.proofs.Offsets.{gathered_at}

module _ (netlist : Netlist) (order : List ℕ) (kept : KeepsRules netlist order) (book : Diagrams) (controls : ControlBits) (control : IsControl netlist book controls)
    (some : 1 < length book.nodes) (all : (word : ℕ) → has_word book 1 word ≡ true) where
  -- a write enable is a static net of one bit in a control place
  when_known : (id : ℕ) (storage : Storage) → slice_get netlist.storages id ≡ Some storage → (when : Option ℕ) → option_to_list when ≡ storage_enables storage → AllPass (is_static netlist) (option_to_list when) → WhenFits netlist when → IsWhenKnown netlist book controls.bits when
  when_known id storage at None same static fit = (tt, record { within = some; words = λ word lt. all word })
  when_known id storage at (Some when) same static fit =
      let placed : is_placed netlist when ≡ true = when_placed netlist when id storage at (subst (λ l. list_any (nat_eq when) l ≡ true) same (or_left (nat_eq when when) false (eq-eqb when when refl))) in
      let found = bits_found netlist book controls control when fit.0 (λ j. static.0 j && placed j) in
      let set = one_set netlist book when found.0 found.2 fit.1 in
      let is = found.1 ∙ ap Some set.1 in (
        (set.0, is),
        subst (λ s. IsOnSet netlist book (only_set s) (Some when)) (sym is) (record { within = (subst (λ l. AreSets book l) set.1 found.2.sets).0; words = set.2 }),
      )

  storage_known : (id : ℕ) (storage : Option Storage) → slice_get netlist.storages id ≡ storage → IsStorageKnown netlist book controls.bits storage
  storage_known id None at = tt
  storage_known id (Some (Register name width input when)) at =
      when_known id (Register name width input when) at when refl
      (gathered_at (λ n. is_static netlist n ≡ true) storage_enables netlist.storages id _ at (sound_of netlist order kept).storages)
      (all_at (StorageKeeps netlist) netlist.storages id _ kept.formed.storages at).1.1
  storage_known id (Some (Memory cells)) at =
      when_known id (Memory cells) at cells.when refl
      (gathered_at (λ n. is_static netlist n ≡ true) storage_enables netlist.storages id _ at (sound_of netlist order kept).storages)
      (all_at (StorageKeeps netlist) netlist.storages id _ kept.formed.storages at).2.2
  storage_known id (Some (File cells)) at =
      when_known id (File cells) at cells.when refl
      (gathered_at (λ n. is_static netlist n ≡ true) storage_enables netlist.storages id _ at (sound_of netlist order kept).storages)
      (all_at (StorageKeeps netlist) netlist.storages id _ kept.formed.storages at).2.2

  pub source_of : book.bits ≡ word_width netlist → (pool : List Node) (nets : List (List Route)) → AreRoutes netlist book pool controls.legal nets → AreSources netlist book pool controls nets
  source_of bits pool nets routes = record {
    routes = routes;
    within = control.within;
    legal = control.legal;
    storages = λ id. storage_known id (slice_get netlist.storages id) refl;
  }
