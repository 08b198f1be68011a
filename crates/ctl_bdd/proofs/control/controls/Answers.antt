use Rattle.std.proofs.Common.{◌≡◌, ℕ, ◌<◌, ◌^◌, true, false, List, map, sym, ap, ◌∙◌, subst}
use Rattle.std.specs.Prelude.{filter}
use Rattle.std.specs.List.{AllByRecursion}
use Rattle.net_model.specs.Symbolic.{is_static}
use Rattle.net_model.specs.Nets.{word_width}
use Rattle.net_model.proofs.WordWidths.{clean_below}
use Rattle.bit_bdd.specs.Diagrams.{has_word}
use Rattle.ctl_bdd.specs.Controls.{IsNetBits}
use Rattle.net_model.specs.Control.{control_places}
use Rattle.ctl_bdd.specs.Places.{static_controls}
use Rattle.ctl_bdd.specs.Tables.{HasControls, sets_at}
use Rattle.ctl_bdd.proofs.Placed.{static_inside}
use Rattle.ctl_bdd.proofs.Listing.{controls_later, listed_are, names_listed}
use Rattle.bit_bdd.proofs.CallerLemmas.{extends_trans}
use Rattle.ctl_bdd.proofs.control.controls.Goals as goal

pub control_table-requires-clause-places : goal.control_table-requires-clause-places
control_table-requires-clause-places c = rw c.as_slice.ensures c.in_ok-places.ensures

pub legal_words-requires-clause-controls : goal.legal_words-requires-clause-controls
legal_words-requires-clause-controls c = rw c.as_slice-2.ensures c.in_ok-table.ensures.table

pub listed_bits-requires-clause-places : goal.listed_bits-requires-clause-places
listed_bits-requires-clause-places c = rw (c.as_slice-in-Some.ensures, c.netlist-netlist.ensures.value) c.in_ok-places.ensures

pub returns-in_err-legal-clause-grows : goal.returns-in_err-legal-clause-grows
returns-in_err-legal-clause-grows c = extends_trans c.args.book.now c.control_table.new.book c.legal_words.new.book c.in_ok-table.ensures.grows c.in_err-legal.ensures.grows

pub returns-in-None-clause-grows : goal.returns-in-None-clause-grows
returns-in-None-clause-grows c = extends_trans c.args.book.now c.control_table.new.book c.legal_words.new.book c.in_ok-table.ensures.grows c.in_ok-legal.ensures.grows

pub returns-in_err-bits-in-Some-clause-grows : goal.returns-in_err-bits-in-Some-clause-grows
returns-in_err-bits-in-Some-clause-grows c = extends_trans c.args.book.now c.control_table.new.book c.legal_words.new.book c.in_ok-table.ensures.grows c.in_ok-legal.ensures.grows

pub returns-clause-grows : goal.returns-clause-grows
returns-clause-grows c = extends_trans c.args.book.now c.control_table.new.book c.legal_words.new.book c.in_ok-table.ensures.grows c.in_ok-legal.ensures.grows

pub returns-in-None-clause-control : goal.returns-in-None-clause-control
returns-in-None-clause-control c word clean =
    let bits : c.legal_words.new.book.bits ≡ word_width c.args.checked.now.netlist = c.in_ok-legal.ensures.grows.bits ∙ c.in_ok-table.ensures.grows.bits ∙ c.requires in
    let lt : word < 2 ^ word_width c.args.checked.now.netlist = clean_below c.args.checked.now.netlist c.args.checked.now.order c.netlist-netlist.ensures.kept word clean in
    let below : word < 2 ^ c.legal_words.new.book.bits = subst (λ b. word < 2 ^ b) (sym bits) lt in
    let here : has_word c.legal_words.new.book c.in_ok-legal.legal word ≡ true = (c.in_ok-legal.ensures.legal word below).1 clean in
    let none : has_word c.legal_words.new.book c.in_ok-legal.legal word ≡ false = c.in-None.ensures.none word in
    absurd (let q : true ≡ false = sym here ∙ none in cc)

pub listed_bits-requires-clause-inside : goal.listed_bits-requires-clause-inside
listed_bits-requires-clause-inside c =
    let places : c.in_ok-places.places ≡ filter (is_static c.args.checked.now.netlist) (control_places c.args.checked.now.netlist) = c.in_ok-places.ensures in
    rw (c.as_slice-in-Some.ensures, c.netlist-netlist.ensures.value, places) (static_inside c.args.checked.now.netlist c.netlist-netlist.ensures.sound.typed)

pub returns-clause-control : goal.returns-clause-control
returns-clause-control c =
    let table : HasControls c.args.checked.now.netlist c.legal_words.new.book c.in_ok-table.table = controls_later c.args.checked.now.netlist c.control_table.new.book c.legal_words.new.book c.in_ok-legal.ensures.grows c.in_ok-table.table c.in_ok-table.ensures.table in
    let bits : c.in_ok-bits-in-Some.bits ≡ map (λ (n : ℕ). (n, sets_at c.in_ok-table.table n)) (static_controls c.args.checked.now.netlist) = rw (c.as_slice-in-Some-2.ensures, c.netlist-netlist.ensures.value) at c.in_ok-bits-in-Some.ensures in
    record {
      nets = ap (map (λ (net : ℕ × List ℕ). net.0)) bits ∙ names_listed (sets_at c.in_ok-table.table) (static_controls c.args.checked.now.netlist);
      bits = subst (AllByRecursion (IsNetBits c.args.checked.now.netlist c.legal_words.new.book)) (sym bits) (listed_are c.args.checked.now.netlist c.legal_words.new.book c.in_ok-table.table table);
      within = c.in_ok-legal.ensures.within;
      legal = c.in_ok-legal.ensures.legal;
      some = (c.in-Some.field-0, c.in-Some.ensures.within, (c.in_ok-legal.ensures.legal c.in-Some.field-0 c.in-Some.ensures.within).0 c.in-Some.ensures.some);
    }
