-- Control that is told has a word without clash, and its set of such words is right for as long as
-- the book grows.
use Rattle.std.proofs.Common.{◌≡◌, ℕ, ◌^◌, ◌<◌, List, sym, subst, ◌∙◌}
use Rattle.net_model.specs.declared.hardware.Netlist.{Netlist}
use Rattle.bit_bdd.specs.Diagrams.{Diagrams, Extends}
use Rattle.bit_bdd.proofs.CallerLemmas.{same_words, still_within}
use Rattle.ctl_bdd.specs.declared.ControlBits.{ControlBits}
use Rattle.ctl_bdd.specs.Controls.{IsControl}
use Rattle.ctl_bdd.proofs.CallerLemmas.{control_later}
use Rattle.sym_expr.specs.declared.pool.Node.{Node}
use Rattle.transfer_set.specs.Ready.{IsReady}
use Rattle.transfer_set.proofs.ReadyLaws.{ready_later}
use Rattle.isa_extract.specs.Extraction.{IsExtractedFrom}
use Rattle.isa_extract.specs.Extracts.{HasCleanWord}
use Rattle.isa_extract.specs.Sets.{IsCleanSet}
use Rattle.isa_extract.specs.declared.netlists.Isa.{Isa}

pub clean_word : (netlist : Netlist) (book : Diagrams) (controls : ControlBits) → IsControl netlist book controls → HasCleanWord netlist
clean_word netlist book controls is = record { word = is.some.0; clean = is.some.2 }

pub clean_set : (netlist : Netlist) (old new : Diagrams) → Extends old new → (controls : ControlBits) → IsControl netlist old controls → IsCleanSet netlist new controls.legal
clean_set netlist old new grows controls is =
    let later : IsControl netlist new controls = control_later netlist old new grows controls is in
    record { within = later.within; words = later.legal }

-- ---- as the book grows

pub clean_later : (netlist : Netlist) (old new : Diagrams) → Extends old new → (set : ℕ) → IsCleanSet netlist old set → IsCleanSet netlist new set
clean_later netlist old new grows set is = record {
  within = still_within old new grows set is.within;
  words = λ word lt.
      (let same = same_words old new grows set is.within word in
      let told = is.words word (subst (λ (n : ℕ). word < 2 ^ n) grows.bits lt) in
      (λ h. told.0 (sym same ∙ h), λ clean. same ∙ told.1 clean));
}

pub extracted_later : (netlist : Netlist) (old new : Isa) → IsExtractedFrom netlist old → Extends old.book new.book → new.pool ≡ old.pool → new.patterns ≡ old.patterns → new.legal ≡ old.legal → IsExtractedFrom netlist new
extracted_later netlist old new from grows pool patterns legal = record {
  ready =
      subst (λ (ns : List Node). IsReady netlist new.book ns new.patterns) (sym pool)
      (subst (IsReady netlist new.book old.pool) (sym patterns) (ready_later netlist old.book new.book old.pool old.patterns grows from.ready));
  legal = subst (IsCleanSet netlist new.book) (sym legal) (clean_later netlist old.book new.book grows old.legal from.legal);
}
