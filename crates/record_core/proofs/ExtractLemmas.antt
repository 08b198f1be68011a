-- What `extract` answers for the text of a netlist.
use Rattle.std.proofs.Common.{◌≡◌, ◌⊎◌, ℕ, List, inl, inr, refl}
use Rattle.net_model.specs.declared.fault.NetFault.{NetFault}
use Rattle.net_parser.specs.Texts.{IsNoNetText}
use Rattle.isa_extract.proofs.RoutedTaken.{no_broken_any_taken, no_text_fault_where_taken}
use Rattle.isa_extract.specs.Extracts.{IsExtracted, extracted_edition}
use Rattle.isa_extract.specs.Taken.{BreaksAnyTaken, IsRoutedTakenRefusal}
use Rattle.net_front.specs.declared.front.NetRefusal.{NetRefusal}
use Rattle.net_front.specs.declared.front.NetRefusal.TheVariants.{Text as NoNet, Fault as BrokenNet, Memory as NetMemory}
use Rattle.record_core.proofs.NetLemmas.{past_rules, stops_at_text, stops_at_rule}
use Rattle.record_core.specs.Answers.{ExtractAnswers}
use Rattle.record_core.specs.Inner.Statuses.{net_status}
use Rattle.record_core.specs.declared.status.Status.{Status}
use Rattle.record_core.specs.declared.status.Status.TheVariants.{Done, NetText, Net, Memory}

module _ (line : Status → List ℕ) (net : List ℕ) where
  abbrev pub text_answers : Status → List ℕ → Type 0
  text_answers status text = (status ≡ Done) × IsExtracted net text

  pub answers_patterns : (out : List ℕ) → IsExtracted net out → ExtractAnswers line net Done out
  answers_patterns out is = past_rules line net (BreaksAnyTaken extracted_edition net) text_answers is.entries is.file.file.says (λ fault breaks. no_broken_any_taken extracted_edition net is.entries fault is.file is.taken breaks) Done out (refl, is)

  answers_no_net_text : (at : ℕ) → IsNoNetText net at → ExtractAnswers line net (NetText at) (line (NetText at))
  answers_no_net_text = stops_at_text line net (BreaksAnyTaken extracted_edition net) text_answers

  answers_broken : (fault : NetFault) → BreaksAnyTaken extracted_edition net fault → ExtractAnswers line net (Net fault) (line (Net fault))
  answers_broken fault breaks =
      stops_at_rule line net (BreaksAnyTaken extracted_edition net) text_answers fault (λ at faulty. no_text_fault_where_taken extracted_edition net fault at breaks faulty) breaks

  -- a refusal of the netlist is what is answered
  pub answers_refusal : (refusal : NetRefusal) → IsRoutedTakenRefusal extracted_edition net refusal → (net_status refusal ≡ Memory) ⊎ ExtractAnswers line net (net_status refusal) (line (net_status refusal))
  answers_refusal (NoNet at) is = inr (answers_no_net_text at is)
  answers_refusal (BrokenNet fault) is = inr (answers_broken fault is)
  answers_refusal NetMemory is = inl refl

-- what is written on `Done` is the text of the patterns
pub patterns_of : (line : Status → List ℕ) (net text : List ℕ) → ExtractAnswers line net Done text → IsExtracted net text
patterns_of line net text (inl ((at, reason, is), same)) = absurd cc
patterns_of line net text (inr (net_text, inl ((fault, reason, is), same))) = absurd cc
patterns_of line net text (inr (net_text, inr (rules, (is, extracted)))) = extracted
