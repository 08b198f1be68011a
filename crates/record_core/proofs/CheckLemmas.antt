-- What `check` answers for three texts.
use Rattle.std.proofs.Common.{◌≡◌, ◌⊎◌, ℕ, List, Option, inl, inr, refl}
use Rattle.net_front.specs.Taken.{BreaksTaken, IsLater, added_role}
use Rattle.net_front.proofs.TakenLaws.{no_text_fault_for}
use Rattle.src_parser.specs.Texts.{IsNoSrcText}
use Rattle.src_front.proofs.FrontLaws.{no_text_fault as no_src_fault}
use Rattle.check_command.specs.Checked.{BreaksCheckedSrc, BreaksImageRule, HasCheckedNet, HasCheckedSrc, IsCheckFault, IsCheckStop, IsChecked, IsNoViewedFile, KeepsAllRules}
use Rattle.check_command.specs.Rules.{KeepsImageRules}
use Rattle.check_command.specs.Tasks.{CheckHolds, CheckTask, checked_edition}
use Rattle.check_command.specs.declared.fault.CheckFault.{CheckFault}
use Rattle.check_command.specs.declared.fault.CheckFault.TheVariants as checking
use Rattle.check_command.specs.declared.fault.CheckStop.{CheckStop}
use Rattle.check_command.proofs.CheckLaws.{has_net, has_src, none_broken, none_broken_rule, none_broken_src, none_no_image}
use Rattle.record_core.proofs.NetLemmas.{past_rules, stops_at_rule, stops_at_text}
use Rattle.record_core.proofs.StageLemmas.{By-none}
use Rattle.record_core.specs.Answers.{CheckAnswers, CheckEnds}
use Rattle.record_core.specs.Inner.Statuses.{check_status, check_stop}
use Rattle.record_core.specs.Stages.{By, Then, ThenTelling, name_told}
use Rattle.record_core.specs.declared.status.Status.{Status}
use Rattle.record_core.specs.declared.status.Status.TheVariants.{Done, SrcText, Src, ImageText, Rule, Follow, Memory}
use Rattle.record_core.specs.declared.stop.Told.{Told}
use Rattle.record_core.specs.declared.stop.Told.TheVariants.{Nothing}

module _ (line : Told → Status → List ℕ) (net src image : List ℕ) where
  -- ---- what is answered behind the stages

  abbrev ends : Status → List ℕ → Type 0
  ends = CheckEnds line net src image

  abbrev rule_answers : Status → List ℕ → Type 0
  rule_answers = ThenTelling line Rule (BreaksImageRule net src image) ends

  abbrev image_answers : Status → List ℕ → Type 0
  image_answers = Then (line Nothing) (By ImageText (IsNoViewedFile net image)) rule_answers

  abbrev src_answers : Status → List ℕ → Type 0
  src_answers = Then (line Nothing) (By Src (BreaksCheckedSrc net src)) image_answers

  abbrev text_answers : Status → List ℕ → Type 0
  text_answers = Then (line Nothing) (By SrcText (IsNoSrcText src)) src_answers

  -- ---- no stage refuses where there is nothing to refuse

  past_net : HasCheckedNet net → (status : Status) (text : List ℕ) → text_answers status text → CheckAnswers line net src image status text
  past_net h = past_rules (line Nothing) net (BreaksTaken checked_edition net) text_answers h.entries h.file.file.says (none_broken net h)

  past_src : HasCheckedSrc net src → (status : Status) (text : List ℕ) → image_answers status text → CheckAnswers line net src image status text
  past_src h status text later =
      past_net (has_net net src h) status text
      (inr (
        By-none SrcText (IsNoSrcText src) (λ at faulty. no_src_fault src h.program at h.src_file.says faulty),
        inr (By-none Src (BreaksCheckedSrc net src) (none_broken_src net src h), later),
      ))

  past_image : (P : CheckTask → Type 0) → CheckHolds net src image P → (status : Status) (text : List ℕ) → rule_answers status text → CheckAnswers line net src image status text
  past_image P h status text later =
      past_src (has_src net src image P h) status text (inr (By-none ImageText (IsNoViewedFile net image) (none_no_image net src image P h), later))

  past_all : KeepsAllRules net src image → (status : Status) (text : List ℕ) → ends status text → CheckAnswers line net src image status text
  past_all h status text later = past_image KeepsImageRules h status text (inr (none_broken_rule net src image h, later))

  -- ---- what is answered

  kept : (out : List ℕ) → IsChecked net src image out → KeepsAllRules net src image
  kept out h = record { task = h.task; is = h.is; holds = h.holds.rules }

  pub answers_checked : (out : List ℕ) → IsChecked net src image out → CheckAnswers line net src image Done out
  answers_checked out h = past_all (kept out h) Done out (inr (refl, h))

  -- a fault of the check is what is answered
  pub answers_stop : (fault : CheckFault) (name : Option (List ℕ)) → IsCheckFault net src image fault name
      → (check_status fault ≡ Memory) ⊎ CheckAnswers line net src image (check_status fault) (line (name_told name) (check_status fault))
  answers_stop (checking.NetText at) name is = inr (rw is.0 (stops_at_text (line Nothing) net (BreaksTaken checked_edition net) text_answers at is.1))
  answers_stop (checking.Net fault) name is =
      inr (rw is.0 (stops_at_rule (line Nothing) net (BreaksTaken checked_edition net) text_answers fault
      (λ at faulty. no_text_fault_for (IsLater checked_edition) added_role net fault at is.1 faulty) is.1))
  answers_stop (checking.SrcText at) name is = inr (rw is.0 (past_net is.1 (SrcText at) (line Nothing (SrcText at)) (inl ((at, is.2, refl), refl))))
  answers_stop (checking.Src fault) name is =
      inr (rw is.0 (past_net (record { entries = is.1.entries; file = is.1.net_file }) (Src fault) (line Nothing (Src fault))
      (inr (
        By-none SrcText (IsNoSrcText src) (λ at faulty. no_src_fault src is.1.breaks.program at is.1.breaks.says faulty),
        inl ((fault, is.1, refl), refl),
      ))))
  answers_stop (checking.ImageText at) name is = inr (rw is.0 (past_src is.1 (ImageText at) (line Nothing (ImageText at)) (inl ((at, is.2, refl), refl))))
  answers_stop (checking.Rule fault) name is =
      inr (past_image _ is (Rule fault) (line (name_told name) (Rule fault)) (inl (fault, name, is, refl, refl)))
  answers_stop (checking.Follow origin cause) name is =
      inr (past_all is (Follow origin cause) (line (name_told name) (Follow origin cause)) (inl (origin, cause, name, is, refl, refl)))
  answers_stop checking.Memory name is = inl refl

  pub answers_fault : (stop : CheckStop) → IsCheckStop net src image stop
      → ((check_stop stop).status ≡ Memory) ⊎ CheckAnswers line net src image (check_stop stop).status (line (check_stop stop).told (check_stop stop).status)
  answers_fault stop is = answers_stop stop.fault stop.name is

  -- what is written on `Done` is of an image that is right
  pub checked_of : (text : List ℕ) → CheckAnswers line net src image Done text → IsChecked net src image text
  checked_of text (inl ((at, reason, is), same)) = absurd cc
  checked_of text (inr (a, inl ((fault, reason, is), same))) = absurd cc
  checked_of text (inr (a, inr (b, inl ((at, reason, is), same)))) = absurd cc
  checked_of text (inr (a, inr (b, inr (c, inl ((fault, reason, is), same))))) = absurd cc
  checked_of text (inr (a, inr (b, inr (c, inr (d, inl ((at, reason, is), same)))))) = absurd cc
  checked_of text (inr (a, inr (b, inr (c, inr (d, inr (e, inl (fault, name, reason, is, same))))))) = absurd cc
  checked_of text (inr (a, inr (b, inr (c, inr (d, inr (e, inr (f, inl (origin, cause, name, kept, is, same)))))))) = absurd cc
  checked_of text (inr (a, inr (b, inr (c, inr (d, inr (e, inr (f, inr (is, checked)))))))) = checked
