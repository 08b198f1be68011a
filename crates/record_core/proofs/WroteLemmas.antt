-- What is written on `Done`.
use Rattle.std.proofs.Common.{◌≡◌, ℕ, List, Some, None, sym, ◌∙◌, inl, inr}
use Rattle.std.specs.declared.option.Option.{Option}
use Rattle.rec_io.specs.Files.{Files}
use Rattle.rec_io.specs.Shelf.{ShelfState}
use Rattle.rec_io.specs.Sink.{SinkState}
use Rattle.rec_io.specs.Written.{Takes}
use Rattle.record_core.proofs.AsmLemmas.{assembled_of, shown_of}
use Rattle.record_core.proofs.BothLemmas.{dual_of}
use Rattle.record_core.proofs.CheckLemmas.{checked_of}
use Rattle.record_core.proofs.CompileLemmas.{right_of}
use Rattle.record_core.proofs.ExplainLemmas.{explained_of}
use Rattle.record_core.proofs.ExtractLemmas.{patterns_of}
use Rattle.record_core.proofs.GoLemmas.{watched_of}
use Rattle.record_core.proofs.MakeLemmas.{summary_of}
use Rattle.record_core.proofs.RunLemmas.{state_of}
use Rattle.record_core.proofs.TestLemmas.{tested_of}
use Rattle.record_core.proofs.TuneLemmas.{tuned_of}
use Rattle.record_core.specs.Answers.{FilesAnswer, TextAnswers, CommandAnswers, IsAnswer, IsText, Wrote, file_at, netlist_in}
use Rattle.record_core.specs.Lines.{due_line}
use Rattle.record_core.specs.Words.{command_of, names_of}
use Rattle.record_core.specs.declared.words.Command.{Command}
use Rattle.record_core.specs.declared.words.Command.TheVariants.{Compile, Extract, Run, Go, Make, Asm, Dis, Test, Explain, Tune, Dual, Check}
use Rattle.record_core.specs.declared.status.Status.{Status}
use Rattle.record_core.specs.declared.status.Status.TheVariants.{Done}
use Rattle.record_core.specs.declared.stop.Told.{Told}
use Rattle.record_core.specs.declared.stop.Told.TheVariants.{Nothing}

text_is : (line : Told → Status → List ℕ) (command : Command) (files : List (List ℕ)) (text : List ℕ) → TextAnswers line command files Done text → IsText command files text
text_is line Compile files text answers = right_of (line Nothing) (file_at files 0) (file_at files 1) text answers
text_is line Extract files text answers = patterns_of (line Nothing) (file_at files 0) text answers
text_is line (Run clocks) files text answers = state_of line (file_at files 0) (file_at files 1) (file_at files 2) clocks text answers
text_is line (Go clocks) files text answers = watched_of (line Nothing) (file_at files 0) (file_at files 1) (file_at files 2) clocks text answers
text_is line (Make number) files text answers = summary_of (line Nothing) number text answers
text_is line Asm files text answers = assembled_of (line Nothing) (file_at files 0) (file_at files 1) text answers
text_is line Dis files text answers = shown_of (line Nothing) (file_at files 0) (file_at files 1) text answers
text_is line Test files text answers = tested_of (line Nothing) (file_at files 0) text answers
text_is line Explain files text answers = explained_of (line Nothing) (file_at files 0) (file_at files 1) text answers
text_is line Tune files text answers = tuned_of (line Nothing) (file_at files 0) (file_at files 1) text answers
text_is line Dual files text answers = dual_of (line Nothing) (file_at files 0) (file_at files 1) (file_at files 2) text answers
text_is line Check files text answers = checked_of line (file_at files 0) (file_at files 1) (file_at files 2) text answers

command_wrote : (line : List ℕ → Told → Status → List ℕ) (command : Command) (names : List (List ℕ)) (told : Option Files) (old new : Option (List ℕ)) (text : List ℕ) → CommandAnswers line told command names Done text → Takes old new text → Wrote command names told old new
command_wrote line command names None old new text answers taken = tt
command_wrote line command names (Some all) None new text answers taken = tt
command_wrote line command names (Some all) (Some before) None text answers taken = tt
command_wrote line command names (Some all) (Some before) (Some now) text (files, are, answers) taken = record {
  files = files;
  out = text;
  are = are;
  taken = cc;
  text = text_is (line (netlist_in command files)) command files text answers;
}

files_wrote : (words : List (List ℕ)) (command : Command) (before now : ShelfState) (old new : Option (List ℕ)) (text : List ℕ) → FilesAnswer words (Some command) before now Done text → Takes old new text → Wrote command (names_of command words) before.files old new
files_wrote words command before now old new text (inl (read, t)) taken = absurd (let e = read.2 in cc)
files_wrote words command before now old new text (inr (a, inl (long, t))) taken = absurd (let e = long.2 in cc)
files_wrote words command before now old new text (inr (a, inr (b, answers))) taken = command_wrote (due_line words) command (names_of command words) before.files old new text answers taken

pub wrote_of : (words : List (List ℕ)) (before now : ShelfState) (old new : SinkState) (result : Status) → IsAnswer words before now old new result → (command : Command) → command_of words ≡ Some command → result ≡ Done → Wrote command (names_of command words) before.files old.written new.written
wrote_of words before now old new result gives command has done = elim gives.put [
  | inl whole ↦ elim gives.answer [
    | inl memory ↦ absurd (let e = whole.0 in let f = memory.0 in cc)
    | inr due ↦
        let is : gives.due ≡ Done = sym whole.0 ∙ done in
        files_wrote words command before now old.written new.written gives.text (rw (is, has) at due) whole.1
  ]
  | inr part ↦ absurd (let e = part.0 in cc)
]
