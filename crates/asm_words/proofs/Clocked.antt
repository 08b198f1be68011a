-- Each word of a word's line has the clock of that word.
use Rattle.std.proofs.Common.{◌≡◌, ℕ, List, slice_get, slice_index, sym, ap, subst, ◌∙◌}
use Rattle.std.proofs.lemmas.Grind.{same_number_lists}
use Rattle.net_model.specs.declared.hardware.Space.{Space}
use Rattle.net_model.specs.declared.hardware.Space.TheVariants.{Memory as InMemory, File as InFile}
use Rattle.net_model.specs.declared.hardware.Netlist.{Netlist}
use Rattle.net_model.specs.declared.states.State.{State}
use Rattle.net_model.specs.CheckedRules.{KeepsRules}
use Rattle.net_model.specs.Clock.{Next, clash_in, clock, step, word_at}
use Rattle.net_model.specs.Fields.{WordFitsTransfer}
use Rattle.net_model.specs.Nets.{IsRegister, held, place_in}
use Rattle.net_model.specs.Exprs.{TransferModel}
use Rattle.net_model.specs.Transfers.{IsClean, Moved, cells_moved, transfer_at, reg_moved}
use Rattle.net_model.specs.Value.{value_of}
use Rattle.net_model.specs.Widths.{IsState}
use Rattle.net_model.proofs.Effects.{moved}
use Rattle.net_model.proofs.KeptRules.{sound_of}
use Rattle.net_model.proofs.WordWidths.{move_fits}
use Rattle.word_fit.proofs.Storages.{other_kept, outcome_next, register_or_not}
use Rattle.asm_text.specs.declared.line.Line.TheVariants.{Raw, Do}
use Rattle.asm_words.specs.Laws.{WordsClockAlike, WordsLie}
use Rattle.asm_words.specs.Slices.{transfer_slices}
use Rattle.asm_words.proofs.Alike.{AllAlike, cells_alike, reg_alike}
use Rattle.asm_words.proofs.Naming.{lies, same_at}

-- an entry that is no register's stays
other_entry : (netlist : Netlist) (code : List ℕ) (s t : State) (id : ℕ) → clock netlist code s ≡ Next t → (IsRegister (slice_get netlist.storages id) → ⊥) → slice_index t.regs id ≡ slice_index s.regs id
other_entry netlist code s t id e h =
    ap (λ (u : State). slice_index u.regs id) (outcome_next (value_of netlist s (word_at netlist code s)) netlist s t (clash_in (value_of netlist s (word_at netlist code s)) netlist.nets) e)
    ∙ other_kept (value_of netlist s (word_at netlist code s)) netlist.storages s.regs id h

module _ (netlist : Netlist) (order : List ℕ) (keeps : KeepsRules netlist order) (word other : ℕ) (clean : IsClean netlist word) (clean_other : IsClean netlist other)
    (same : (id : ℕ) → transfer_at netlist other id ≡ transfer_at netlist word id)
    (alike : (id : ℕ) → AllAlike other word (transfer_slices (transfer_at netlist word id)))
    (code codes : List ℕ) (s : State) (state : IsState netlist s) (here : word_at netlist code s ≡ word) (there : word_at netlist codes s ≡ other) where
  a : Moved netlist code word s
  a = moved netlist code word s (sound_of netlist order keeps) state clean here

  b : Moved netlist codes other s
  b = moved netlist codes other s (sound_of netlist order keeps) state clean_other there

  fits : (id : ℕ) → WordFitsTransfer (transfer_at netlist word id) word
  fits id = move_fits netlist word clean.fits (sound_of netlist order keeps).typed id

  fits_other : (id : ℕ) → WordFitsTransfer (transfer_at netlist word id) other
  fits_other id = subst (λ (m : TransferModel). WordFitsTransfer m other) (same id) (move_fits netlist other clean_other.fits (sound_of netlist order keeps).typed id)

  entries : (id : ℕ) → slice_index b.next.regs id ≡ slice_index a.next.regs id
  entries id =
      register_or_not (slice_get netlist.storages id)
      (λ r.
      b.regs id r ∙ ap (λ (m : TransferModel). reg_moved m s other id) (same id)
      ∙ reg_alike (transfer_at netlist word id) s other word id (fits_other id) (fits id) (alike id) ∙ sym (a.regs id r))
      (λ n. other_entry netlist codes s b.next id b.clocked n ∙ sym (other_entry netlist code s a.next id a.clocked n))

  cells : (space : Space) → held b.next space ≡ held a.next space
  cells space =
      let m : ℕ = place_in space netlist.storages in
      b.cells space ∙ ap (λ (k : TransferModel). cells_moved k s other (held s space)) (same m)
      ∙ cells_alike (transfer_at netlist word m) s other word (held s space) (fits_other m) (fits m) (alike m) ∙ sym (a.cells space)

  next_same : b.next ≡ a.next
  next_same =
      let regs : b.next.regs ≡ a.next.regs = same_number_lists b.next.regs a.next.regs (b.state.regs ∙ sym a.state.regs) (λ id lt. entries id) in
      let memory : b.next.cells ≡ a.next.cells = cells InMemory in
      let file : b.next.file ≡ a.next.file = cells InFile in
      (λ j. record { regs = regs j; cells = memory j; file = file j })

  pub clocks_alike : clock netlist codes s ≡ clock netlist code s
  clocks_alike = b.clocked ∙ ap Next next_same ∙ sym a.clocked

pub words_lie : WordsLie
words_lie netlist patterns word (Raw own) all shown = sym shown.is
words_lie netlist patterns word (Do numbers items) all shown = lies netlist patterns all word numbers items shown

pub words_clock_alike : WordsClockAlike
words_clock_alike netlist order patterns word other (Raw own) keeps all shown does code codes s state here there =
    ap (step netlist s) (there ∙ does ∙ shown.is ∙ sym here)
words_clock_alike netlist order patterns word other (Do numbers items) keeps all shown does code codes s state here there =
    let at = same_at netlist patterns all word numbers items shown other does in
    clocks_alike netlist order keeps word other shown.clean does.clean (λ id. (at id).move) (λ id. (at id).alike) code codes s state here there
