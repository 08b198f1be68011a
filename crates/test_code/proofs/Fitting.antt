-- The steps of a job of a self-test have words, and words of groups fit the netlist.
use Rattle.std.proofs.Common.{◌≡◌, ℕ, suc, ◌<◌, List, [], ◌∷◌, None, length, slice_index, get_or, refl, sym, subst, append-nil, arith}
use Rattle.std.specs.List.{AllByRecursion}
use Rattle.std.proofs.lemmas.Nat.Bits.{bit_at-zero}
use Rattle.std.proofs.lemmas.Option.{slice_get-get_or}
use Rattle.net_model.specs.CheckedRules.{KeepsRules}
use Rattle.net_model.specs.declared.hardware.Netlist.{Netlist}
use Rattle.net_model.specs.declared.hardware.Space.TheVariants.{File as InFile}
use Rattle.net_model.specs.Nets.{memory_width, word_width, size_in}
use Rattle.net_model.specs.Patterns.{ArePatterns, Pattern}
use Rattle.net_model.specs.Exprs.{size_of}
use Rattle.net_model.specs.Widths.{WordFits}
use Rattle.net_model.proofs.WordWidths.{has_bits}
use Rattle.form_model.specs.Covers.{JobCoverModel, IsChosen, StockModel}
use Rattle.form_model.specs.declared.forms.Step.{Step}
use Rattle.compaction.specs.Laws.{operation_in}
use Rattle.form_model.specs.Live.{Regs, regs_of, singles}
use Rattle.form_model.specs.Forms.{FormModel}
use Rattle.form_set.specs.Listing.{AreForms}
use Rattle.emit_seq.specs.ReadWords.{AllReadWords}
use Rattle.src_trees.specs.Lowered.{JobModel}
use Rattle.src_trees.specs.Measures.{IsSmall}
use Rattle.word_fit.specs.Fits.{fits_over}
use Rattle.word_fit.specs.Groups.{AllHaveWords}
use Rattle.right_code.specs.Inner.Known.{AreKnown}
use Rattle.right_code.specs.Jobs.{HasOne, IsCovered, job_steps}
use Rattle.right_code.specs.Words.{AreGroupWords}
use Rattle.right_code.proofs.Covered.{covered_of}
use Rattle.right_code.proofs.Known.{known_of}
use Rattle.right_code.proofs.Listed.{all_read}
use Rattle.right_code.proofs.Worded.{block_words}
use Rattle.test_code.specs.Inner.Jobs.{IsCellJob}

-- a job of one tree is small
small : (bits temps : ℕ) (job : JobModel) (j : IsCellJob bits temps job) → IsSmall bits temps (size_of j.tree) job
small bits temps job j = subst (IsSmall bits temps (size_of j.tree)) (sym j.is) (record { destination = tt; trees = (j.plain, j.few, omega arith, tt) })

module _ (netlist : Netlist) (order : List ℕ) (keeps : KeepsRules netlist order) (patterns : List Pattern) (are : ArePatterns netlist patterns) (all : List FormModel) (reach : ℕ) (forms : AreForms netlist patterns all reach) where
  some : 0 < word_width netlist
  some = has_bits netlist order keeps

  known : AreKnown netlist patterns
  known = known_of netlist order keeps patterns are

  reads : AllReadWords (memory_width netlist.storages) all
  reads = all_read netlist order keeps some patterns known reach all forms.list

  module _ (temps file : ℕ) (job : JobModel) (choice : JobCoverModel) (j : IsCellJob (memory_width netlist.storages) temps job) where
    abbrev stock : StockModel
    stock = record { forms = all; temps = temps; file = file }

    pub job_covered : IsChosen stock job.destination job.trees choice → IsCovered stock job choice
    job_covered c = covered_of (memory_width netlist.storages) stock reads (size_of j.tree) job choice (small (memory_width netlist.storages) temps job j) c

    one : HasOne job.destination job.trees
    one = subst (λ (x : JobModel). HasOne x.destination x.trees) (sym j.is) (j.tree, refl)

    -- each step of the job has a word
    pub job_have : file ≡ size_in InFile netlist.storages → IsChosen stock job.destination job.trees choice → AllHaveWords (operation_in netlist patterns) (fits_over netlist (operation_in netlist patterns)) (singles (job_steps stock job choice)) (regs_of 0)
    job_have sized c =
        subst (λ (steps : List Step). AllHaveWords (operation_in netlist patterns) (fits_over netlist (operation_in netlist patterns)) (singles steps) (regs_of 0)) (append-nil (job_steps stock job choice))
        (block_words netlist order keeps some patterns known reach all forms.list stock sized (λ k form at. (k, at)) None tt (job ∷ []) (choice ∷ []) (regs_of 0) (job_covered c, one, tt)
        (λ r live. cc (live, bit_at-zero r)))

-- words of groups fit
module _ (netlist : Netlist) where
  each_fit : (words : List ℕ) → ((k : ℕ) → k < length words → WordFits netlist (slice_index words k)) → AllByRecursion (WordFits netlist) words
  each_fit [] h = tt
  each_fit (w ∷ words) h = (h 0 (omega arith), each_fit words (λ k lt. h (suc k) (omega (arith, lt))))

  pub words_fit : (patterns : List Pattern) (groups : List (List Step)) (after : Regs) (words : List ℕ) → AreGroupWords netlist patterns groups after words → AllByRecursion (WordFits netlist) words
  words_fit patterns groups after words least =
      each_fit words (λ k lt. (least.least k (get_or groups k []) (slice_get-get_or groups k [] (let n = least.long in omega (arith, lt, n)))).is.clean.fits)
