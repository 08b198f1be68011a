-- The code of the first jobs of a self-test, and of one job more.
use Rattle.std.proofs.Common.{◌≡◌, ℕ, ◌+◌, List, [], ◌∷◌, ◌++◌, Option, Some, None, length, refl, sym, ap, subst, ◌∙◌, append_assoc, arith}
use Rattle.std.specs.List.{AllByRecursion}
use Rattle.rec_bits.specs.Counts.{capped}
use Rattle.rec_bits.proofs.Lists.{all_append}
use Rattle.net_model.specs.declared.hardware.Netlist.{Netlist}
use Rattle.net_model.specs.Patterns.{Pattern}
use Rattle.net_model.specs.Widths.{WordFits}
use Rattle.form_model.specs.Covers.{JobCoverModel, StockModel}
use Rattle.src_trees.specs.Lowered.{JobModel}
use Rattle.code_gen.specs.Trials.{IsTried}
use Rattle.test_code.specs.declared.code.TestCode.{TestCode}
use Rattle.test_code.specs.Codes.{IsCodeOf}
use Rattle.test_code.specs.Inner.Adding.{HasAdded}
use Rattle.test_code.specs.Tried.{AreTried, AreWordsOf, cost_sum, skipped_count, tested_count}

-- ---- counts

tested_more : (tried : List (Option JobCoverModel)) (choice : Option JobCoverModel) → tested_count (tried ++ choice ∷ []) ≡ tested_count tried + tested_count (choice ∷ [])
tested_more [] choice = omega arith
tested_more (None ∷ tried) choice = tested_more tried choice
tested_more (Some first ∷ tried) choice = let h = tested_more tried choice in omega (arith, h)

skipped_more : (tried : List (Option JobCoverModel)) (choice : Option JobCoverModel) → skipped_count (tried ++ choice ∷ []) ≡ skipped_count tried + skipped_count (choice ∷ [])
skipped_more [] choice = omega arith
skipped_more (None ∷ tried) choice = let h = skipped_more tried choice in omega (arith, h)
skipped_more (Some first ∷ tried) choice = skipped_more tried choice

capped_more : (x y : ℕ) → capped (capped x + y) ≡ capped (x + y)
capped_more x y = grind (arith)

module _ (stock : StockModel) where
  cost_more : (jobs : List JobModel) (tried : List (Option JobCoverModel)) (job : JobModel) (choice : Option JobCoverModel) → AreTried stock jobs tried → cost_sum (jobs ++ job ∷ []) (tried ++ choice ∷ []) ≡ cost_sum jobs tried + cost_sum (job ∷ []) (choice ∷ [])
  cost_more [] [] job choice t = omega arith
  cost_more [] (c ∷ tried) job choice t = absurd t
  cost_more (w ∷ jobs) [] job choice t = absurd t
  cost_more (w ∷ jobs) (None ∷ tried) job choice t = cost_more jobs tried job choice t.1
  cost_more (w ∷ jobs) (Some c ∷ tried) job choice t = let h = cost_more jobs tried job choice t.1 in omega (arith, h)

  tried_more : (jobs : List JobModel) (tried : List (Option JobCoverModel)) (job : JobModel) (choice : Option JobCoverModel) → AreTried stock jobs tried → IsTried stock job choice → AreTried stock (jobs ++ job ∷ []) (tried ++ choice ∷ [])
  tried_more [] [] job choice t is = (is, tt)
  tried_more [] (c ∷ tried) job choice t is = absurd t
  tried_more (w ∷ jobs) [] job choice t is = absurd t
  tried_more (w ∷ jobs) (c ∷ tried) job choice t is = (t.0, tried_more jobs tried job choice t.1 is)

  -- each job is tested or skipped
  counted : (jobs : List JobModel) (tried : List (Option JobCoverModel)) → AreTried stock jobs tried → tested_count tried + skipped_count tried ≡ length jobs
  counted [] [] t = refl
  counted [] (c ∷ tried) t = absurd t
  counted (w ∷ jobs) [] t = absurd t
  counted (w ∷ jobs) (None ∷ tried) t = let h = counted jobs tried t.1 in omega (arith, h)
  counted (w ∷ jobs) (Some c ∷ tried) t = let h = counted jobs tried t.1 in omega (arith, h)

-- ---- words

module _ (netlist : Netlist) (patterns : List Pattern) (stock : StockModel) where
  words_more : (jobs : List JobModel) (tried : List (Option JobCoverModel)) (words : List ℕ) (job : JobModel) (choice : Option JobCoverModel) (added : List ℕ) → AreTried stock jobs tried → AreWordsOf netlist patterns stock jobs tried words
      → AreWordsOf netlist patterns stock (job ∷ []) (choice ∷ []) added → AreWordsOf netlist patterns stock (jobs ++ job ∷ []) (tried ++ choice ∷ []) (words ++ added)
  words_more [] [] words job choice added t h one = subst (λ (front : List ℕ). AreWordsOf netlist patterns stock (job ∷ []) (choice ∷ []) (front ++ added)) (sym h) one
  words_more [] (c ∷ tried) words job choice added t h one = absurd t
  words_more (w ∷ jobs) [] words job choice added t h one = absurd t
  words_more (w ∷ jobs) (None ∷ tried) words job choice added t h one = words_more jobs tried words job choice added t.1 h one
  words_more (w ∷ jobs) (Some c ∷ tried) words job choice added t h one = (
    h.0,
    h.1 ++ added,
    h.2,
    words_more jobs tried h.1 job choice added t.1 h.3 one,
    ap (λ (all : List ℕ). all ++ added) h.4 ∙ append_assoc h.0 h.1 added,
  )

  -- a job that has no cover adds no words
  pub none_added : (job : JobModel) → AreWordsOf netlist patterns stock (job ∷ []) (None ∷ []) []
  none_added job = refl

  pub nothing_coded : (code : TestCode) → code.tested ≡ 0 → code.skipped ≡ 0 → code.cost ≡ 0 → code.words.items ≡ [] → IsCodeOf netlist patterns stock [] code
  nothing_coded code tested skipped cost words = record {
    tried = [];
    trials = tt;
    tested = tested;
    skipped = skipped;
    cost = cost;
    words = words;
    fit = subst (AllByRecursion (WordFits netlist)) (sym words) tt;
  }

  pub code_more : (jobs : List JobModel) (job : JobModel) (old new : TestCode) → IsCodeOf netlist patterns stock jobs old → HasAdded netlist patterns stock job old new → IsCodeOf netlist patterns stock (jobs ++ job ∷ []) new
  code_more jobs job old new h a = record {
    tried = h.tried ++ a.choice ∷ [];
    trials = tried_more stock jobs h.tried job a.choice h.trials a.trial;
    tested = let m = tested_more h.tried a.choice in let x = h.tested in let y = a.tested in omega (arith, m, x, y);
    skipped = let m = skipped_more h.tried a.choice in let x = h.skipped in let y = a.skipped in omega (arith, m, x, y);
    cost =
        a.cost
        ∙ ap (λ c. capped (c + cost_sum (job ∷ []) (a.choice ∷ []))) h.cost
        ∙ capped_more (cost_sum jobs h.tried) (cost_sum (job ∷ []) (a.choice ∷ []))
        ∙ ap capped (sym (cost_more stock jobs h.tried job a.choice h.trials));
    words =
        subst (AreWordsOf netlist patterns stock (jobs ++ job ∷ []) (h.tried ++ a.choice ∷ [])) (sym a.are)
        (words_more jobs h.tried old.words.items job a.choice a.added h.trials h.words a.words);
    fit = subst (AllByRecursion (WordFits netlist)) (sym a.are) (all_append (WordFits netlist) old.words.items a.added h.fit a.fit);
  }

  -- so many jobs are tested or skipped
  pub code_count : (jobs : List JobModel) (code : TestCode) → IsCodeOf netlist patterns stock jobs code → code.tested + code.skipped ≡ length jobs
  code_count jobs code h = let n = counted stock jobs h.tried h.trials in let x = h.tested in let y = h.skipped in omega (arith, n, x, y)
