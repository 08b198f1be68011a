-- Sections that do their jobs one after the other do the jobs of the block.
use Rattle.std.proofs.Common.{ℕ, zero, suc, ◌≡◌, ◌+◌, List, [], ◌∷◌, ◌++◌, drop, refl, sym, ◌∙◌, ap, subst, arith}
use Rattle.net_model.specs.declared.hardware.Space.TheVariants.{Memory as InMemory}
use Rattle.net_model.specs.declared.hardware.Netlist.{Netlist}
use Rattle.net_model.specs.declared.states.State.{State}
use Rattle.code_model.specs.declared.image.Image.{Image}
use Rattle.code_model.specs.Machine.{IsAt}
use Rattle.src_trees.specs.Lowered.{JobModel}
use Rattle.src_trees.specs.Doing.{AllLie, all_done, done}
use Rattle.src_trees.proofs.Behind.{Alike, all_done_behind, all_lie_behind}
use Rattle.src_trees.proofs.Parts.{all_done_length}
use Rattle.branch_fix.specs.Made.{Walks, DoesBlock}
use Rattle.branch_fix.specs.Sections.{DoesIn, PutsMode, Section, section_room, DoesSection, section_jobs, sections_room, DoSections}
use Rattle.branch_fix.proofs.Walking.{walks_end}

all_done_both : (xs ys : List JobModel) (cells : List ℕ) → all_done (xs ++ ys) cells ≡ all_done ys (all_done xs cells)
all_done_both [] ys cells = refl
all_done_both (x ∷ xs) ys cells = all_done_both xs ys (done x cells)

all_lie_first : (at : ℕ) (xs ys : List JobModel) (cells : List ℕ) → AllLie at cells (xs ++ ys) → AllLie at cells xs
all_lie_first at [] ys cells h = tt
all_lie_first at (x ∷ xs) ys cells h = (h.0, all_lie_first at xs ys (done x cells) h.1)

all_lie_later : (at : ℕ) (xs ys : List JobModel) (cells : List ℕ) → AllLie at cells (xs ++ ys) → AllLie at (all_done xs cells) ys
all_lie_later at [] ys cells h = h
all_lie_later at (x ∷ xs) ys cells h = all_lie_later at xs ys (done x cells) h.1

module _ (netlist : Netlist) (image : Image) where
  -- one walk and another
  pub walks_on : (n m at M N : ℕ) (s t u : State) → M ≡ at + n → N ≡ n + m → Walks netlist image at s n t → Walks netlist image M t m u → Walks netlist image at s N u
  walks_on zero m at M N s t u e f w x =
      let p : M ≡ at = omega arith in
      let q : m ≡ N = omega arith in
      subst (λ (k : ℕ). Walks netlist image at s k u) q (subst (λ (k : ℕ). Walks netlist image k s m u) p (subst (λ (z : State). Walks netlist image M z m u) (sym w.0) x))
  walks_on (suc n) m at M zero s t u e f w x = absurd (omega arith)
  walks_on (suc n) m at M (suc N) s t u e f w x = (w.0, (w.1.0, w.1.1, walks_on n m (at + 1) M N w.1.0 t u (omega arith) (omega arith) w.1.2 x))

  module _ (temps : ℕ) where
    -- ---- one section

    -- an assignment between its mode words is one from mode 0 to mode 0
    alone_does : (v : ℕ) (jobs : List JobModel) (at n : ℕ) → PutsMode netlist image 0 v at → DoesIn netlist image temps v jobs (at + 1) n → PutsMode netlist image v 0 (at + 1 + n)
        → DoesIn netlist image temps 0 jobs at (n + 2)
    alone_does v jobs at n p d q = record {
      walks = λ s here mode lie.
          (let a = p.puts s here mode in
          let w = d.walks a.0 a.2 a.3 (subst (λ cells. AllLie temps cells jobs) (sym a.4) lie) in
          let there : IsAt netlist (at + 1 + n) w.0 = walks_end netlist image n (at + 1) (at + 1 + n) a.0 w.0 refl w.1 in
          let b = q.puts w.0 there w.2 in
          let last : Walks netlist image (at + 1 + n) w.0 1 b.0 = (there, (b.0, b.1, (refl, b.2))) in
          let both : Walks netlist image (at + 1) a.0 (n + 1) b.0 = walks_on n 1 (at + 1) (at + 1 + n) (n + 1) a.0 w.0 b.0 refl refl w.1 last in
          let all : Walks netlist image at s (suc (n + 1)) b.0 = (here, (a.0, a.1, both)) in
          let e : suc (n + 1) ≡ n + 2 = omega arith in
          (b.0, subst (λ (k : ℕ). Walks netlist image at s k b.0) e all, b.3, ap (drop temps) b.4 ∙ w.3 ∙ ap (λ cells. drop temps (all_done jobs cells)) a.4));
    }

    section_does : (v : ℕ) (jobs : List JobModel) (at n : ℕ) → DoesSection netlist image temps v jobs at n → DoesIn netlist image temps 0 jobs at (section_room v n)
    section_does zero jobs at n h = h
    section_does (suc v) jobs at n h = alone_does (suc v) jobs at n h.0 h.1 h.2

    -- ---- two of them

    both_do : (xs ys : List JobModel) (at n m : ℕ) → DoesIn netlist image temps 0 xs at n → DoesIn netlist image temps 0 ys (at + n) m → DoesIn netlist image temps 0 (xs ++ ys) at (n + m)
    both_do xs ys at n m d e = record {
      walks = λ s here mode lie.
          (let a = d.walks s here mode (all_lie_first temps xs ys s.cells lie) in
          let there : IsAt netlist (at + n) a.0 = walks_end netlist image n at (at + n) s a.0 refl a.1 in
          let l = all_done_length xs s.cells in
          let p = here.state.cells InMemory in
          let q = there.state.cells InMemory in
          let alike : Alike temps (all_done xs s.cells) a.0.cells = record { same = sym a.3; long = omega (arith, l, p, q) } in
          let later : AllLie temps (all_done xs s.cells) ys = all_lie_later temps xs ys s.cells lie in
          let b = e.walks a.0 there a.2 (all_lie_behind temps (all_done xs s.cells) a.0.cells ys alike later) in
          let is : Alike temps (all_done ys (all_done xs s.cells)) (all_done ys a.0.cells) = all_done_behind temps (all_done xs s.cells) a.0.cells ys alike later in
          (b.0, walks_on n m at (at + n) (n + m) s a.0 b.0 refl refl a.1 b.1, b.2, b.3 ∙ sym is.same ∙ ap (drop temps) (sym (all_done_both xs ys s.cells))));
    }

    -- ---- all of them

    all_do : (sections : List Section) (at : ℕ) → DoSections netlist image temps sections at → DoesIn netlist image temps 0 (section_jobs sections) at (sections_room sections)
    all_do [] at h = record { walks = λ s here mode lie. (s, (refl, here), mode, refl) }
    all_do (x ∷ sections) at h =
        both_do x.jobs (section_jobs sections) at (section_room x.mode x.words) (sections_room sections) (section_does x.mode x.jobs at x.words h.0) (all_do sections (at + section_room x.mode x.words) h.1)

    -- the words of a block's sections do its jobs
    pub sections_do : (sections : List Section) (at : ℕ) → DoSections netlist image temps sections at → DoesBlock netlist image temps (section_jobs sections) at (sections_room sections)
    sections_do sections at h =
        let d : DoesIn netlist image temps 0 (section_jobs sections) at (sections_room sections) = all_do sections at h in
        record { walks = λ s here lie. d.walks s here.here here.mode lie }
