-- The end mark is reached exactly when the source ends.
use Rattle.std.proofs.Common.{ℕ, zero, suc, ◌≡◌, ◌*◌, ◌||◌, Bool, true, false, List, [], ◌∷◌, length, take, refl, sym, ◌∙◌, ap}
use Rattle.net_model.specs.declared.hardware.Netlist.{Netlist}
use Rattle.net_model.specs.declared.states.State.{State}
use Rattle.src_model.specs.Trace.{strace}
use Rattle.src_model.specs.Ways.{Passed}
use Rattle.src_model.specs.Written.{ProgramModel}
use Rattle.code_model.specs.declared.image.Image.{Image}
use Rattle.code_model.specs.Places.{words_of}
use Rattle.code_model.specs.Machine.{TraceEntry, Shows, store_in, IsCalm}
use Rattle.code_model.specs.Right.{passed_of, ShowsSource, TracesRight}
use Rattle.checkpoint_watch.specs.Texts.{is_end}
use Rattle.checkpoint_watch.specs.Ends.{PassesEnd, ReachesEnd, has_passed_end}
use Rattle.checkpoint_watch.proofs.Fronts.{ShowsFirst, shows_first, strace_enough, strace_steady}

either : (a x y : Bool) → (x ≡ true → y ≡ true) → (a || x) ≡ true → (a || y) ≡ true
either true x y h e = refl
either false x y h e = h e

front_end : (k : ℕ) (ps : List Passed) → has_passed_end (take k ps) ≡ true → has_passed_end ps ≡ true
front_end zero ps e = absurd (let z : false ≡ true = e in cc)
front_end (suc k) [] e = e
front_end (suc k) (p ∷ ps) e = either (is_end p.label) (has_passed_end (take k ps)) (has_passed_end ps) (λ q. front_end k ps q) e

module _ (netlist : Netlist) (image : Image) (width : ℕ) (program : ProgramModel) (right : TracesRight netlist image (strace width program)) (s : State) (here : IsCalm netlist 0 s) where
  pub end_shown : PassesEnd (strace width program) (store_in image s) → ReachesEnd netlist image s
  end_shown passes =
      let h : ShowsSource netlist image (strace width program) s passes.count = right.shows s here passes.count in
      record {
        clocks = passes.count * length (words_of image);
        entries = h.entries;
        traced = h.traced;
        ended = front_end passes.count (passed_of h.entries) (ap has_passed_end h.passed ∙ passes.ended);
      }

  pub end_meant : ReachesEnd netlist image s → PassesEnd (strace width program) (store_in image s)
  end_meant reaches =
      let h : ShowsFirst netlist image (strace width program) s reaches.clocks = shows_first netlist image (strace width program) right (strace_steady width program) (strace_enough width program) s reaches.clocks here in
      let same : Shows reaches.entries ≡ Shows h.entries = sym reaches.traced ∙ h.traced in
      let f : reaches.entries ≡ h.entries = cc in
      record {
        count = length h.entries;
        ended = ap has_passed_end (sym h.passed) ∙ ap (λ (es : List TraceEntry). has_passed_end (passed_of es)) (sym f) ∙ reaches.ended;
      }
