-- An image all marks of which follow a program is right code for it, seen through its views, but for what
-- is hidden.
use Rattle.std.proofs.Common.{ℕ, ◌≡◌, ◌<◌, ◌^◌, List, [], Some, None, refl, sym, ◌∙◌, ap, subst, arith, slice_index}
use Rattle.net_model.specs.declared.hardware.Netlist.{Netlist}
use Rattle.net_model.specs.declared.hardware.Space.TheVariants.{Memory as InMemory}
use Rattle.net_model.specs.declared.states.State.{State}
use Rattle.net_model.specs.Nets.{memory_size, memory_width}
use Rattle.net_model.specs.Widths.{IsState}
use Rattle.net_model.specs.Clock.{counter_in}
use Rattle.src_model.specs.declared.checkpoint.Checkpoint.TheVariants.{End as TheEnd}
use Rattle.src_model.specs.Meaning.{FitsStore}
use Rattle.src_model.specs.Rules.{first_fault}
use Rattle.src_model.specs.Trace.{run_in, strace}
use Rattle.src_model.specs.Ways.{finish}
use Rattle.src_model.specs.Written.{ProgramModel, stmts_of}
use Rattle.src_model.proofs.WayLemmas.{finish_whole, finish_steady}
use Rattle.src_model.proofs.TraceLemmas.{in_whole, in_steady}
use Rattle.code_model.specs.declared.views.Viewed.{Viewed}
use Rattle.code_model.specs.Flow.{Goes, GoesTo}
use Rattle.code_model.specs.Inner.Flow.{FollowsBy, RestsBy}
use Rattle.code_model.specs.Machine.{label_in, IsRestful}
use Rattle.code_model.specs.Places.{label_at, cells_at}
use Rattle.code_model.specs.Right.{TracesBy}
use Rattle.code_model.specs.Views.{ArePlainViews, hidden_in, masked, masked_trace, shown_store, view_at}
use Rattle.code_model.proofs.Masking.{masked_steady, masked_way, masked_whole}
use Rattle.code_model.proofs.Traces.{traces_by}
use Rattle.code_model.proofs.Unviewed.{no_views, none_hidden}
use Rattle.src_trees.specs.Flows.{program_flow}
use Rattle.src_trees.specs.Held.{HasCellRoom, HoldsCells, HoldsVars}
use Rattle.src_trees.specs.Lowered.{MemoryMap}
use Rattle.src_trees.specs.Seen.{seen_store}
use Rattle.src_trees.proofs.Standing.{start_fits}
use Rattle.follow.specs.Checked.{PassesCheck}
use Rattle.follow.specs.Followed.{IsFollowed}
use Rattle.follow.specs.Relations.{Relation}
use Rattle.follow.specs.RightByViews.{HasMarksOf, IsRightByViews, image_memory}
use Rattle.follow.proofs.Crossing.{shown}
use Rattle.follow.proofs.Passing.{program_passes}
use Rattle.follow.proofs.Showing.{none_at_start, none_at_end, stays_shown}

-- at the end a clock leads to the end
end_rests : (netlist : Netlist) (viewed : Viewed) (last : ℕ) → GoesTo netlist viewed.image last last → label_at viewed.image.marks last ≡ Some TheEnd → ((a : ℕ) → label_at viewed.image.marks a ≡ Some TheEnd → a ≡ last)
    → ((name : List ℕ) → view_at viewed.views last name ≡ None) → (s : State) → IsRestful netlist s → label_in netlist viewed.image s ≡ Some TheEnd → RestsBy (shown_store netlist viewed) netlist viewed.image (IsRestful netlist) s
end_rests netlist viewed last word label only none s h e =
    let here : counter_in netlist s ≡ last = only (counter_in netlist s) e in
    let g : Goes netlist viewed.image last s = word.goes s (record { here = record { state = h.state; counter = here }; mode = h.mode }) in
    record {
      next = g.next;
      clocked = g.clocked;
      label = ap (label_at viewed.image.marks) g.here.here.counter ∙ label;
      holds = record { state = g.here.here.state; mode = g.here.mode };
      same = stays_shown netlist viewed last s g.next none here g.here.here.counter g.same;
    }

module _ (netlist : Netlist) (viewed : Viewed) (relation : ℕ → Relation) (m : MemoryMap) (temps : ℕ) (l : ProgramModel) (kept : first_fault m.word l ≡ None) (wide : memory_width netlist.storages ≡ m.word) (held : HoldsVars temps l.vars m)
    (room : HasCellRoom temps m (memory_size netlist.storages)) (places : viewed.image.places ≡ m.places) (plain : ArePlainViews netlist viewed.image viewed.views) (first : hidden_in viewed 0 ≡ []) (marks : HasMarksOf (program_flow l) viewed.image)
    (f : IsFollowed netlist viewed relation m temps l) where
  held_in : (s : State) → IsState netlist s → HoldsCells temps m s.cells
  held_in s h = record {
    room = subst (HasCellRoom temps m) (sym (h.cells InMemory)) room;
    words = λ k. subst (λ w. slice_index s.cells k < 2 ^ w) wide (h.fits.cells InMemory k);
  }

  end_label : label_at viewed.image.marks f.last ≡ Some TheEnd
  end_label = marks.end f.last (sym f.long)

  end_only : (a : ℕ) → label_at viewed.image.marks a ≡ Some TheEnd → a ≡ f.last
  end_only a e = let b = marks.end_only a e in let c = f.long in omega (arith, b, c)

  followed_traces : TracesBy (shown_store netlist viewed) netlist viewed.image (masked_trace viewed (strace m.word l))
  followed_traces =
      traces_by (shown_store netlist viewed) netlist viewed.image (masked_way viewed (run_in m.word l.vars (stmts_of l.body) 0 finish)) f.last f.long
      (λ j. masked_whole viewed j (run_in m.word l.vars (stmts_of l.body) 0 finish) (in_whole m.word l.vars (stmts_of l.body) 0 j finish (finish_whole j)))
      (λ j. masked_steady viewed j (run_in m.word l.vars (stmts_of l.body) 0 finish) (in_steady m.word l.vars (stmts_of l.body) 0 j finish (finish_steady j)))
      (λ s h e. end_rests netlist viewed f.last f.end_word end_label end_only (none_at_end netlist viewed f.last end_label plain) s h e)
      (λ s here k.
      let store : shown_store netlist viewed s ≡ seen_store m s.cells =
      none_hidden netlist viewed 0 s first here.here.counter ∙ no_views netlist viewed 0 s (none_at_start netlist viewed plain) here.here.counter ∙ ap (λ ps. cells_at ps s.cells) places in
      let holds : HoldsCells temps m s.cells = held_in s here.here.state in
      let fits : FitsStore m.word l.vars (seen_store m s.cells) = subst (λ ps. FitsStore m.word l.vars (cells_at ps s.cells)) places (start_fits netlist viewed.image m temps l.vars s wide held room places here.here.state) in
      subst (λ cells. FollowsBy (shown_store netlist viewed) netlist viewed.image (IsRestful netlist) f.last f.last s (masked viewed (run_in m.word l.vars (stmts_of l.body) 0 finish k cells))) (sym store)
      (shown netlist viewed relation m temps l room places f (run_in m.word l.vars (stmts_of l.body) 0 finish k (seen_store m s.cells)) 0 s.cells s
      (program_passes m temps l kept held k s.cells holds fits)
      (λ n path is safe asks. f.start n path is s here safe asks)))

pub followed_right : (netlist : Netlist) (width : ℕ) (l : ProgramModel) (viewed : Viewed) (relation : ℕ → Relation) → PassesCheck netlist width l viewed relation → IsRightByViews netlist width l viewed
followed_right netlist width l viewed relation c = record {
  laid = c.laid;
  views = c.views;
  start = c.start;
  marks = c.marks;
  traces = followed_traces netlist viewed relation (image_memory netlist width viewed.image) viewed.image.temps l c.program c.words c.laid.held c.laid.room refl c.views c.start c.marks c.followed;
}
