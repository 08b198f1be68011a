-- The places and the image of a program in parts.
use Rattle.std.proofs.Common.{ℕ, ◌≡◌, ◌≤◌, ◌+◌, ◌^◌, ◌∙◌, Bool, List, [], ◌∷◌, length, None, ap, sym, subst, arith}
use Rattle.std.specs.List.{AllByRecursion}
use Rattle.text_lines.specs.Fields.{is_name}
use Rattle.net_model.specs.declared.hardware.Netlist.{Netlist}
use Rattle.net_model.specs.ModeRules.{KeepsInOrder, KeepsModes, Moded}
use Rattle.net_model.specs.Nets.{memory_width}
use Rattle.net_model.proofs.ModeFaults.{modes_keep}
use Rattle.src_model.specs.declared.program.Var.{Var as Declared}
use Rattle.src_model.specs.declared.typed.Typed.{Typed}
use Rattle.src_model.specs.Rules.{first_fault, temp_count}
use Rattle.src_model.specs.Trace.{strace}
use Rattle.src_model.specs.Written.{model_of_program}
use Rattle.src_front.specs.Fronts.{AreNamed}
use Rattle.code_model.specs.declared.image.Image.{Image}
use Rattle.code_model.specs.declared.image.Place.{Place as VariablePlace}
use Rattle.code_model.specs.declared.image.Places.{Places}
use Rattle.code_model.specs.declared.limits.Limits.{Limits}
use Rattle.code_model.specs.ImageFits.{IsFitting, PlaceFits, limits_of}
use Rattle.code_model.specs.ImageLines.{IsImageText}
use Rattle.code_model.specs.Places.{words_of}
use Rattle.code_model.specs.Right.{TracesRight}
use Rattle.binding.specs.declared.fault.BindFault.{BindFault}
use Rattle.form_model.specs.declared.flow.Blocks.{Blocks}
use Rattle.form_model.specs.declared.flow.Flow.{Flow}
use Rattle.src_trees.specs.Flows.{program_flow}
use Rattle.src_trees.specs.Held.{HoldsVars, LieWithin, StandFor}
use Rattle.src_trees.specs.Jobs.{models_of_jobs}
use Rattle.branch_fix.specs.Marked.{AreMarked}
use Rattle.bank_view.specs.Banks.{bank_port}
use Rattle.bank_view.specs.Views.{view_of}
use Rattle.bank_view.proofs.Ruled.{view_kept}
use Rattle.right_code.specs.Images.{IsMadeFor, IsRightImage}
use Rattle.right_code.specs.Tasks.{IsChecked, Task}
use Rattle.code_gen.specs.Refusals.{IsCodeFault, IsReached}
use Rattle.code_gen.specs.Tasks.{coded_task}
use Rattle.code_gen.specs.declared.fault.CodeFault.{CodeFault}
use Rattle.compile_command.specs.Inner.Faults.{bind_fault, code_fault}
use Rattle.compile_command.proofs.FittingLemmas.{few_data_cells}
use Rattle.dual_bank.specs.Banked.{jobs_of_banked, joined_memory}
use Rattle.dual_bank.specs.Layouts.{FitsBanks, IsBankFault, bank_cells, bank_layout, memory_need}
use Rattle.dual_bank.proofs.Held.{bank_held, bank_room}
use Rattle.dual_command.specs.Code.{IsDualCode, IsDualTaskFault, IsRightDualFor}
use Rattle.dual_command.specs.RightDual.{DualTask, HasBothRoom, dual_task}
use Rattle.dual_command.specs.Inner.Sizes.{ShowsSizes}
use Rattle.dual_command.specs.Inner.Viewed.{HasSeen, IsSeen, task_of, view_bank, view_bits}
use Rattle.dual_command.proofs.Checked.{dual_is_seen, seen_checked, seen_is_coded, seen_keeps, shown_bank, shown_bits, sizes_seen}
use Rattle.dual_command.proofs.DualLemmas.{fault_of_banks, fault_of_dual}
use Rattle.dual_command.proofs.Fitting.{same_limits, some_words, words_fit}
use Rattle.dual_command.proofs.Traces.{traces_right}

-- what lies below an address lies below a greater one
lie_more : (first end more : ℕ) (places : List VariablePlace) → end ≤ more → LieWithin first end places → LieWithin first more places
lie_more first end more [] le h = tt
lie_more first end more (p ∷ places) le h = (h.0, omega (arith, h.1, le), lie_more first end more places le h.2)

-- places of named variables fit an image's text
places_named : (first end : ℕ) (places : List VariablePlace) (vars : List Declared) → end ≤ 65536 → AreNamed vars → StandFor places vars → LieWithin first end places → AllByRecursion PlaceFits places
places_named first end [] vars few named stand within = tt
places_named first end (p ∷ places) [] few named stand within = absurd stand
places_named first end (p ∷ places) (v ∷ vars) few named stand within = (
  record { name = ap is_name stand.0 ∙ named.0; address = omega (arith, within.1, few); len = omega (arith, within.1, few) },
  places_named first end places vars few named.1 stand.2 within.2,
)

module _ (moded : Moded) (typed : Typed) (in_bank : List Bool) (seen : HasSeen moded) (width : typed.width ≡ memory_width moded.netlist.storages)
    (flags : length in_bank ≡ length typed.program.vars)
    (memory : memory_need typed.width in_bank (model_of_program typed.program) ≤ 2 ^ view_bits moded.netlist)
    (enough : bank_cells in_bank typed.program.vars ≤ view_bank moded.netlist) where
  fits_banks : FitsBanks typed.width (view_bits moded.netlist) (view_bank moded.netlist) in_bank (model_of_program typed.program)
  fits_banks =
      let sizes : ShowsSizes moded.netlist = sizes_seen moded seen in
      let word = sizes.word in
      record { some = sizes.some; wide = omega (arith, word, width); flags = flags; memory = memory; enough = enough; least = sizes.least }

  modes_kept : KeepsModes moded.netlist
  modes_kept = modes_keep moded.netlist moded.bases seen.is.is.rules

  few_cells : 2 ^ view_bits moded.netlist + view_bank moded.netlist ≤ 65536
  few_cells =
      let size = (sizes_seen moded seen).size in
      omega (arith, size, few_data_cells moded.netlist modes_kept)

  module _ (places : Places) (placed : places ≡ bank_layout typed.width (view_bits moded.netlist) in_bank (model_of_program typed.program)) where
    pub places_held : HoldsVars places.temps (model_of_program typed.program).vars (joined_memory typed.width (view_bits moded.netlist) places.list)
    places_held =
        subst (λ (p : Places). HoldsVars p.temps (model_of_program typed.program).vars (joined_memory typed.width (view_bits moded.netlist) p.list)) (sym placed)
        (bank_held typed.width (view_bits moded.netlist) (view_bank moded.netlist) in_bank (model_of_program typed.program) fits_banks)

    pub places_few : LieWithin places.temps (2 ^ 32) places.list
    places_few =
        let room = bank_room typed.width (view_bits moded.netlist) (view_bank moded.netlist) in_bank (model_of_program typed.program) fits_banks in
        subst (λ (p : Places). LieWithin p.temps (2 ^ 32) p.list) (sym placed)
        (lie_more (temp_count typed.width (model_of_program typed.program)) (2 ^ view_bits moded.netlist + view_bank moded.netlist) (2 ^ 32)
        (bank_layout typed.width (view_bits moded.netlist) in_bank (model_of_program typed.program)).list (omega (arith, few_cells)) room.within)

    pub places_fit : AreNamed typed.program.vars → AllByRecursion PlaceFits places.list
    places_fit named =
        let held = bank_held typed.width (view_bits moded.netlist) (view_bank moded.netlist) in_bank (model_of_program typed.program) fits_banks in
        let room = bank_room typed.width (view_bits moded.netlist) (view_bank moded.netlist) in_bank (model_of_program typed.program) fits_banks in
        subst (λ (p : Places). AllByRecursion PlaceFits p.list) (sym placed)
        (places_named (temp_count typed.width (model_of_program typed.program)) (2 ^ view_bits moded.netlist + view_bank moded.netlist)
        (bank_layout typed.width (view_bits moded.netlist) in_bank (model_of_program typed.program)).list typed.program.vars few_cells named held.stand room.within)

    module _ (blocks : Blocks) (flow : blocks.flow ≡ program_flow (model_of_program typed.program)) (jobs : models_of_jobs blocks.jobs.items ≡ jobs_of_banked (view_bits moded.netlist) (joined_memory typed.width (view_bits moded.netlist) places.list) (model_of_program typed.program)) where
      pub coded_checked : first_fault typed.width (model_of_program typed.program) ≡ None → IsChecked (coded_task moded.netlist typed places.list blocks)
      coded_checked kept =
          subst IsChecked (seen_is_coded moded.netlist typed in_bank places blocks placed flow jobs)
          (seen_checked moded.netlist typed in_bank (sizes_seen moded seen) fits_banks kept modes_kept (sym width))

      module _ (n : Netlist) (is : IsSeen n moded) where
        own_task : dual_task (task_of n typed in_bank) ≡ coded_task moded.netlist typed places.list blocks
        own_task = dual_is_seen n moded is typed in_bank ∙ seen_is_coded moded.netlist typed in_bank places blocks placed flow jobs

        both_room : HasBothRoom (task_of n typed in_bank)
        both_room = record {
          memory = subst (λ (k : ℕ). memory_need typed.width in_bank (model_of_program typed.program) ≤ 2 ^ k) (shown_bits n moded is) memory;
          bank = subst (λ (size : ℕ). bank_cells in_bank typed.program.vars ≤ size) (shown_bank n moded is) enough;
        }

        view_limits : limits_of moded.netlist ≡ limits_of n
        view_limits = ap limits_of is.is.view ∙ same_limits n

        pub image_right : (image : Image) → IsRightImage (coded_task moded.netlist typed places.list blocks) image → IsReached (coded_task moded.netlist typed places.list blocks)
            → IsFitting (limits_of moded.netlist) image → IsRightDualFor image (task_of n typed in_bank)
        image_right image right reached fits =
            let kept : KeepsInOrder (view_of n) = view_kept n is.is.rest.order (seen_keeps n moded is) in
            let view_fits : IsFitting (limits_of (view_of n)) image = subst (λ (x : Netlist). IsFitting (limits_of x) image) is.is.view fits in
            let trace : TracesRight (view_of n) image (strace typed.width (model_of_program typed.program)) =
            subst (λ (x : Netlist). TracesRight x image (strace typed.width (model_of_program typed.program))) is.is.view right.traces in
            record {
              room = both_room;
              reached = subst IsReached (sym own_task) reached;
              right = record {
                made = subst (λ (task : Task). IsMadeFor task image) (sym own_task) right.made;
                traces = traces_right n is.is.rest.order (seen_keeps n moded is) kept.order kept.rules.ordered image
                    (words_fit (view_of n) image kept.rules.roles.code view_fits) (strace typed.width (model_of_program typed.program)) trace
                    (some_words (model_of_program typed.program) _ image.marks (subst (λ (list : List Flow). AreMarked list (length (words_of image)) image.marks) flow right.made.marked));
              };
              fits = subst (λ (limits : Limits). IsFitting limits image) view_limits fits;
            }

        pub image_refused : (fault : CodeFault) → IsCodeFault (coded_task moded.netlist typed places.list blocks) fault → IsDualTaskFault (task_of n typed in_bank) (code_fault fault)
        image_refused fault h =
            fault_of_dual (task_of n typed in_bank) both_room fault (subst (λ (task : Task). IsCodeFault task fault) (sym own_task) h)

-- why there are no places
pub places_refused : (moded : Moded) (typed : Typed) (in_bank : List Bool) (n : Netlist) → IsSeen n moded → (fault : BindFault)
    → IsBankFault (memory_need typed.width in_bank (model_of_program typed.program)) (2 ^ view_bits moded.netlist) (bank_cells in_bank typed.program.vars) (view_bank moded.netlist) fault
    → IsDualTaskFault (task_of n typed in_bank) (bind_fault fault)
places_refused moded typed in_bank n is fault h =
    fault_of_banks (task_of n typed in_bank) fault
    (subst (λ (k : ℕ). IsBankFault (memory_need typed.width in_bank (model_of_program typed.program)) (2 ^ k) (bank_cells in_bank typed.program.vars) (bank_port n).size fault) (shown_bits n moded is)
    (subst (λ (size : ℕ). IsBankFault (memory_need typed.width in_bank (model_of_program typed.program)) (2 ^ view_bits moded.netlist) (bank_cells in_bank typed.program.vars) size fault) (shown_bank n moded is) h))

-- a text that is read as the view's image is read as the netlist's
pub text_read : (moded : Moded) (n : Netlist) → IsSeen n moded → (image : Image) (out : List ℕ) (task : DualTask) → task.netlist ≡ n → IsRightDualFor image task → IsImageText (limits_of moded.netlist) out image → IsDualCode out task
text_read moded n is image out task same right read = record {
  image = image;
  right = right;
  read = subst (λ (limits : Limits). IsImageText limits out image) (ap limits_of is.is.view ∙ same_limits n ∙ ap limits_of (sym same)) read;
}
