-- Two texts say one task, and it is that of what was read.
use Rattle.std.proofs.Common.{◌≡◌, ℕ, List, ap, refl, sym, ◌∙◌, subst, arith}
use Rattle.net_model.specs.declared.hardware.Netlist.{Netlist}
use Rattle.net_model.specs.ModeRules.{Moded}
use Rattle.net_model.specs.Nets.{memory_size, memory_width}
use Rattle.net_front.specs.Fronts.{taken_of}
use Rattle.isa_extract.specs.Taken.{IsTakenModes}
use Rattle.isa_extract.proofs.RoutedTaken.{file_of_modes}
use Rattle.src_model.specs.declared.fault.SrcFault.{SrcFault}
use Rattle.src_model.specs.declared.typed.Typed.{Typed}
use Rattle.src_model.specs.Written.{ProgramModel, model_of_program}
use Rattle.src_front.specs.Fronts.{IsSrcFile, BreaksSrcRule}
use Rattle.src_front.proofs.FrontLaws.{no_broken_rule, one_broken_rule}
use Rattle.code_model.specs.Layout.{need_of}
use Rattle.binding.specs.Refusals.{IsBindFault}
use Rattle.binding.specs.declared.fault.BindFault.{BindFault}
use Rattle.binding.specs.declared.fault.BindFault.TheVariants.{DataFull as NoRoom, Memory as BindMemory}
use Rattle.right_code.specs.Covered.{HasBareTree}
use Rattle.right_code.specs.Tasks.{Task, Property, read_task, row_task}
use Rattle.right_code.proofs.Bare.{no_bare, one_bare}
use Rattle.right_code.proofs.OneBound.{bound_one}
use Rattle.code_gen.specs.Refusals.{HasSteps, HasJumps, IsBeyondReach, IsCodeFault, IsCoverable, IsJumpless, IsReached, IsStepless, IsImageTooLong}
use Rattle.code_gen.specs.declared.fault.CodeFault.{CodeFault}
use Rattle.code_gen.specs.declared.fault.CodeFault.TheVariants.{NoStep as Stepless, NoJump as Jumpless, NoCover as Uncovered, NoReach as Beyond, ImageFull as Overlong, Memory as CodeMemory}
use Rattle.compile_command.specs.Code.{IsDataFull, IsCode, IsPlaceFault, IsTaskFault, IsWithin, HasRoom, FailsWith}
use Rattle.compile_command.specs.Compiled.{HasNet, IsCompiled, BreaksSrc, IsCompileFault, IsReadFault, IsSrcFault}
use Rattle.compile_command.specs.Tasks.{IsTask, TaskHolds, compiled_edition, data_width}
use Rattle.compile_command.specs.Inner.Faults.{bind_fault, code_fault}
use Rattle.compile_command.specs.declared.fault.CompileFault.{CompileFault}
use Rattle.compile_command.specs.declared.fault.CompileFault.TheVariants.{NetText, Net, SrcText, Src, DataFull, NoStep, NoJump, NoCover, NoReach, ImageFull, Memory}

-- tasks with the same parts are one
pub same_parts : (task other : Task) → task.netlist ≡ other.netlist → task.width ≡ other.width → task.program ≡ other.program → task.places ≡ other.places → task.flow ≡ other.flow → task.jobs ≡ other.jobs → task ≡ other
same_parts task other netlist width program places flow jobs =
    (λ i. record { netlist = netlist i; width = width i; program = program i; places = places i; flow = flow i; jobs = jobs i })

-- why there is no image of a task that has room
pub fault_of_image : (task : Task) → HasRoom task → (fault : CodeFault) → IsCodeFault task fault → IsTaskFault task (code_fault fault)
fault_of_image task room Stepless h = (room, h)
fault_of_image task room Jumpless h = (room, h)
fault_of_image task room (Uncovered number) h = (room, h)
fault_of_image task room (Beyond bound reach) h = (room, h)
fault_of_image task room (Overlong len size bound) h = (room, h)
fault_of_image task room CodeMemory h = tt

-- why its program has no places in as many cells as its memory has
pub place_fault : (task : Task) (words : ℕ) → words ≡ memory_size task.netlist.storages → (fault : BindFault) → IsBindFault (need_of task.width task.program) words fault → IsPlaceFault task (bind_fault fault)
place_fault task words same (NoRoom need have) h = record { needs = h.0; has = h.1 ∙ same; more = omega (arith, h.0, h.1, h.2) }
place_fault task words same BindMemory h = tt

-- why it has no places, in whatever way that is told
pub fault_of_places : (task : Task) (Tells : CompileFault → Type 0) → ((need have : ℕ) → IsDataFull need have task → Tells (DataFull need have)) → Tells Memory
    → (fault : CompileFault) → IsPlaceFault task fault → Tells fault
fault_of_places task Tells full memory (NetText at) h = absurd h
fault_of_places task Tells full memory (Net fault) h = absurd h
fault_of_places task Tells full memory (SrcText at) h = absurd h
fault_of_places task Tells full memory (Src fault) h = absurd h
fault_of_places task Tells full memory (DataFull need have) h = full need have h
fault_of_places task Tells full memory NoStep h = absurd h
fault_of_places task Tells full memory NoJump h = absurd h
fault_of_places task Tells full memory (NoCover number) h = absurd h
fault_of_places task Tells full memory (NoReach bound reach) h = absurd h
fault_of_places task Tells full memory (ImageFull len size bound) h = absurd h
fault_of_places task Tells full memory Memory h = memory

-- why the program's bytes were not taken for a netlist that was read
pub fault_of_program : (net src : List ℕ) (modes : Moded) (width : ℕ) → IsTakenModes compiled_edition net modes → width ≡ memory_width modes.netlist.storages → (fault : CompileFault) →
    IsSrcFault src width fault → IsReadFault net src fault
fault_of_program net src modes width read wide (NetText at) h = absurd h
fault_of_program net src modes width read wide (Net fault) h = absurd h
fault_of_program net src modes width read wide (SrcText at) h = (record { entries = read.routed.entries; file = file_of_modes compiled_edition net modes read }, h)
fault_of_program net src modes width read wide (Src fault) h = record {
  entries = read.routed.entries;
  net_file = file_of_modes compiled_edition net modes read;
  breaks = subst (λ (n : ℕ). BreaksSrcRule src n fault) (wide ∙ ap (λ (n : Netlist). memory_width n.storages) read.routed.netlist.netlist) h;
}
fault_of_program net src modes width read wide (DataFull need have) h = absurd h
fault_of_program net src modes width read wide NoStep h = absurd h
fault_of_program net src modes width read wide NoJump h = absurd h
fault_of_program net src modes width read wide (NoCover number) h = absurd h
fault_of_program net src modes width read wide (NoReach bound reach) h = absurd h
fault_of_program net src modes width read wide (ImageFull len size bound) h = absurd h
fault_of_program net src modes width read wide Memory h = tt

-- what is not taken isn't compiled
pub read_refused : (net src : List ℕ) (fault : CompileFault) → IsReadFault net src fault → IsCompileFault net src fault
read_refused net src (NetText at) h = h
read_refused net src (Net fault) h = h
read_refused net src (SrcText at) h = h
read_refused net src (Src fault) h = h
read_refused net src (DataFull need have) h = absurd h
read_refused net src NoStep h = absurd h
read_refused net src NoJump h = absurd h
read_refused net src (NoCover number) h = absurd h
read_refused net src (NoReach bound reach) h = absurd h
read_refused net src (ImageFull len size bound) h = absurd h
read_refused net src Memory h = tt

-- ---- two texts say one task

same_task : (n m : Netlist) (w v : ℕ) (l k : ProgramModel) → n ≡ m → w ≡ v → l ≡ k → row_task n w l ≡ row_task m v k
same_task n m w v l k e f g =
    ap (λ (x : Netlist). row_task x w l) e ∙ ap (λ (x : ℕ). row_task m x l) f ∙ ap (λ (x : ProgramModel). row_task m v x) g

module _ (net src : List ℕ) where
  one_task : (a b : Task) → IsTask net src a → IsTask net src b → a ≡ b
  one_task a b p q =
      let e : p.entries ≡ q.entries = p.net_file.file.file.says.only q.entries q.net_file.file.file.says.text in
      p.row
      ∙ same_task a.netlist b.netlist a.width b.width a.program b.program (p.netlist ∙ (ap taken_of e ∙ sym q.netlist)) (p.width ∙ (ap data_width e ∙ sym q.width))
      (p.src_file.says.only b.program q.src_file.says.text)
      ∙ sym q.row

  -- what holds of it, and what else does, holds of the same task
  pub together : (P Q : Property) (G : Type 0) → ((task : Task) → P task → Q task → G) → TaskHolds net src P → TaskHolds net src Q → G
  together P Q G f a b = f a.task a.holds (subst Q (one_task b.task a.task b.is a.is) b.holds)

  pub has_net : (P : Property) → TaskHolds net src P → HasNet net
  has_net P h = record { entries = h.is.entries; file = h.is.net_file }

  -- a program breaks one rule first, and none where it keeps them
  pub one_broken : (fault later : SrcFault) → BreaksSrc net src fault → BreaksSrc net src later → fault ≡ later
  one_broken fault later a b =
      one_broken_rule src (data_width a.entries) fault later a.breaks
      (subst (λ e. BreaksSrcRule src (data_width e) later) (b.net_file.file.file.says.only a.entries a.net_file.file.file.says.text) b.breaks)

  pub none_broken : (P : Property) (fault : SrcFault) → TaskHolds net src P → BreaksSrc net src fault → ⊥
  none_broken P fault h b =
      let e : b.entries ≡ h.is.entries = b.net_file.file.file.says.only h.is.entries h.is.net_file.file.file.says.text in
      no_broken_rule src h.task.width h.task.program fault h.is.src_file
      (subst (λ n. BreaksSrcRule src n fault) (ap data_width e ∙ sym h.is.width) b.breaks)

  -- what follows from what holds of it holds of it
  pub weaker : (P Q : Property) → ((task : Task) → P task → Q task) → TaskHolds net src P → TaskHolds net src Q
  weaker P Q f h = record { task = h.task; is = h.is; holds = f h.task h.holds }

  -- ---- the refusals exclude each other

  pub one_full : (p q : ℕ × ℕ) → TaskHolds net src (IsDataFull p.0 p.1) → TaskHolds net src (IsDataFull q.0 q.1) → p ≡ q
  one_full (a, b) (c, d) = together (IsDataFull a b) (IsDataFull c d) ((a, b) ≡ (c, d)) (λ task x y. let e = x.needs in let f = y.needs in let g = x.has in let h = y.has in cc)

  pub no_full : (need have : ℕ) → TaskHolds net src HasRoom → TaskHolds net src (IsDataFull need have) → ⊥
  no_full need have = together HasRoom (IsDataFull need have) ⊥ (λ task x y. let a = x.room in let b = y.needs in let c = y.has in let d = y.more in omega arith)

  pub no_stepless : TaskHolds net src HasSteps → TaskHolds net src (λ task. IsStepless task.netlist) → ⊥
  no_stepless = together HasSteps (λ task. IsStepless task.netlist) ⊥ (λ task x y. x.steps y)

  pub no_jumpless : TaskHolds net src HasJumps → TaskHolds net src (λ task. IsJumpless task.netlist) → ⊥
  no_jumpless = together HasJumps (λ task. IsJumpless task.netlist) ⊥ (λ task x y. x.jumps y)

  pub one_uncovered : (number other : ℕ) → TaskHolds net src (HasBareTree number) → TaskHolds net src (HasBareTree other) → number ≡ other
  one_uncovered number other = together (HasBareTree number) (HasBareTree other) (number ≡ other) (λ task. one_bare task number other)

  pub no_uncovered : (number : ℕ) → TaskHolds net src IsCoverable → TaskHolds net src (HasBareTree number) → ⊥
  no_uncovered number = together IsCoverable (HasBareTree number) ⊥ (λ task x y. no_bare task number x.covers y)

  pub one_beyond : (p q : ℕ × ℕ) → TaskHolds net src (IsBeyondReach p.0 p.1) → TaskHolds net src (IsBeyondReach q.0 q.1) → p ≡ q
  one_beyond (a, b) (c, d) = together (IsBeyondReach a b) (IsBeyondReach c d) ((a, b) ≡ (c, d)) (λ task x y.
      let e = bound_one task a b c d x.has y.has in let f = e.0 in let g = e.1 in cc)

  pub no_beyond : (bound reach : ℕ) → TaskHolds net src IsReached → TaskHolds net src (IsBeyondReach bound reach) → ⊥
  no_beyond bound reach = together IsReached (IsBeyondReach bound reach) ⊥ (λ task x y.
      let e = bound_one task x.bound x.reach bound reach x.has y.has in let f = e.0 in let g = e.1 in let a = x.within in let b = y.beyond in omega arith)

  -- two images that are too long are so for one code, with one bound
  pub one_limit : (len size bound other room most : ℕ) → TaskHolds net src (IsImageTooLong len size bound) → TaskHolds net src (IsImageTooLong other room most) → (size ≡ room) × (bound ≡ most)
  one_limit len size bound other room most = together (IsImageTooLong len size bound) (IsImageTooLong other room most) ((size ≡ room) × (bound ≡ most)) (λ task x y.
      let e = bound_one task bound x.reach most y.reach x.has y.has in (x.room ∙ sym y.room, e.0))

  -- none is where the bound is within the code
  pub no_long : (len size bound : ℕ) → TaskHolds net src IsWithin → TaskHolds net src (IsImageTooLong len size bound) → ⊥
  no_long len size bound = together IsWithin (IsImageTooLong len size bound) ⊥ (λ task x y.
      let e = bound_one task x.reached.bound x.reached.reach bound y.reach x.reached.has y.has in
      let f = e.0 in let a = x.small in let b = y.room in let c = y.above in let d = y.most in omega arith)

  -- ---- what they leave

  pub room_of_code : (out : List ℕ) → IsCompiled net src out → TaskHolds net src HasRoom
  room_of_code out = weaker (IsCode out) HasRoom (λ task x. x.right.room)

  pub reached_of_code : (out : List ℕ) → IsCompiled net src out → TaskHolds net src IsReached
  reached_of_code out = weaker (IsCode out) IsReached (λ task x. x.right.reached)

-- ---- from what was read to the texts

module _ (net src : List ℕ) (modes : Moded) (typed : Typed) (read : IsTakenModes compiled_edition net modes) (wide : typed.width ≡ memory_width modes.netlist.storages)
    (file : IsSrcFile src typed.width (model_of_program typed.program)) where
  -- the task of what was read is that of the two texts
  is_task : IsTask net src (read_task modes typed)
  is_task = record {
    entries = read.routed.entries;
    net_file = file_of_modes compiled_edition net modes read;
    netlist = read.routed.netlist.netlist;
    width = wide ∙ ap (λ (n : Netlist). memory_width n.storages) read.routed.netlist.netlist;
    src_file = file;
    row = refl;
  }

  -- what holds of it holds of them
  pub holds_of_read : (P : Property) → P (read_task modes typed) → TaskHolds net src P
  holds_of_read P holds = record { task = read_task modes typed; is = is_task; holds = holds }

  -- why there is no code, once both were read
  pub fault_of_code : (fault : CompileFault) → IsTaskFault (read_task modes typed) fault → IsCompileFault net src fault
  fault_of_code (NetText at) h = absurd h
  fault_of_code (Net fault) h = absurd h
  fault_of_code (SrcText at) h = absurd h
  fault_of_code (Src fault) h = absurd h
  fault_of_code (DataFull need have) h = holds_of_read (FailsWith (DataFull need have)) h
  fault_of_code NoStep h = holds_of_read (FailsWith NoStep) h
  fault_of_code NoJump h = holds_of_read (FailsWith NoJump) h
  fault_of_code (NoCover number) h = holds_of_read (FailsWith (NoCover number)) h
  fault_of_code (NoReach bound reach) h = holds_of_read (FailsWith (NoReach bound reach)) h
  fault_of_code (ImageFull len size bound) h = holds_of_read (FailsWith (ImageFull len size bound)) h
  fault_of_code Memory h = tt
