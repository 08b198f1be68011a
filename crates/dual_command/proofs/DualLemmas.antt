-- Three texts say one task, and it is that of what was read.
use Rattle.std.proofs.Common.{◌≡◌, ℕ, Bool, List, ap, refl, sym, ◌∙◌, subst, arith, inl, inr}
use Rattle.net_model.specs.declared.hardware.Netlist.{Netlist}
use Rattle.net_model.specs.Elaborated.{netlist_of}
use Rattle.net_model.specs.ModeRules.{Moded}
use Rattle.net_model.specs.Nets.{memory_width}
use Rattle.net_model.specs.Written.{UnitsModel}
use Rattle.net_front.specs.Fronts.{KeepsIf}
use Rattle.net_front.proofs.FrontLaws.{taken_banked}
use Rattle.isa_extract.specs.Taken.{IsViewedModes}
use Rattle.src_model.specs.declared.fault.SrcFault.{SrcFault}
use Rattle.src_model.specs.declared.typed.Typed.{Typed}
use Rattle.src_model.specs.Written.{ProgramModel, model_of_program}
use Rattle.src_front.specs.Fronts.{IsSrcFile, BreaksSrcRule}
use Rattle.src_front.proofs.FrontLaws.{no_broken_rule, one_broken_rule}
use Rattle.binding.specs.declared.fault.BindFault.{BindFault}
use Rattle.binding.specs.declared.fault.BindFault.TheVariants.{DataFull as NoRoom, Memory as BindMemory}
use Rattle.dual_bank.specs.Layouts.{IsBankFault}
use Rattle.dual_bank.specs.Parts.{IsPart, IsPartFault, IsPartRefusal}
use Rattle.rec_bits.specs.declared.fault.ParseFault.{ParseFault}
use Rattle.rec_bits.specs.declared.fault.ParseFault.TheVariants.{Text as NoPartText, Memory as ParseMemory}
use Rattle.right_code.specs.Covered.{HasBareTree}
use Rattle.right_code.proofs.Bare.{no_bare, one_bare}
use Rattle.right_code.proofs.OneBound.{bound_one}
use Rattle.code_gen.specs.Refusals.{HasJumps, HasSteps, IsBeyondReach, IsCodeFault, IsCoverable, IsImageTooLong, IsJumpless, IsReached, IsStepless}
use Rattle.code_gen.specs.declared.fault.CodeFault.{CodeFault}
use Rattle.code_gen.specs.declared.fault.CodeFault.TheVariants.{NoStep as Stepless, NoJump as Jumpless, NoCover as Uncovered, NoReach as Beyond, ImageFull as Overlong, Memory as CodeMemory}
use Rattle.compile_command.specs.Tasks.{data_width}
use Rattle.compile_command.specs.Inner.Faults.{bind_fault, code_fault}
use Rattle.compile_command.specs.declared.fault.CompileFault.{CompileFault}
use Rattle.compile_command.specs.declared.fault.CompileFault.TheVariants.{NetText, Net, SrcText, Src, DataFull, NoStep, NoJump, NoCover, NoReach, ImageFull, Memory}
use Rattle.dual_command.specs.Code.{DualFailsWith, IsDualCode, IsDualFull, IsDualTaskFault, IsDualWithin}
use Rattle.dual_command.specs.Compiled.{BreaksDualSrc, IsBankedCompileFault, IsBankedNetFault, IsDualCompiled, IsDualFault, IsNoPart}
use Rattle.dual_command.specs.RightDual.{DualTask, HasBothRoom, bank_room, dual_task, memory_room, need_in_bank, need_in_memory}
use Rattle.dual_command.specs.Tasks.{DualHolds, DualProperty, HasBankedNet, HasBankedProgram, IsDualTask, ViewHolds}
use Rattle.dual_command.specs.Inner.Faults.{IsToldFault, part_fault}
use Rattle.dual_command.specs.Inner.Viewed.{IsSeen, task_of}
use Rattle.dual_command.specs.declared.fault.DualFault.{DualFault}
use Rattle.dual_command.specs.declared.fault.DualFault.TheVariants.{PartText, Compile}
use Rattle.dual_command.proofs.Fitting.{same_code_size}
use Rattle.dual_command.proofs.PartLaws.{no_part, one_part_fault, part_one}

-- ---- why there is no code of a task

-- one of the two memories has too few cells
pub fault_of_banks : (task : DualTask) (fault : BindFault) → IsBankFault (need_in_memory task) (memory_room task) (need_in_bank task) (bank_room task) fault → IsDualTaskFault task (bind_fault fault)
fault_of_banks task (NoRoom need have) h = h
fault_of_banks task BindMemory h = tt

-- there is no image, where both have room
pub fault_of_dual : (task : DualTask) → HasBothRoom task → (fault : CodeFault) → IsCodeFault (dual_task task) fault → IsDualTaskFault task (code_fault fault)
fault_of_dual task room Stepless h = (room, h)
fault_of_dual task room Jumpless h = (room, h)
fault_of_dual task room (Uncovered number) h = (room, h)
fault_of_dual task room (Beyond bound reach) h = (room, h)
fault_of_dual task room (Overlong len size bound) h = (room, h)
fault_of_dual task room CodeMemory h = tt

-- ---- three texts say one task

same_dual : (a b : DualTask) → a.netlist ≡ b.netlist → a.width ≡ b.width → a.program ≡ b.program → a.in_bank ≡ b.in_bank → a ≡ b
same_dual a b netlist width program in_bank = λ i. record { netlist = netlist i; width = width i; program = program i; in_bank = in_bank i }

module _ (net : List ℕ) where
  -- two readings of a netlist's bytes are one
  one_net : (a b : HasBankedNet net) → a.entries ≡ b.entries
  one_net a b = a.file.file.says.only b.entries b.file.file.says.text

module _ (net src part : List ℕ) where
  pub one_dual : (a b : DualTask) → IsDualTask net src part a → IsDualTask net src part b → a ≡ b
  one_dual a b p q =
      let e : p.net_file.entries ≡ q.net_file.entries = one_net net p.net_file q.net_file in
      let l : a.program ≡ b.program = p.src_file.says.only b.program q.src_file.says.text in
      same_dual a b (p.netlist ∙ (ap netlist_of e ∙ sym q.netlist)) (p.width ∙ (ap data_width e ∙ sym q.width)) l
      (part_one b.program.vars part a.in_bank b.in_bank (subst (λ (x : ProgramModel). IsPart x.vars part a.in_bank) l p.part_file) q.part_file)

  -- what holds of it, and what else does, holds of the same task
  pub together : (P Q : DualProperty) (G : Type 0) → ((task : DualTask) → P task → Q task → G) → DualHolds net src part P → DualHolds net src part Q → G
  together P Q G f a b = f a.task a.holds (subst Q (one_dual b.task a.task b.is a.is) b.holds)

  -- what follows from what holds of it holds of it
  pub weaker : (P Q : DualProperty) → ((task : DualTask) → P task → Q task) → DualHolds net src part P → DualHolds net src part Q
  weaker P Q f h = record { task = h.task; is = h.is; holds = f h.task h.holds }

  -- ---- what they leave

  pub has_banked : (P : DualProperty) → DualHolds net src part P → HasBankedNet net
  has_banked P h = h.is.net_file

  pub has_program : (P : DualProperty) → DualHolds net src part P → HasBankedProgram net src
  has_program P h = record {
    net_file = h.is.net_file;
    program = h.task.program;
    src_file = subst (λ (n : ℕ). IsSrcFile src n h.task.program) h.is.width h.is.src_file;
  }

  pub room_of_code : (out : List ℕ) → IsDualCompiled net src part out → DualHolds net src part HasBothRoom
  room_of_code out = weaker (IsDualCode out) HasBothRoom (λ task x. x.right.room)

  pub reached_of_code : (out : List ℕ) → IsDualCompiled net src part out → ViewHolds net src part IsReached
  reached_of_code out = weaker (IsDualCode out) (λ task. IsReached (dual_task task)) (λ task x. x.right.reached)

  -- ---- the refusals exclude each other

  -- a program breaks one rule first, and none where it keeps them
  pub one_broken : (fault later : SrcFault) → BreaksDualSrc net src fault → BreaksDualSrc net src later → fault ≡ later
  one_broken fault later a b =
      one_broken_rule src (data_width a.net_file.entries) fault later a.breaks
      (subst (λ (e : UnitsModel). BreaksSrcRule src (data_width e) later) (one_net net b.net_file a.net_file) b.breaks)

  pub none_broken : (fault : SrcFault) → HasBankedProgram net src → BreaksDualSrc net src fault → ⊥
  none_broken fault h b =
      no_broken_rule src (data_width h.net_file.entries) h.program fault h.src_file
      (subst (λ (e : UnitsModel). BreaksSrcRule src (data_width e) fault) (one_net net b.net_file h.net_file) b.breaks)

  -- a part is refused at one byte, and at none where it is one
  pub one_no_part : (at other : ℕ) → IsNoPart net src part at → IsNoPart net src part other → at ≡ other
  one_no_part at other a b =
      let l : b.program.program ≡ a.program.program = b.program.src_file.says.only a.program.program a.program.src_file.says.text in
      one_part_fault a.program.program.vars part at other a.fault (subst (λ (x : ProgramModel). IsPartFault x.vars part other) l b.fault)

  pub none_no_part : (P : DualProperty) (at : ℕ) → DualHolds net src part P → IsNoPart net src part at → ⊥
  none_no_part P at h b =
      let l : b.program.program ≡ h.task.program = b.program.src_file.says.only h.task.program h.is.src_file.says.text in
      no_part h.task.program.vars part h.task.in_bank at h.is.part_file (subst (λ (x : ProgramModel). IsPartFault x.vars part at) l b.fault)

  pub one_full : (p q : ℕ × ℕ) → DualHolds net src part (IsDualFull p.0 p.1) → DualHolds net src part (IsDualFull q.0 q.1) → p ≡ q
  one_full (a, b) (c, d) = together (IsDualFull a b) (IsDualFull c d) ((a, b) ≡ (c, d)) by
    where
      by : (task : DualTask) → IsDualFull a b task → IsDualFull c d task → ◌≡◌ {A = ℕ × ℕ} (a, b) (c, d)
      by task (inl x) (inl y) = let e = x.0 in let f = y.0 in let g = x.1 in let h = y.1 in cc
      by task (inr x) (inr y) = let e = x.0 in let f = y.0 in let g = x.1 in let h = y.1 in cc
      by task (inl x) (inr y) = absurd (omega (arith, x.2, y.3))
      by task (inr x) (inl y) = absurd (omega (arith, y.2, x.3))

  pub no_full : (need have : ℕ) → DualHolds net src part HasBothRoom → DualHolds net src part (IsDualFull need have) → ⊥
  no_full need have = together HasBothRoom (IsDualFull need have) ⊥ by
    where
      by : (task : DualTask) → HasBothRoom task → IsDualFull need have task → ⊥
      by task room (inl x) = absurd (omega (arith, room.memory, x.2))
      by task room (inr x) = absurd (omega (arith, room.bank, x.2))

  pub no_stepless : ViewHolds net src part HasSteps → ViewHolds net src part (λ task. IsStepless task.netlist) → ⊥
  no_stepless = together (λ task. HasSteps (dual_task task)) (λ task. IsStepless (dual_task task).netlist) ⊥ (λ task x y. x.steps y)

  pub no_jumpless : ViewHolds net src part HasJumps → ViewHolds net src part (λ task. IsJumpless task.netlist) → ⊥
  no_jumpless = together (λ task. HasJumps (dual_task task)) (λ task. IsJumpless (dual_task task).netlist) ⊥ (λ task x y. x.jumps y)

  pub one_uncovered : (number other : ℕ) → ViewHolds net src part (HasBareTree number) → ViewHolds net src part (HasBareTree other) → number ≡ other
  one_uncovered number other =
      together (λ task. HasBareTree number (dual_task task)) (λ task. HasBareTree other (dual_task task)) (number ≡ other) (λ task. one_bare (dual_task task) number other)

  pub no_uncovered : (number : ℕ) → ViewHolds net src part IsCoverable → ViewHolds net src part (HasBareTree number) → ⊥
  no_uncovered number =
      together (λ task. IsCoverable (dual_task task)) (λ task. HasBareTree number (dual_task task)) ⊥ (λ task x y. no_bare (dual_task task) number x.covers y)

  pub one_beyond : (p q : ℕ × ℕ) → ViewHolds net src part (IsBeyondReach p.0 p.1) → ViewHolds net src part (IsBeyondReach q.0 q.1) → p ≡ q
  one_beyond (a, b) (c, d) =
      together (λ task. IsBeyondReach a b (dual_task task)) (λ task. IsBeyondReach c d (dual_task task)) ((a, b) ≡ (c, d)) (λ task x y.
      let e = bound_one (dual_task task) a b c d x.has y.has in let f = e.0 in let g = e.1 in cc)

  pub no_beyond : (bound reach : ℕ) → ViewHolds net src part IsReached → ViewHolds net src part (IsBeyondReach bound reach) → ⊥
  no_beyond bound reach =
      together (λ task. IsReached (dual_task task)) (λ task. IsBeyondReach bound reach (dual_task task)) ⊥ (λ task x y.
      let e = bound_one (dual_task task) x.bound x.reach bound reach x.has y.has in let f = e.0 in let g = e.1 in let a = x.within in let b = y.beyond in omega arith)

  -- two images that are too long are so for one code, with one bound
  pub one_limit : (len size bound other room most : ℕ) → ViewHolds net src part (IsImageTooLong len size bound) → ViewHolds net src part (IsImageTooLong other room most) → (size ≡ room) × (bound ≡ most)
  one_limit len size bound other room most =
      together (λ task. IsImageTooLong len size bound (dual_task task)) (λ task. IsImageTooLong other room most (dual_task task)) ((size ≡ room) × (bound ≡ most)) (λ task x y.
      let e = bound_one (dual_task task) bound x.reach most y.reach x.has y.has in (x.room ∙ sym y.room, e.0))

  -- none is where the bound is within the code
  pub no_long : (len size bound : ℕ) → DualHolds net src part IsDualWithin → ViewHolds net src part (IsImageTooLong len size bound) → ⊥
  no_long len size bound =
      together IsDualWithin (λ task. IsImageTooLong len size bound (dual_task task)) ⊥ (λ task x y.
      let e = bound_one (dual_task task) x.reached.bound x.reached.reach bound y.reach x.reached.has y.has in
      let s = same_code_size task.netlist in
      let f = e.0 in let a = x.small in let b = y.room in let c = y.above in let d = y.most in omega arith)

-- ---- from what was read to the texts

-- a netlist with a bank that was read is seen as its view
pub seen_of_text : (net : List ℕ) (modes : Moded) (read : IsViewedModes net modes) → IsSeen (netlist_of read.routed.entries) modes
seen_of_text net modes read = record {
  banked = read.banked;
  is = record {
    rest = subst (λ (b : Bool). KeepsIf b (netlist_of read.routed.entries)) read.banked read.routed.netlist.rest;
    view = read.routed.netlist.netlist ∙ taken_banked read.routed.entries read.banked;
    rules = read.routed.netlist.rules;
  };
}

abbrev pub banked_net : (net : List ℕ) (modes : Moded) → IsViewedModes net modes → HasBankedNet net
banked_net net modes read = record { entries = read.routed.entries; file = read.routed.file; banked = read.banked }

-- its words are the view's
pub viewed_width : (net : List ℕ) (modes : Moded) (read : IsViewedModes net modes) → memory_width modes.netlist.storages ≡ data_width read.routed.entries
viewed_width net modes read = ap (λ (n : Netlist). memory_width n.storages) read.routed.netlist.netlist

-- why the netlist's bytes were not taken
pub fault_of_view : (net src part : List ℕ) (fault : CompileFault) → IsBankedNetFault net fault → IsBankedCompileFault net src part fault
fault_of_view net src part (NetText at) h = h
fault_of_view net src part (Net fault) h = h
fault_of_view net src part (SrcText at) h = absurd h
fault_of_view net src part (Src fault) h = absurd h
fault_of_view net src part (DataFull need have) h = absurd h
fault_of_view net src part NoStep h = absurd h
fault_of_view net src part NoJump h = absurd h
fault_of_view net src part (NoCover number) h = absurd h
fault_of_view net src part (NoReach bound reach) h = absurd h
fault_of_view net src part (ImageFull len size bound) h = absurd h
fault_of_view net src part Memory h = tt

-- why the second bytes tell no part of the program that was read
pub told_of_part : (src part : List ℕ) (width : ℕ) (program : ProgramModel) → IsSrcFile src width program → (fault : ParseFault) → IsPartRefusal program.vars part fault → IsToldFault src part width (part_fault fault)
told_of_part src part width program file (NoPartText at) h = record { program = program; file = file; fault = h }
told_of_part src part width program file ParseMemory h = tt

-- why the program and its part were not
pub fault_of_told : (net src part : List ℕ) (modes : Moded) (read : IsViewedModes net modes) (width : ℕ) → width ≡ data_width read.routed.entries → (fault : DualFault) → IsToldFault src part width fault → IsDualFault net src part fault
fault_of_told net src part modes read width wide (PartText at) h = record {
  program = record {
    net_file = banked_net net modes read;
    program = h.program;
    src_file = subst (λ (n : ℕ). IsSrcFile src n h.program) wide h.file;
  };
  fault = h.fault;
}
fault_of_told net src part modes read width wide (Compile (NetText at)) h = absurd h
fault_of_told net src part modes read width wide (Compile (Net fault)) h = absurd h
fault_of_told net src part modes read width wide (Compile (SrcText at)) h = (banked_net net modes read, h)
fault_of_told net src part modes read width wide (Compile (Src fault)) h = record {
  net_file = banked_net net modes read;
  breaks = subst (λ (n : ℕ). BreaksSrcRule src n fault) wide h;
}
fault_of_told net src part modes read width wide (Compile (DataFull need have)) h = absurd h
fault_of_told net src part modes read width wide (Compile NoStep) h = absurd h
fault_of_told net src part modes read width wide (Compile NoJump) h = absurd h
fault_of_told net src part modes read width wide (Compile (NoCover number)) h = absurd h
fault_of_told net src part modes read width wide (Compile (NoReach bound reach)) h = absurd h
fault_of_told net src part modes read width wide (Compile (ImageFull len size bound)) h = absurd h
fault_of_told net src part modes read width wide (Compile Memory) h = tt

module _ (net src part : List ℕ) (modes : Moded) (typed : Typed) (in_bank : List Bool) (read : IsViewedModes net modes) (wide : typed.width ≡ data_width read.routed.entries)
    (file : IsSrcFile src typed.width (model_of_program typed.program)) (told : IsPart (model_of_program typed.program).vars part in_bank) where
  -- the task of what was read is that of the three texts
  is_dual : IsDualTask net src part (task_of (netlist_of read.routed.entries) typed in_bank)
  is_dual = record {
    net_file = banked_net net modes read;
    netlist = refl;
    width = wide;
    src_file = file;
    part_file = told;
  }

  -- what holds of it holds of them
  pub dual_of_read : (P : DualProperty) → P (task_of (netlist_of read.routed.entries) typed in_bank) → DualHolds net src part P
  dual_of_read P holds = record { task = task_of (netlist_of read.routed.entries) typed in_bank; is = is_dual; holds = holds }

  -- why there is no code, once all were read
  pub fault_of_code : (fault : CompileFault) → IsDualTaskFault (task_of (netlist_of read.routed.entries) typed in_bank) fault → IsBankedCompileFault net src part fault
  fault_of_code (NetText at) h = absurd h
  fault_of_code (Net fault) h = absurd h
  fault_of_code (SrcText at) h = absurd h
  fault_of_code (Src fault) h = absurd h
  fault_of_code (DataFull need have) h = dual_of_read (DualFailsWith (DataFull need have)) h
  fault_of_code NoStep h = dual_of_read (DualFailsWith NoStep) h
  fault_of_code NoJump h = dual_of_read (DualFailsWith NoJump) h
  fault_of_code (NoCover number) h = dual_of_read (DualFailsWith (NoCover number)) h
  fault_of_code (NoReach bound reach) h = dual_of_read (DualFailsWith (NoReach bound reach)) h
  fault_of_code (ImageFull len size bound) h = dual_of_read (DualFailsWith (ImageFull len size bound)) h
  fault_of_code Memory h = tt
