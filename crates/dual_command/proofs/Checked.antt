-- The task of a program in parts is checked, and it is that of the netlist of which the view is
-- told.
use Rattle.std.proofs.Common.{ℕ, ◌≡◌, ◌≤◌, ◌+◌, ◌^◌, ◌∙◌, Bool, List, [], ◌∷◌, None, ap, sym, subst, arith}
use Rattle.std.specs.List.{AllByRecursion}
use Rattle.net_model.specs.declared.hardware.Netlist.{Netlist}
use Rattle.net_model.specs.declared.hardware.Space.TheVariants.{Memory as InMemory}
use Rattle.net_model.specs.declared.hardware.Storage.{Storage}
use Rattle.net_model.specs.declared.hardware.Storage.TheVariants.{Register, Memory, File}
use Rattle.net_model.specs.CheckedRules.{StorageKeeps, memory_addr_width, memory_count}
use Rattle.net_model.specs.ModeRules.{KeepsModes, Moded}
use Rattle.net_model.specs.Nets.{array_in, memory_size, memory_width}
use Rattle.src_model.specs.declared.typed.Typed.{Typed}
use Rattle.src_model.specs.Rules.{first_fault}
use Rattle.src_model.specs.Written.{model_of_program}
use Rattle.code_model.specs.declared.image.Places.{Places}
use Rattle.form_model.specs.declared.flow.Blocks.{Blocks}
use Rattle.src_trees.specs.Flows.{program_flow}
use Rattle.src_trees.specs.Jobs.{models_of_jobs}
use Rattle.right_code.specs.Tasks.{IsChecked, Task}
use Rattle.code_gen.specs.Tasks.{coded_task}
use Rattle.bank_view.specs.Banks.{addr_bits, bank_port, memory_port, others, port_of}
use Rattle.bank_view.specs.Inner.Banked.{IsBeside}
use Rattle.bank_view.specs.Keeping.{HasBanks, KeepsBanks}
use Rattle.bank_view.specs.Views.{view_of}
use Rattle.bank_view.proofs.Beside.{banks_of, beside_of, port_width}
use Rattle.bank_view.proofs.Kept.{joined_addr}
use Rattle.bank_view.proofs.Starts.{joined_size, view_wide}
use Rattle.dual_bank.specs.Banked.{jobs_of_banked, joined_memory}
use Rattle.dual_bank.specs.Layouts.{FitsBanks, bank_layout}
use Rattle.dual_command.specs.RightDual.{dual_task}
use Rattle.dual_command.specs.Inner.Sizes.{ShowsSizes}
use Rattle.dual_command.proofs.Jobs.{banked_jobs, banked_task}
use Rattle.dual_command.specs.Inner.Viewed.{HasSeen, IsSeen, task_of, view_bank, view_bits}

-- ---- the sizes

-- addresses of a memory have a bit
memory_reach : (d : Netlist) (storages : List Storage) → AllByRecursion (StorageKeeps d) storages → memory_count storages ≡ 1 → 1 ≤ (port_of (array_in InMemory storages)).addr_width
memory_reach d [] keeps e = absurd (omega (arith, e))
memory_reach d (Register name width input when ∷ storages) keeps e = memory_reach d storages keeps.1 (omega (arith, e))
memory_reach d (Memory cells ∷ storages) keeps e = keeps.0.1.0
memory_reach d (File cells ∷ storages) keeps e = memory_reach d storages keeps.1 (omega (arith, e))

pub seen_bits : (d : Netlist) → IsBeside d → view_bits (view_of d) ≡ addr_bits d
seen_bits d b =
    let e : memory_addr_width (view_of d).storages ≡ addr_bits d + 1 = joined_addr d (others d) b.one in
    omega (arith, e)

pub seen_bank : (d : Netlist) → IsBeside d → view_bank (view_of d) ≡ (bank_port d).size
seen_bank d b =
    let size : memory_size (view_of d).storages ≡ 2 ^ addr_bits d + (bank_port d).size = joined_size d (others d) b.one in
    let first : 2 ^ view_bits (view_of d) ≡ 2 ^ addr_bits d = ap (λ (n : ℕ). 2 ^ n) (seen_bits d b) in
    omega (arith, size, first)

view_sizes : (d : Netlist) → HasBanks d → ShowsSizes (view_of d)
view_sizes d h =
    let b : IsBeside d = beside_of d h in
    let bits : view_bits (view_of d) ≡ addr_bits d = seen_bits d b in
    let bank : view_bank (view_of d) ≡ (bank_port d).size = seen_bank d b in
    let first : 2 ^ view_bits (view_of d) ≡ 2 ^ addr_bits d = ap (λ (n : ℕ). 2 ^ n) bits in
    let some : 1 ≤ addr_bits d = memory_reach d d.storages h.formed.storages b.memories in
    let addr : memory_addr_width (view_of d).storages ≡ addr_bits d + 1 = joined_addr d (others d) b.one in
    let size : memory_size (view_of d).storages ≡ 2 ^ addr_bits d + (bank_port d).size = joined_size d (others d) b.one in
    let wide : memory_width (view_of d).storages ≡ (memory_port d).width = view_wide d ∙ sym (port_width (array_in InMemory d.storages)) in
    record {
      some = omega (arith, bits, some);
      narrow = omega (arith, bits, b.few);
      least = omega (arith, bank, first, b.size.1);
      addr = omega (arith, addr, bits);
      size = omega (arith, size, first, bank);
      word = omega (arith, bits, wide, b.narrow);
    }

module _ (n : Netlist) (moded : Moded) (seen : IsSeen n moded) where
  pub seen_keeps : KeepsBanks n seen.is.rest.order
  seen_keeps = record { banked = seen.banked; rules = seen.is.rest.rules }

  pub seen_banks : HasBanks n
  seen_banks = banks_of n seen.is.rest.order seen_keeps

  pub shown_sizes : ShowsSizes moded.netlist
  shown_sizes = subst ShowsSizes (sym seen.is.view) (view_sizes n seen_banks)

  pub shown_bits : view_bits moded.netlist ≡ addr_bits n
  shown_bits = ap view_bits seen.is.view ∙ seen_bits n (beside_of n seen_banks)

  pub shown_bank : view_bank moded.netlist ≡ (bank_port n).size
  shown_bank = ap view_bank seen.is.view ∙ seen_bank n (beside_of n seen_banks)

pub sizes_seen : (moded : Moded) → HasSeen moded → ShowsSizes moded.netlist
sizes_seen moded h = shown_sizes h.netlist moded h.is

-- ---- the task

-- that of a program in parts on a view
abbrev pub seen_task : Netlist → Typed → List Bool → Task
seen_task view typed in_bank = banked_task view typed.width (view_bits view) in_bank (model_of_program typed.program)

pub seen_checked : (view : Netlist) (typed : Typed) (in_bank : List Bool) → ShowsSizes view → FitsBanks typed.width (view_bits view) (view_bank view) in_bank (model_of_program typed.program)
    → first_fault typed.width (model_of_program typed.program) ≡ None → KeepsModes view → memory_width view.storages ≡ typed.width → IsChecked (seen_task view typed in_bank)
seen_checked view typed in_bank sizes fits kept modes words = record {
  netlist = modes;
  program = kept;
  words = words;
  jobs = banked_jobs view typed.width (view_bits view) (view_bank view) in_bank (model_of_program typed.program) fits sizes.addr sizes.size kept;
}

-- ---- it is that of the places and the jobs that were made, and that of the netlist

pub seen_is_coded : (view : Netlist) (typed : Typed) (in_bank : List Bool) (places : Places) (blocks : Blocks)
    → places ≡ bank_layout typed.width (view_bits view) in_bank (model_of_program typed.program)
    → blocks.flow ≡ program_flow (model_of_program typed.program)
    → models_of_jobs blocks.jobs.items ≡ jobs_of_banked (view_bits view) (joined_memory typed.width (view_bits view) places.list) (model_of_program typed.program)
    → seen_task view typed in_bank ≡ coded_task view typed places.list blocks
seen_is_coded view typed in_bank places blocks p f w =
    ap (λ (x : Places). record {
      netlist = view;
      width = typed.width;
      program = model_of_program typed.program;
      places = x.list;
      flow = program_flow (model_of_program typed.program);
      jobs = jobs_of_banked (view_bits view) (joined_memory typed.width (view_bits view) x.list) (model_of_program typed.program);
    }) (sym p)
    ∙ (λ i. record { netlist = view; width = typed.width; program = model_of_program typed.program; places = places.list; flow = sym f i; jobs = sym w i })

pub dual_is_seen : (n : Netlist) (moded : Moded) → IsSeen n moded → (typed : Typed) (in_bank : List Bool) → dual_task (task_of n typed in_bank) ≡ seen_task moded.netlist typed in_bank
dual_is_seen n moded seen typed in_bank =
    ap (λ (view : Netlist). banked_task view typed.width (addr_bits n) in_bank (model_of_program typed.program)) (sym seen.is.view)
    ∙ ap (λ (k : ℕ). banked_task moded.netlist typed.width k in_bank (model_of_program typed.program)) (sym (shown_bits n moded seen))
