use Rattle.std.proofs.Common.{◌≡◌, ◌<◌, ◌≤◌, sym, arith, length, get_or, Some, None}
use Rattle.net_model.specs.CheckedRules.{HasSizes}
use Rattle.net_check.specs.Inner.Roles.{lone_from, IsShape}
use Rattle.net_check.proofs.Lacks.{no_shape, shape, addr_bits, no_counter, counter_there, bits_wide, sizes_are, sizes_of}
use Rattle.net_check.proofs.role.lacking_role.Goals as goal
use Rattle.net_check.proofs.role.lacking_role.Goals.{In-len1, In-Some}

one_code : (c : In-len1) → length c.args.netlist.now.codes ≡ 1
one_code c =
    let a : 1 ≤ length c.args.netlist.now.codes = rw c.as_slice.ensures at c.in-len1.len_at_least in
    let b : length c.args.netlist.now.codes < 2 = rw c.as_slice.ensures at c.in-len1.len_below in
    omega arith

one_at : (c : In-Some) → length c.args.netlist.now.codes ≡ 1
one_at c =
    let a : 1 ≤ length c.args.netlist.now.codes = rw c.as_slice.ensures at c.in-len1.len_at_least in
    let b : length c.args.netlist.now.codes < 2 = rw c.as_slice.ensures at c.in-len1.len_below in
    omega arith

code_at : (c : In-Some) → c.code-item.result ≡ get_or c.args.netlist.now.codes 0 c.code-item.result
code_at c = rw c.as_slice.ensures at c.code-item.is

lone_at : (c : In-Some) → lone_from None c.args.netlist.now.storages ≡ Some c.in-Some.memory
lone_at c = sym (rw c.as_slice-2.ensures at c.in-Some.ensures)

pub returns-in_default-lone_memory : goal.returns-in_default-lone_memory
returns-in_default-lone_memory c =
    (one_code (goal.at.returns-in_default-lone_memory c).In-len1, no_shape c.args.netlist.now.storages (sym (rw c.as_slice-2.ensures at c.in_default-lone_memory.ensures)))

pub returns-in_default-counter_bits : goal.returns-in_default-counter_bits
returns-in_default-counter_bits c =
    let s = (goal.at.returns-in_default-counter_bits c).In-Some in
    let memory : IsShape c.args.netlist.now.storages c.in-Some.memory = shape _ c.requires _ (one_at s) (code_at s) _ (lone_at s) in
    (one_at s, memory.one, no_counter _ c.requires _ (one_at s) (code_at s) _ (lone_at s) c.in_default-counter_bits.ensures)

pub are_reached-requires-clause-low : goal.are_reached-requires-clause-low
are_reached-requires-clause-low c =
    let s = (goal.at.are_reached-requires-clause-low c).In-Some in
    (bits_wide _ c.requires _ (one_at s) (code_at s) _ (lone_at s) _ c.in-Some-counter_bits.ensures).0

pub are_reached-requires-clause-addr_low : goal.are_reached-requires-clause-addr_low
are_reached-requires-clause-addr_low c =
    let s = (goal.at.are_reached-requires-clause-addr_low c).In-Some in
    (addr_bits _ c.requires _ (one_at s) (code_at s) _ (lone_at s)).0

pub are_reached-requires-clause-addr_high : goal.are_reached-requires-clause-addr_high
are_reached-requires-clause-addr_high c =
    let s = (goal.at.are_reached-requires-clause-addr_high c).In-Some in
    (addr_bits _ c.requires _ (one_at s) (code_at s) _ (lone_at s)).1

pub returns-then-not-are_reached : goal.returns-then-not-are_reached
returns-then-not-are_reached c =
    let s = (goal.at.returns-then-not-are_reached c).In-Some in
    let memory : IsShape c.args.netlist.now.storages c.in-Some.memory = shape _ c.requires _ (one_at s) (code_at s) _ (lone_at s) in (
      one_at s,
      memory.one,
      counter_there _ c.requires _ (one_at s) (code_at s) _ (lone_at s) _ c.in-Some-counter_bits.ensures,
      λ h. cc (c.if-not-are_reached.true, c.are_reached.ensures.1 (sizes_are _ c.requires _ (one_at s) (code_at s) _ (lone_at s) _ c.in-Some-counter_bits.ensures h)),
    )

pub returns-then-memory : goal.returns-then-memory
returns-then-memory c =
    let s = (goal.at.returns-then-memory c).In-Some in
    let memory : IsShape c.args.netlist.now.storages c.in-Some.memory = shape _ c.requires _ (one_at s) (code_at s) _ (lone_at s) in (
      one_at s,
      memory.one,
      counter_there _ c.requires _ (one_at s) (code_at s) _ (lone_at s) _ c.in-Some-counter_bits.ensures,
      sizes_of _ c.requires _ (one_at s) (code_at s) _ (lone_at s) _ c.in-Some-counter_bits.ensures (c.are_reached.ensures.0 c.if-not-are_reached.false),
      λ h. omega (arith, h, memory.width, memory.addr_width, c.if-memory.true),
    )

pub returns-then-not-has_file : goal.returns-then-not-has_file
returns-then-not-has_file c =
    let s = (goal.at.returns-then-not-has_file c).In-Some in
    let memory : IsShape c.args.netlist.now.storages c.in-Some.memory = shape _ c.requires _ (one_at s) (code_at s) _ (lone_at s) in (
      one_at s,
      memory.one,
      counter_there _ c.requires _ (one_at s) (code_at s) _ (lone_at s) _ c.in-Some-counter_bits.ensures,
      sizes_of _ c.requires _ (one_at s) (code_at s) _ (lone_at s) _ c.in-Some-counter_bits.ensures (c.are_reached.ensures.0 c.if-not-are_reached.false),
      omega (arith, memory.width, memory.addr_width, c.if-memory.false),
      λ h. cc (c.if-not-has_file.true, c.has_file.ensures.1 h),
    )

pub returns-then-not-has_mode : goal.returns-then-not-has_mode
returns-then-not-has_mode c =
    let s = (goal.at.returns-then-not-has_mode c).In-Some in
    let memory : IsShape c.args.netlist.now.storages c.in-Some.memory = shape _ c.requires _ (one_at s) (code_at s) _ (lone_at s) in (
      one_at s,
      memory.one,
      counter_there _ c.requires _ (one_at s) (code_at s) _ (lone_at s) _ c.in-Some-counter_bits.ensures,
      sizes_of _ c.requires _ (one_at s) (code_at s) _ (lone_at s) _ c.in-Some-counter_bits.ensures (c.are_reached.ensures.0 c.if-not-are_reached.false),
      omega (arith, memory.width, memory.addr_width, c.if-memory.false),
      c.has_file.ensures.0 c.if-not-has_file.false,
      λ h. cc (c.if-not-has_mode.true, c.has_mode.ensures.1 h),
    )

pub returns-then-not-has_bank : goal.returns-then-not-has_bank
returns-then-not-has_bank c =
    let s = (goal.at.returns-then-not-has_bank c).In-Some in
    let memory : IsShape c.args.netlist.now.storages c.in-Some.memory = shape _ c.requires _ (one_at s) (code_at s) _ (lone_at s) in (
      one_at s,
      memory.one,
      counter_there _ c.requires _ (one_at s) (code_at s) _ (lone_at s) _ c.in-Some-counter_bits.ensures,
      sizes_of _ c.requires _ (one_at s) (code_at s) _ (lone_at s) _ c.in-Some-counter_bits.ensures (c.are_reached.ensures.0 c.if-not-are_reached.false),
      omega (arith, memory.width, memory.addr_width, c.if-memory.false),
      c.has_file.ensures.0 c.if-not-has_file.false,
      c.has_mode.ensures.0 c.if-not-has_mode.false,
      λ h. cc (c.if-not-has_bank.true, c.has_bank.ensures.1 h),
    )

pub has_bank-requires-clause-memory : goal.has_bank-requires-clause-memory
has_bank-requires-clause-memory c =
    let s = (goal.at.has_bank-requires-clause-memory c).In-Some in
    shape _ c.requires _ (one_at s) (code_at s) _ (lone_at s)

pub returns : goal.returns
returns c =
    let s = (goal.at.returns c).In-Some in
    let memory : IsShape c.args.netlist.now.storages c.in-Some.memory = shape _ c.requires _ (one_at s) (code_at s) _ (lone_at s) in
    let sizes : HasSizes c.args.netlist.now = sizes_of _ c.requires _ (one_at s) (code_at s) _ (lone_at s) _ c.in-Some-counter_bits.ensures (c.are_reached.ensures.0 c.if-not-are_reached.false) in
    record {
      code = one_at s;
      memory = memory.one;
      counter = counter_there _ c.requires _ (one_at s) (code_at s) _ (lone_at s) _ c.in-Some-counter_bits.ensures;
      sizes = sizes;
      address = omega (arith, memory.width, memory.addr_width, c.if-memory.false);
      file = c.has_file.ensures.0 c.if-not-has_file.false;
      mode = c.has_mode.ensures.0 c.if-not-has_mode.false;
      bank = c.has_bank.ensures.0 c.if-not-has_bank.false;
    }
