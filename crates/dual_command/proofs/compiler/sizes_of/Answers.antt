use Rattle.std.proofs.Common.{◌≡◌, ◌≤◌, ◌-◌, ◌^◌, ◌∙◌, ℕ, ap, subst, sym, arith}
use Rattle.net_model.specs.CheckedRules.{memory_addr_width}
use Rattle.net_model.specs.Nets.{memory_size}
use Rattle.compile_command.proofs.FittingLemmas.{of_first}
use Rattle.dual_command.specs.Inner.Viewed.{view_bank, view_bits}
use Rattle.dual_command.proofs.Checked.{sizes_seen}
use Rattle.dual_command.proofs.compiler.sizes_of.Goals as goal

pub sizes_in-requires-clause-some : goal.sizes_in-requires-clause-some
sizes_in-requires-clause-some c =
    let netlist = c.args.modes.now.netlist in
    let wide = of_first memory_addr_width netlist c.first-first.result.now.netlist c.addr_width.result c.first-first.ensures.base c.addr_width.ensures.width in
    let sizes = sizes_seen c.args.modes.now c.requires in
    omega (arith, wide, sizes.addr, sizes.some)

pub sizes_in-requires-clause-narrow : goal.sizes_in-requires-clause-narrow
sizes_in-requires-clause-narrow c =
    let netlist = c.args.modes.now.netlist in
    let wide = of_first memory_addr_width netlist c.first-first.result.now.netlist c.addr_width.result c.first-first.ensures.base c.addr_width.ensures.width in
    let sizes = sizes_seen c.args.modes.now c.requires in
    omega (arith, wide, sizes.addr, sizes.narrow)

pub sizes_in-requires-clause-first : goal.sizes_in-requires-clause-first
sizes_in-requires-clause-first c =
    let netlist = c.args.modes.now.netlist in
    let wide = of_first memory_addr_width netlist c.first-first.result.now.netlist c.addr_width.result c.first-first.ensures.base c.addr_width.ensures.width in
    let have = of_first memory_size netlist c.first-first.result.now.netlist c.memory_size.result c.first-first.ensures.base c.memory_size.ensures in
    let sizes = sizes_seen c.args.modes.now c.requires in
    let bits : view_bits netlist ≡ c.addr_width.result - 1 = ap (λ (n : ℕ). n - 1) (sym wide) in
    let first : 2 ^ view_bits netlist ≤ c.memory_size.result = omega (arith, have, sizes.size) in
    subst (λ (k : ℕ). 2 ^ k ≤ c.memory_size.result) bits first

pub returns-clause-addr_width : goal.returns-clause-addr_width
returns-clause-addr_width c =
    let netlist = c.args.modes.now.netlist in
    let wide = of_first memory_addr_width netlist c.first-first.result.now.netlist c.addr_width.result c.first-first.ensures.base c.addr_width.ensures.width in
    c.sizes_in.ensures.addr_width ∙ ap (λ (n : ℕ). n - 1) wide

pub returns-clause-bank : goal.returns-clause-bank
returns-clause-bank c =
    let netlist = c.args.modes.now.netlist in
    let wide = of_first memory_addr_width netlist c.first-first.result.now.netlist c.addr_width.result c.first-first.ensures.base c.addr_width.ensures.width in
    let have = of_first memory_size netlist c.first-first.result.now.netlist c.memory_size.result c.first-first.ensures.base c.memory_size.ensures in
    c.sizes_in.ensures.bank ∙ ap (λ (n : ℕ). n - 2 ^ (c.addr_width.result - 1)) have ∙ ap (λ (n : ℕ). memory_size netlist.storages - 2 ^ (n - 1)) wide

pub returns-clause-some : goal.returns-clause-some
returns-clause-some c =
    let netlist = c.args.modes.now.netlist in
    let wide = of_first memory_addr_width netlist c.first-first.result.now.netlist c.addr_width.result c.first-first.ensures.base c.addr_width.ensures.width in
    let sizes = sizes_seen c.args.modes.now c.requires in
    omega (arith, c.sizes_in.ensures.addr_width, wide, sizes.addr, sizes.some)

pub returns-clause-narrow : goal.returns-clause-narrow
returns-clause-narrow c =
    let netlist = c.args.modes.now.netlist in
    let wide = of_first memory_addr_width netlist c.first-first.result.now.netlist c.addr_width.result c.first-first.ensures.base c.addr_width.ensures.width in
    let sizes = sizes_seen c.args.modes.now c.requires in
    omega (arith, c.sizes_in.ensures.addr_width, wide, sizes.addr, sizes.narrow)

pub returns-clause-least : goal.returns-clause-least
returns-clause-least c =
    let netlist = c.args.modes.now.netlist in
    let wide = of_first memory_addr_width netlist c.first-first.result.now.netlist c.addr_width.result c.first-first.ensures.base c.addr_width.ensures.width in
    let have = of_first memory_size netlist c.first-first.result.now.netlist c.memory_size.result c.first-first.ensures.base c.memory_size.ensures in
    let sizes = sizes_seen c.args.modes.now c.requires in
    let bits : view_bits netlist ≡ c.sizes_in.result.addr_width = ap (λ (n : ℕ). n - 1) (sym wide) ∙ sym c.sizes_in.ensures.addr_width in
    let bank : c.sizes_in.result.bank ≡ view_bank netlist =
    c.sizes_in.ensures.bank ∙ ap (λ (n : ℕ). n - 2 ^ (c.addr_width.result - 1)) have ∙ ap (λ (n : ℕ). memory_size netlist.storages - 2 ^ (n - 1)) wide in
    let least : c.sizes_in.result.bank ≤ 2 ^ view_bits netlist = omega (arith, bank, sizes.least) in
    subst (λ (k : ℕ). c.sizes_in.result.bank ≤ 2 ^ k) bits least
