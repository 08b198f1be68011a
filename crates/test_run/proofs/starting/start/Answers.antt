use Rattle.std.proofs.Common.{◌≡◌, ◌∙◌, ap, length, replicate}
use Rattle.net_model.specs.declared.hardware.Netlist.{Netlist}
use Rattle.net_model.specs.declared.hardware.Space.TheVariants.{File as InFile}
use Rattle.net_model.specs.Nets.{memory_size, memory_width, size_in}
use Rattle.test_run.specs.Starts.{cells_from}
use Rattle.test_run.proofs.Cells.{start_fits}
use Rattle.test_run.proofs.starting.start.Goals as goal

pub returns-clause-fits : goal.returns-clause-fits
returns-clause-fits c =
    let nt = c.args.checked.now.netlist in
    let r : c.in_ok-regs.regs ≡ replicate (length nt.storages) 0 = c.in_ok-regs.ensures ∙ ap (λ n. replicate n 0) (c.len.ensures ∙ ap (λ (n : Netlist). length n.storages) c.netlist-netlist.ensures.value) in
    let k : c.in_ok-cells.cells ≡ cells_from (memory_width nt.storages) 0 (memory_size nt.storages) = rw (c.memory_width.ensures.width, c.memory_size.ensures) at c.in_ok-cells.ensures in
    let f : c.in_ok-file.file ≡ replicate (size_in InFile nt.storages) 0 = c.in_ok-file.ensures ∙ ap (λ n. replicate n 0) c.size.ensures in
    rw (r, k, f) (start_fits nt)
