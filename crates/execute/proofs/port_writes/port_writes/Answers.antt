use Rattle.std.proofs.Common.{true, false, refl, sym, ap, ◌∙◌}
use Rattle.isa.specs.declared.row.Kind.{Kind}
use Rattle.digest.specs.declared.slot.Deed.TheVariants as deeds
use Rattle.digest.specs.declared.slot.SlotOperand.TheVariants as held
use Rattle.execute_meaning.specs.Cpu.{CpuState}
use Rattle.execute_transfer.specs.TransferMeaning.{is_ax, port_of}
use Rattle.execute.proofs.TurnOperands.{out_writes}
use Rattle.execute.proofs.port_writes.port_writes.Goals as goal

pub returns-in-OutB : goal.returns-in-OutB
returns-in-OutB c = λ d is.
    let p = c.args.cpu.now in
    let slot = c.args.decoded.now in
    out_writes p slot deeds.OutB held.Port held.Al slot.number c.ax-ax.result false _ d c.in-OutB.is refl refl
    (λ i kind has. has.1 ∙ ap (λ (k : Kind). port_of k p.registers.dx i.values.number) (sym has.0))
    (λ i kind has. ap (λ (k : Kind). is_ax k) (sym has))
    (c.ax-ax.ensures ∙ ap (λ (q : CpuState). q.registers.ax) (ap (λ i. i.parts) c.cpu-inside.view_is ∙ c.cpu.view_is)) c.outputs.ensures is

pub returns-in-OutW : goal.returns-in-OutW
returns-in-OutW c = λ d is.
    let p = c.args.cpu.now in
    let slot = c.args.decoded.now in
    out_writes p slot deeds.OutW held.Port held.Ax slot.number c.ax-ax.result true _ d c.in-OutW.is refl refl
    (λ i kind has. has.1 ∙ ap (λ (k : Kind). port_of k p.registers.dx i.values.number) (sym has.0))
    (λ i kind has. ap (λ (k : Kind). is_ax k) (sym has))
    (c.ax-ax.ensures ∙ ap (λ (q : CpuState). q.registers.ax) (ap (λ i. i.parts) c.cpu-inside.view_is ∙ c.cpu.view_is)) c.outputs-in-OutW.ensures is

pub returns-in-OutBD : goal.returns-in-OutBD
returns-in-OutBD c = λ d is.
    let p = c.args.cpu.now in
    let slot = c.args.decoded.now in
    out_writes p slot deeds.OutBD held.PortInDx held.Al c.dx-dx.result c.ax-ax.result false _ d c.in-OutBD.is refl refl
    (λ i kind has. c.dx-dx.ensures ∙ ap (λ (q : CpuState). q.registers.dx) (ap (λ i. i.parts) c.cpu-inside.view_is ∙ c.cpu.view_is)
    ∙ ap (λ (k : Kind). port_of k p.registers.dx i.values.number) (sym has))
    (λ i kind has. ap (λ (k : Kind). is_ax k) (sym has))
    (c.ax-ax.ensures ∙ ap (λ (q : CpuState). q.registers.ax) (ap (λ i. i.parts) c.cpu-inside.view_is ∙ c.cpu.view_is)) c.outputs-in-OutBD.ensures is

pub returns-in-OutWD : goal.returns-in-OutWD
returns-in-OutWD c = λ d is.
    let p = c.args.cpu.now in
    let slot = c.args.decoded.now in
    out_writes p slot deeds.OutWD held.PortInDx held.Ax c.dx-dx.result c.ax-ax.result true _ d c.in-OutWD.is refl refl
    (λ i kind has. c.dx-dx.ensures ∙ ap (λ (q : CpuState). q.registers.dx) (ap (λ i. i.parts) c.cpu-inside.view_is ∙ c.cpu.view_is)
    ∙ ap (λ (k : Kind). port_of k p.registers.dx i.values.number) (sym has))
    (λ i kind has. ap (λ (k : Kind). is_ax k) (sym has))
    (c.ax-ax.ensures ∙ ap (λ (q : CpuState). q.registers.ax) (ap (λ i. i.parts) c.cpu-inside.view_is ∙ c.cpu.view_is)) c.outputs-in-OutWD.ensures is
