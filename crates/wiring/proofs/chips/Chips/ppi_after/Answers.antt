use Rattle.std.proofs.Common.{ℕ, take, get_or, sym, ap, ◌∙◌}
use Rattle.bus.specs.PortWriteBus.{after_port_writes}
use Rattle.wiring.specs.declared.sound.Sound.{Sound}
use Rattle.wiring.specs.Ports.{after_output}
use Rattle.wiring.specs.Sound.{sound_of, sound_after_write}
use Rattle.wiring.proofs.Speaker.{more_written_ppi}
use Rattle.wiring.proofs.chips.Chips.ppi_after.Goals as goal

pub loop-port-preserved : goal.loop-port-preserved
loop-port-preserved c =
    let s = c.args.self.now in
    let writes = c.args.writes.now in
    let n : ℕ = c.loop-port.port-index in
    let sound : Sound = sound_of (after_port_writes after_output s (take n writes)) in
    let value : ℕ = (get_or writes n (0, 0)).1 in
    c.write_parallel.ensures sound (sym c.loop-port.invariant)
    ∙ ap (λ port. (sound_after_write sound port value).ppi) c.port_at.ensures.port
    ∙ more_written_ppi s writes n (0, 0) c.loop-port-test.true
