use Rattle.std.proofs.Common.{◌∙◌, sym}
use Rattle.std.proofs.lemmas.Bool.{false≢true}
use Rattle.memory.proofs.RamRom.{lost_above}
use Rattle.memory.proofs.map.Memory.write.Goals as goal

pub returns-else-has_ram : goal.returns-else-has_ram
returns-else-has_ram c =
    lost_above c.args.self.now c.args.addr c.args.byte (λ less. false≢true (sym c.if-has_ram.false ∙ c.has_ram.ensures.ram.1 less))
