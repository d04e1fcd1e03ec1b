use Rattle.std.proofs.Common.{◌∙◌, ap, sym, arith}
use Rattle.memory.specs.Map.{MemoryMap, with_byte}
use Rattle.memory.proofs.RamRom.{ram_written, size_laid}
use Rattle.memory.proofs.map.Memory.write_ram.Goals as goal

pub index_mut-requires : goal.index_mut-requires
index_mut-requires c =
    let inside = c.self.inside in
    let size = sym (size_laid inside.ram.items inside.rom.items) ∙ ap (λ (m : MemoryMap). m.ram_size) c.self.view_is in
    omega (arith, size, c.requires)

pub returns-clause-put : goal.returns-clause-put
returns-clause-put c =
    let inside = c.self.inside in
    let size = sym (size_laid inside.ram.items inside.rom.items) ∙ ap (λ (m : MemoryMap). m.ram_size) c.self.view_is in
    ram_written inside.ram.items inside.rom.items c.args.addr c.args.byte (omega (arith, size, c.requires)) c.self.invariant.0.0
    ∙ ap (λ (m : MemoryMap). with_byte m c.args.addr c.args.byte) c.self.view_is

pub returns-clause-within : goal.returns-clause-within
returns-clause-within c =
    let inside = c.self.inside in
    let size = sym (size_laid inside.ram.items inside.rom.items) ∙ ap (λ (m : MemoryMap). m.ram_size) c.self.view_is in
    omega (arith, size, c.requires, c.self.invariant.0.0)
