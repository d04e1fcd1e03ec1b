use Rattle.std.proofs.Common.{◌∙◌, ap, sym, arith}
use Rattle.memory.specs.Map.{MemoryMap}
use Rattle.memory.specs.MapCells.{with_cell}
use Rattle.memory.proofs.RamRom.{put_in_ram, put_in_rom, size_laid}
use Rattle.memory.proofs.map.Memory.put.Goals as goal

pub index_mut-requires : goal.index_mut-requires
index_mut-requires c =
    let inside = c.self.inside in
    let size = sym (size_laid inside.ram.items inside.rom.items) ∙ ap (λ (m : MemoryMap). m.ram_size) c.self.view_is in
    let within = c.if-has_ram.ensures.ram.0 in
    omega (arith, size, c.has_ram.ensures.ram.0 c.if-has_ram.true, inside.ram.ok.0)

pub returns-then-has_ram : goal.returns-then-has_ram
returns-then-has_ram c =
    let inside = c.self.inside in
    let size = sym (size_laid inside.ram.items inside.rom.items) ∙ ap (λ (m : MemoryMap). m.ram_size) c.self.view_is in
    put_in_ram inside.ram.items inside.rom.items c.args.addr c.args.byte
    (omega (arith, size, c.has_ram.ensures.ram.0 c.if-has_ram.true)) c.self.invariant.0.0
    ∙ ap (λ m. with_cell m c.args.addr c.args.byte) c.self.view_is

pub returns-then-addr-ge-ROM_START : goal.returns-then-addr-ge-ROM_START
returns-then-addr-ge-ROM_START c =
    let inside = c.self.inside in
    put_in_rom inside.ram.items inside.rom.items c.args.addr c.args.byte c.if-addr-ge-ROM_START.true c.requires c.self.invariant.0.0 c.self.invariant.0.1
    ∙ ap (λ m. with_cell m c.args.addr c.args.byte) c.self.view_is
