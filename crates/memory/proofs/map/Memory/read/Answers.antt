use Rattle.std.proofs.Common.{◌≡◌, ◌∙◌, ◌-◌, ap, length, subst, sym, arith}
use Rattle.std.proofs.lemmas.List.{get_or_read}
use Rattle.memory.specs.Map.{byte_at, IsMap, MemoryMap}
use Rattle.memory.specs.Regions.{region_of}
use Rattle.memory.specs.declared.region.Region.TheVariants.{Ram, Rom, Nothing}
use Rattle.memory.proofs.RamRom.{is_map, read_laid, within_ram, within_rom}
use Rattle.memory.proofs.map.Memory.read.Goals as goal

pub returns-in-Ram-clause-byte : goal.returns-in-Ram-clause-byte
returns-in-Ram-clause-byte c =
    let inside = c.self.inside in
    let ram = inside.ram.items in
    let there : region_of (length ram) c.args.addr ≡ Ram =
    ap (λ n. region_of n c.args.addr) (sym c.self.invariant.1) ∙ sym c.region_of.ensures ∙ c.in-Ram.is in
    get_or_read ram c.args.addr c.index.result.now (within_ram (length ram) c.args.addr there) c.index.ensures 0
    ∙ sym (read_laid ram inside.rom.items c.args.addr Ram c.requires.within there)
    ∙ ap (λ (m : MemoryMap). byte_at m c.args.addr) c.self.view_is

pub returns-in-Ram-clause-map : goal.returns-in-Ram-clause-map
returns-in-Ram-clause-map c = subst IsMap c.self.view_is (is_map c.self.inside.ram.items c.self.inside.rom.items c.self.invariant.0.0)

pub returns-in-Rom-clause-byte : goal.returns-in-Rom-clause-byte
returns-in-Rom-clause-byte c =
    let inside = c.self.inside in
    let ram = inside.ram.items in
    let rom = inside.rom.items in
    let there : region_of (length ram) c.args.addr ≡ Rom =
    ap (λ n. region_of n c.args.addr) (sym c.self.invariant.1) ∙ sym c.region_of.ensures ∙ c.in-Rom.is in
    let from = within_rom (length ram) c.args.addr there in
    get_or_read rom (c.args.addr - 0xF0000) c.index-in-Rom.result.now (omega (arith, c.self.invariant.0.1, c.requires.within, from)) c.index-in-Rom.ensures 0
    ∙ sym (read_laid ram rom c.args.addr Rom c.requires.within there)
    ∙ ap (λ (m : MemoryMap). byte_at m c.args.addr) c.self.view_is

pub returns-in-Rom-clause-map : goal.returns-in-Rom-clause-map
returns-in-Rom-clause-map c = subst IsMap c.self.view_is (is_map c.self.inside.ram.items c.self.inside.rom.items c.self.invariant.0.0)

pub returns-in-Nothing-clause-byte : goal.returns-in-Nothing-clause-byte
returns-in-Nothing-clause-byte c =
    let inside = c.self.inside in
    let ram = inside.ram.items in
    let there : region_of (length ram) c.args.addr ≡ Nothing =
    ap (λ n. region_of n c.args.addr) (sym c.self.invariant.1) ∙ sym c.region_of.ensures ∙ c.in-Nothing.is in
    sym (read_laid ram inside.rom.items c.args.addr Nothing c.requires.within there)
    ∙ ap (λ (m : MemoryMap). byte_at m c.args.addr) c.self.view_is

pub returns-in-Nothing-clause-map : goal.returns-in-Nothing-clause-map
returns-in-Nothing-clause-map c = subst IsMap c.self.view_is (is_map c.self.inside.ram.items c.self.inside.rom.items c.self.invariant.0.0)
