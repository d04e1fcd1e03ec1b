use Rattle.std.proofs.Common.{◌≡◌, ◌∙◌, ◌+◌, ◌/◌, ◌%◌, ap, length, set, sym, arith}
use Rattle.std.proofs.lemmas.List.{length-set, with_items_is}
use Rattle.memory.specs.Map.{MemoryMap, with_byte}
use Rattle.memory.specs.MapLayout.{map_of}
use Rattle.memory.proofs.RamRom.{ram_written, size_laid}
use Rattle.memory.proofs.map.Memory.write_word.Goals as goal

pub bounds-ram-at : goal.bounds-ram-at
bounds-ram-at c =
    let inside = c.self.inside in
    let size = sym (size_laid inside.ram.items inside.rom.items) ∙ ap (λ (m : MemoryMap). m.ram_size) c.self.view_is in
    omega (arith, size, c.requires, c.as_mut_slice-ram.ensures.len, inside.ram.ok.0)

pub bounds-ram-at-2 : goal.bounds-ram-at-2
bounds-ram-at-2 c =
    let inside = c.self.inside in
    let size = sym (size_laid inside.ram.items inside.rom.items) ∙ ap (λ (m : MemoryMap). m.ram_size) c.self.view_is in
    let first = length-set c.as_mut_slice-ram.result.now c.args.addr (c.args.word % 256) in
    omega (arith, first, size, c.requires, c.as_mut_slice-ram.ensures.len, inside.ram.ok.0)

pub returns-clause-put : goal.returns-clause-put
returns-clause-put c =
    let inside = c.self.inside in
    let ram = inside.ram.items in
    let rom = inside.rom.items in
    let at = c.args.addr in
    let low = c.args.word % 256 in
    let high = c.args.word / 256 in
    let given = c.as_mut_slice-ram.result.now in
    let size = sym (size_laid ram rom) ∙ ap (λ (m : MemoryMap). m.ram_size) c.self.view_is in
    let first = length-set given at low in
    let second = length-set (set given at low) (at + 1) high in
    let long : length (set (set given at low) (at + 1) high) ≡ inside.ram.len = omega (arith, first, second, c.as_mut_slice-ram.ensures.len) in
    let kept = length-set ram at low in
    ap (λ xs. map_of xs rom) (with_items_is inside.ram (set (set given at low) (at + 1) high) long
    ∙ ap (λ xs. set (set xs at low) (at + 1) high) c.as_mut_slice-ram.ensures.value)
    ∙ ram_written (set ram at low) rom (at + 1) high (omega (arith, kept, size, c.requires)) (omega (arith, kept, c.self.invariant.0.0))
    ∙ ap (λ m. with_byte m (at + 1) high) (ram_written ram rom at low (omega (arith, size, c.requires)) c.self.invariant.0.0
    ∙ ap (λ m. with_byte m at low) c.self.view_is)

pub returns-clause-within : goal.returns-clause-within
returns-clause-within c =
    let inside = c.self.inside in
    let size = sym (size_laid inside.ram.items inside.rom.items) ∙ ap (λ (m : MemoryMap). m.ram_size) c.self.view_is in
    omega (arith, size, c.requires, c.self.invariant.0.0)
