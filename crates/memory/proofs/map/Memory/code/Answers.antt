use Rattle.std.proofs.Common.{◌∙◌, ◌+◌, ◌-◌, ap, map, arith}
use Rattle.std.specs.List.{range_with_len}
use Rattle.std.specs.Prelude.{slice_index}
use Rattle.memory.specs.Map.{byte_at, MemoryMap}
use Rattle.memory.proofs.Eight.{ram_bytes, rom_bytes}
use Rattle.memory.proofs.map.Memory.code.Goals as goal

pub returns-then-addr-self-clause-code : goal.returns-then-addr-self-clause-code
returns-then-addr-self-clause-code c =
    let inside = c.self.inside in
    c.eight_bytes.ensures
    ∙ ap (λ xs. map (λ k. slice_index xs (c.args.addr + k)) (range_with_len 0 8)) c.as_slice.ensures.value
    ∙ ram_bytes inside.ram.items inside.rom.items c.args.addr c.self.invariant.0.0 (omega (arith, c.if-addr-self.true, c.self.invariant.1))
    ∙ ap (λ (m : MemoryMap). map (λ k. byte_at m (c.args.addr + k)) (range_with_len 0 8)) c.self.view_is

pub returns-then-addr-le-ADDRESS_COUNT-clause-code : goal.returns-then-addr-le-ADDRESS_COUNT-clause-code
returns-then-addr-le-ADDRESS_COUNT-clause-code c =
    let inside = c.self.inside in
    c.eight_bytes-then-addr-le-ADDRESS_COUNT.ensures
    ∙ ap (λ xs. map (λ k. slice_index xs (c.args.addr - 0xF0000 + k)) (range_with_len 0 8)) c.as_slice-then-addr-le-ADDRESS_COUNT.ensures.value
    ∙ rom_bytes inside.ram.items inside.rom.items c.args.addr c.self.invariant.0.0 c.if-addr-ge-ROM_START.true c.if-addr-le-ADDRESS_COUNT.true
    ∙ ap (λ (m : MemoryMap). map (λ k. byte_at m (c.args.addr + k)) (range_with_len 0 8)) c.self.view_is
