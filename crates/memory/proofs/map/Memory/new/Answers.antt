use Rattle.std.proofs.Common.{◌≡◌, ◌∙◌, ◌+◌, ◌*◌, ◌<◌, ap, length, unwrap_or, arith}
use Rattle.std.proofs.lemmas.List.{get_or-replicate}
use Rattle.std.specs.Prelude.{slice_index}
use Rattle.board_types.specs.Image.{image_byte}
use Rattle.memory.specs.Map.{power_on}
use Rattle.memory.proofs.RamRom.{power_on_laid}
use Rattle.memory.proofs.map.Memory.new.Goals as goal

pub returns-clause-power_on : goal.returns-clause-power_on
returns-clause-power_on c =
    let image = c.args.image.now in
    let ram = c.in_ok-ram.ram in
    let rom = c.in_ok-rom.rom in
    let ram_len : length ram.items ≡ 1024 * c.args.ram_kb =
    omega (arith, ram.ok.0, c.in_ok-ram.ensures.len, c.from-ram_size.ensures) in
    let rom_len : length rom.items ≡ 65536 = omega (arith, rom.ok.0, c.in_ok-rom.ensures.len) in
    let low = (c.is_ram_size.ensures.0 c.if-not-is_ram_size.false).most in
    let size : length c.with_image.result.items ≡ 1024 * c.args.ram_kb = c.with_image.ensures.length ∙ ram_len in
    power_on_laid image c.with_image.result.items c.with_image-2.result.items (omega (arith, size, low))
    (λ at within.
    let there : at < length ram.items = omega (arith, within, c.with_image.ensures.length) in
    let first : 0 + at ≡ at = omega arith in
    let bare : slice_index ram.items at ≡ 0 =
    ap (λ xs. slice_index xs at) (c.in_ok-ram.ensures.items_if_clones_equal (λ y same. same))
    ∙ get_or-replicate (1024 * c.from-ram_size.result) at 0 0 (omega (arith, there, ram_len, c.from-ram_size.ensures)) in
    c.with_image.ensures.bytes at there ∙ ap (λ k. unwrap_or (image_byte image k) (slice_index ram.items at)) first
    ∙ ap (unwrap_or (image_byte image at)) bare)
    (λ at within.
    let there : at < length rom.items = omega (arith, within, rom_len) in
    let bare : slice_index rom.items at ≡ 0xFF =
    ap (λ xs. slice_index xs at) (c.in_ok-rom.ensures.items_if_clones_equal (λ y same. same))
    ∙ get_or-replicate 65536 at 0xFF 0 (omega (arith, there, rom_len)) in
    c.with_image-2.ensures.bytes at there ∙ ap (unwrap_or (image_byte image (0xF0000 + at))) bare)
    ∙ ap (power_on image) size
