-- A map whose bytes of RAM and of the ROM are known: what is read, and what becomes of it.
use Rattle.std.proofs.Common.{◌≡◌, ◌≢◌, ◌∙◌, ◌+◌, ◌-◌, ◌<◌, ◌≤◌, ◌^◌, ℕ, List, length, unwrap_or, inl, inr, sym, ap, subst, refl, true, arith}
use Rattle.std.specs.Prelude.{if◌then◌else◌, ◌&&◌, ◌||◌, ◌⊎◌, nat_le, nat_lt, Bool, false, slice_index, slice_set}
use Rattle.std.proofs.lemmas.Bool.{cases_eq, cases_lt}
use Rattle.std.proofs.lemmas.Bool.Decides.{nat_tests}
use Rattle.std.proofs.lemmas.List.{get_or-set_same, get_or-set_other, length-set}
use Rattle.std.proofs.lemmas.List.FromFn.{fill_by_all, get_or-map-range_with_len, length-map-range_with_len}
use Rattle.memory.specs.declared.region.Region.{Region}
use Rattle.memory.specs.declared.region.Region.TheVariants.{Ram, Text, Rom, Nothing}
use Rattle.memory.specs.Regions.{region_of}
use Rattle.memory.specs.Map.{address_count, byte_answered, byte_at, byte_of_region, is_ram, is_writable, with_byte, power_on, power_on_byte, IsMap, MemoryMap}
use Rattle.board_types.specs.Image.{image_byte}
use Rattle.memory.specs.MapCells.{with_cell}
use Rattle.memory.specs.MapLayout.{cell_in, cell_of, map_of}

pub ram_there : (ram_size a : ℕ) → a < ram_size → region_of ram_size a ≡ Ram
ram_there ram_size a below = grind (arith, nat_tests)

pub rom_there : (ram_size a : ℕ) → ram_size ≤ 0xA0000 → 0xF0000 ≤ a → region_of ram_size a ≡ Rom
rom_there ram_size a low from = grind (arith, nat_tests)

-- the cells are as many as there are addresses, and each is read as it is laid out
pub cell_count : (ram rom : List ℕ) → length (map_of ram rom).cells ≡ 1048576
unfolding map_of address_count
cell_count ram rom = length-map-range_with_len (cell_of ram rom) 0 address_count

pub cell_read : (ram rom : List ℕ) (a : ℕ) → a < 1048576 → slice_index (map_of ram rom).cells a ≡ cell_of ram rom a
unfolding map_of address_count
cell_read ram rom a within = get_or-map-range_with_len (cell_of ram rom) 0 address_count a a 0 within (omega arith)

pub ram_read : (ram rom : List ℕ) (a : ℕ) → a < length ram → cell_of ram rom a ≡ slice_index ram a
ram_read ram rom a within = ap (λ region. cell_in region ram rom a) (ram_there (length ram) a within)

pub rom_read : (ram rom : List ℕ) (a : ℕ) → length ram ≤ 0xA0000 → 0xF0000 ≤ a → cell_of ram rom a ≡ slice_index rom (a - 0xF0000)
rom_read ram rom a low from = ap (λ region. cell_in region ram rom a) (rom_there (length ram) a low from)

pub size_laid : (ram rom : List ℕ) → (map_of ram rom).ram_size ≡ length ram
unfolding map_of
size_laid ram rom = refl

pub is_map : (ram rom : List ℕ) → length ram ≤ 0xA0000 → IsMap (map_of ram rom)
unfolding map_of
is_map ram rom low = record { bytes = cell_count ram rom; ram = low }

-- a map with these cells is laid out so
pub laid_out : (ram rom cells : List ℕ) → length cells ≡ 1048576 → ((a : ℕ) → a < 1048576 → slice_index cells a ≡ cell_of ram rom a)
    → (record { ram_size = length ram; cells = cells }) ≡ map_of ram rom
unfolding map_of address_count
laid_out ram rom cells count each =
    ap (λ (cells : List ℕ). record { ram_size = length ram; cells = cells }) (fill_by_all (cell_of ram rom) cells address_count 0 count each)

-- another byte of RAM
ram_other : (ram rom : List ℕ) (s b a : ℕ) → s < length ram → length ram ≤ 0xA0000 → a ≢ s → cell_of (slice_set ram s b) rom a ≡ cell_of ram rom a
ram_other ram rom s b a within low other =
    ap (λ n. cell_in (region_of n a) (slice_set ram s b) rom a) (length-set ram s b)
    ∙ by_region (region_of (length ram) a)
  where
    by_region : (region : Region) → cell_in region (slice_set ram s b) rom a ≡ cell_in region ram rom a
    by_region Ram = get_or-set_other ram s a b 0 other
    by_region Text = refl
    by_region Rom = refl
    by_region Nothing = refl

pub ram_set : (ram rom : List ℕ) (s b : ℕ) → s < length ram → length ram ≤ 0xA0000
    → map_of (slice_set ram s b) rom ≡ record (map_of ram rom) { cells = slice_set (map_of ram rom).cells s b }
unfolding map_of
ram_set ram rom s b within low =
    sym (laid_out (slice_set ram s b) rom (slice_set (map_of ram rom).cells s b) (length-set (map_of ram rom).cells s b ∙ cell_count ram rom)
    (λ a below. elim (cases_eq a s) [
      | inl is ↦ rw is (get_or-set_same (map_of ram rom).cells s b 0 (omega (arith, within, low, cell_count ram rom))
          ∙ sym (ram_read (slice_set ram s b) rom s (omega (arith, within, length-set ram s b)) ∙ get_or-set_same ram s b 0 within))
      | inr ne ↦ get_or-set_other (map_of ram rom).cells s a b 0 ne ∙ cell_read ram rom a below ∙ sym (ram_other ram rom s b a within low ne)
    ]))
    ∙ ap (λ n. record { ram_size = n; cells = slice_set (map_of ram rom).cells s b }) (length-set ram s b)

-- another byte of the ROM
rom_other : (ram rom : List ℕ) (s b a : ℕ) → 0xF0000 ≤ s → length ram ≤ 0xA0000 → a ≢ s
    → cell_of ram (slice_set rom (s - 0xF0000) b) a ≡ cell_of ram rom a
rom_other ram rom s b a from low other = elim (cases_lt a 0xF0000) [
  | inl below ↦ grind (arith, nat_tests)
  | inr high ↦
      rom_read ram (slice_set rom (s - 0xF0000) b) a low (omega arith)
      ∙ get_or-set_other rom (s - 0xF0000) (a - 0xF0000) b 0 (λ same. other (omega (arith, same, from, high)))
      ∙ sym (rom_read ram rom a low (omega arith))
]

pub rom_set : (ram rom : List ℕ) (s b : ℕ) → 0xF0000 ≤ s → s < 2 ^ 20 → length ram ≤ 0xA0000 → length rom ≡ 65536
    → map_of ram (slice_set rom (s - 0xF0000) b) ≡ record (map_of ram rom) { cells = slice_set (map_of ram rom).cells s b }
unfolding map_of
rom_set ram rom s b from within low size =
    sym (laid_out ram (slice_set rom (s - 0xF0000) b) (slice_set (map_of ram rom).cells s b)
    (length-set (map_of ram rom).cells s b ∙ cell_count ram rom)
    (λ a below. elim (cases_eq a s) [
      | inl is ↦ rw is (get_or-set_same (map_of ram rom).cells s b 0 (omega (arith, within, cell_count ram rom))
          ∙ sym (rom_read ram (slice_set rom (s - 0xF0000) b) s low from
          ∙ get_or-set_same rom (s - 0xF0000) b 0 (omega (arith, from, within, size))))
      | inr ne ↦ get_or-set_other (map_of ram rom).cells s a b 0 ne ∙ cell_read ram rom a below ∙ sym (rom_other ram rom s b a from low ne)
    ]))

-- the byte of an address
answered : (region : Region) (ram rom : List ℕ) (a : ℕ) → byte_answered region (cell_in region ram rom a) ≡ cell_in region ram rom a
answered Ram ram rom a = refl
answered Text ram rom a = refl
answered Rom ram rom a = refl
answered Nothing ram rom a = refl

pub byte_laid : (ram rom : List ℕ) (a : ℕ) → a < 2 ^ 20 → byte_at (map_of ram rom) a ≡ cell_of ram rom a
unfolding byte_at map_of
byte_laid ram rom a within =
    ap (byte_answered (region_of (length ram) a)) (cell_read ram rom a within) ∙ answered (region_of (length ram) a) ram rom a

-- a write to RAM
pub writable_ram : (ram rom : List ℕ) (a : ℕ) → a < length ram → length ram ≤ 0xA0000 → is_writable (map_of ram rom) a ≡ true
unfolding is_writable map_of
writable_ram ram rom a within low =
    let count = cell_count ram rom in
    ap (λ region. is_ram region && nat_lt a (length (map_of ram rom).cells)) (ram_there (length ram) a within)
    ∙ grind (arith, nat_tests)

pub ram_written : (ram rom : List ℕ) (a b : ℕ) → a < length ram → length ram ≤ 0xA0000
    → map_of (slice_set ram a b) rom ≡ with_byte (map_of ram rom) a b
unfolding with_byte
ram_written ram rom a b within low =
    ram_set ram rom a b within low
    ∙ sym (ap (λ (w : Bool). if w then record (map_of ram rom) { cells = slice_set (map_of ram rom).cells a b } else map_of ram rom)
    (writable_ram ram rom a within low))

pub write_lost : (ram rom : List ℕ) (a b : ℕ) → length ram ≤ a → with_byte (map_of ram rom) a b ≡ map_of ram rom
unfolding with_byte is_writable map_of
write_lost ram rom a b above = grind (arith, nat_tests)

pub lost_above : (memory : MemoryMap) (a b : ℕ) → (a < memory.ram_size → ⊥) → memory ≡ with_byte memory a b
unfolding with_byte is_writable
lost_above memory a b above = grind (arith, nat_tests)

between : (ram_size a : ℕ) → ram_size ≤ a → a < 0xF0000 → (region_of ram_size a ≡ Text) ⊎ (region_of ram_size a ≡ Nothing)
between ram_size a above below = elim (cases_lt a 0xB0000) [
  | inl low ↦ inr (grind (arith, nat_tests))
  | inr high ↦ elim (cases_lt a 0xB1000) [
    | inl text ↦ inl (grind (arith, nat_tests))
    | inr past ↦ inr (grind (arith, nat_tests))
  ]
]

in_rom_of : (ram_size a : ℕ) → ram_size ≤ a → 0xF0000 ≤ a → region_of ram_size a ≡ Rom
in_rom_of ram_size a above high = grind (arith, nat_tests)

-- a byte that is read in its region
pub read_laid : (ram rom : List ℕ) (a : ℕ) (region : Region) → a < 2 ^ 20 → region_of (length ram) a ≡ region
    → byte_at (map_of ram rom) a ≡ cell_in region ram rom a
read_laid ram rom a region within there = byte_laid ram rom a within ∙ ap (λ r. cell_in r ram rom a) there

pub within_ram : (ram_size a : ℕ) → region_of ram_size a ≡ Ram → a < ram_size
within_ram ram_size a there = elim (cases_lt a ram_size) [
  | inl below ↦ below
  | inr above ↦ elim (cases_lt a 0xF0000) [
    | inl low ↦ elim (between ram_size a (omega arith) low) [
      | inl text ↦ absurd (let never : Text ≡ Ram = sym text ∙ there in cc)
      | inr nothing ↦ absurd (let never : Nothing ≡ Ram = sym nothing ∙ there in cc)
    ]
    | inr high ↦ absurd (let never : Rom ≡ Ram = sym (in_rom_of ram_size a (omega arith) (omega arith)) ∙ there in cc)
  ]
]

pub within_rom : (ram_size a : ℕ) → region_of ram_size a ≡ Rom → 0xF0000 ≤ a
within_rom ram_size a there = elim (cases_lt a 0xF0000) [
  | inl low ↦ elim (cases_lt a ram_size) [
    | inl ram ↦ absurd (let never : Ram ≡ Rom = sym (ram_there ram_size a ram) ∙ there in cc)
    | inr above ↦ elim (between ram_size a (omega arith) low) [
      | inl text ↦ absurd (let never : Text ≡ Rom = sym text ∙ there in cc)
      | inr nothing ↦ absurd (let never : Nothing ≡ Rom = sym nothing ∙ there in cc)
    ]
  ]
  | inr high ↦ omega arith
]

-- a byte that a session puts
by_test : (memory : MemoryMap) (a b : ℕ) (has : Bool) → (nat_lt a memory.ram_size || nat_le 0xF0000 a) ≡ has
    → with_cell memory a b ≡ (if has then record memory { cells = slice_set memory.cells a b } else memory)
unfolding with_cell
by_test memory a b has is = ap (λ (h : Bool). if h then record memory { cells = slice_set memory.cells a b } else memory) is

pub put_in_ram : (ram rom : List ℕ) (a b : ℕ) → a < length ram → length ram ≤ 0xA0000
    → map_of (slice_set ram a b) rom ≡ with_cell (map_of ram rom) a b
put_in_ram ram rom a b within low =
    let size = size_laid ram rom in
    ram_set ram rom a b within low ∙ sym (by_test (map_of ram rom) a b true (grind (arith, nat_tests)))

pub put_in_rom : (ram rom : List ℕ) (a b : ℕ) → 0xF0000 ≤ a → a < 2 ^ 20 → length ram ≤ 0xA0000 → length rom ≡ 65536
    → map_of ram (slice_set rom (a - 0xF0000) b) ≡ with_cell (map_of ram rom) a b
put_in_rom ram rom a b from within low size =
    let laid = size_laid ram rom in
    rom_set ram rom a b from within low size ∙ sym (by_test (map_of ram rom) a b true (grind (arith, nat_tests)))

pub put_nowhere : (memory : MemoryMap) (a b : ℕ) → memory.ram_size ≤ a → a < 0xF0000 → memory ≡ with_cell memory a b
put_nowhere memory a b above below = sym (by_test memory a b false (grind (arith, nat_tests)))

-- power-on
at_power_on : (image : List (ℕ × ℕ)) (ram rom : List ℕ) (a : ℕ) → length ram ≤ 0xA0000 → a < 1048576
    → ((at : ℕ) → at < length ram → slice_index ram at ≡ unwrap_or (image_byte image at) 0)
    → ((at : ℕ) → at < 65536 → slice_index rom at ≡ unwrap_or (image_byte image (0xF0000 + at)) 0xFF)
    → cell_of ram rom a ≡ power_on_byte image (length ram) a
at_power_on image ram rom a low within in_ram in_rom = elim (cases_lt a (length ram)) [
  | inl is_ram ↦
      ram_read ram rom a is_ram ∙ in_ram a is_ram ∙ sym (ap (λ region. byte_of_region region (image_byte image a)) (ram_there (length ram) a is_ram))
  | inr not_ram ↦ elim (cases_lt a 0xF0000) [
    | inl below ↦ elim (between (length ram) a (omega arith) below) [
      | inl text ↦ ap (λ region. cell_in region ram rom a) text ∙ sym (ap (λ region. byte_of_region region (image_byte image a)) text)
      | inr nothing ↦ ap (λ region. cell_in region ram rom a) nothing ∙ sym (ap (λ region. byte_of_region region (image_byte image a)) nothing)
    ]
    | inr above ↦
        let at : 0xF0000 + (a - 0xF0000) ≡ a = omega (arith, above) in
        rom_read ram rom a low (omega arith) ∙ in_rom (a - 0xF0000) (omega arith) ∙ ap (λ x. unwrap_or (image_byte image x) 0xFF) at
        ∙ sym (ap (λ region. byte_of_region region (image_byte image a)) (rom_there (length ram) a low (omega arith)))
  ]
]

count_of : address_count ≡ 1048576
unfolding address_count
count_of = refl

pub power_on_laid : (image : List (ℕ × ℕ)) (ram rom : List ℕ) → length ram ≤ 0xA0000
    → ((at : ℕ) → at < length ram → slice_index ram at ≡ unwrap_or (image_byte image at) 0)
    → ((at : ℕ) → at < 65536 → slice_index rom at ≡ unwrap_or (image_byte image (0xF0000 + at)) 0xFF)
    → map_of ram rom ≡ power_on image (length ram)
unfolding power_on
power_on_laid image ram rom low in_ram in_rom =
    sym (laid_out ram rom (power_on image (length ram)).cells (length-map-range_with_len (power_on_byte image (length ram)) 0 address_count ∙ count_of)
    (λ a within. get_or-map-range_with_len (power_on_byte image (length ram)) 0 address_count a a 0 (subst (λ n. a < n) (sym count_of) within) (omega arith)
    ∙ sym (at_power_on image ram rom a low within in_ram in_rom)))
