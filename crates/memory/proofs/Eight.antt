-- Eight bytes that adjoin.
use Rattle.std.proofs.Common.{◌≡◌, ◌∙◌, ℕ, ◌+◌, ◌-◌, ◌<◌, ◌≤◌, ◌^◌, List, [], ◌∷◌, length, map, sym, ap, arith}
use Rattle.std.specs.List.{range_with_len}
use Rattle.std.specs.Prelude.{slice_index}
use Rattle.memory.specs.Map.{byte_at}
use Rattle.memory.specs.MapLayout.{map_of}
use Rattle.memory.proofs.RamRom.{byte_laid, ram_read, rom_read}

pub eight_same : (f g : ℕ → ℕ) → ((k : ℕ) → k < 8 → f k ≡ g k) → map f (range_with_len 0 8) ≡ map g (range_with_len 0 8)
eight_same f g same = λ i.
    same 0 (omega arith) i ∷ same 1 (omega arith) i ∷ same 2 (omega arith) i ∷ same 3 (omega arith) i
    ∷ same 4 (omega arith) i ∷ same 5 (omega arith) i ∷ same 6 (omega arith) i ∷ same 7 (omega arith) i ∷ []

pub ram_bytes : (ram rom : List ℕ) (a : ℕ) → length ram ≤ 0xA0000 → a + 8 ≤ length ram
    → map (λ k. slice_index ram (a + k)) (range_with_len 0 8) ≡ map (λ k. byte_at (map_of ram rom) (a + k)) (range_with_len 0 8)
ram_bytes ram rom a low inside =
    eight_same (λ k. slice_index ram (a + k)) (λ k. byte_at (map_of ram rom) (a + k))
    (λ k few. sym (byte_laid ram rom (a + k) (omega (arith, low, inside, few)) ∙ ram_read ram rom (a + k) (omega (arith, inside, few))))

pub rom_bytes : (ram rom : List ℕ) (a : ℕ) → length ram ≤ 0xA0000 → 0xF0000 ≤ a → a + 8 ≤ 2 ^ 20
    → map (λ k. slice_index rom (a - 0xF0000 + k)) (range_with_len 0 8) ≡ map (λ k. byte_at (map_of ram rom) (a + k)) (range_with_len 0 8)
rom_bytes ram rom a low from inside =
    eight_same (λ k. slice_index rom (a - 0xF0000 + k)) (λ k. byte_at (map_of ram rom) (a + k))
    (λ k few. sym (byte_laid ram rom (a + k) (omega (arith, inside, few)) ∙ rom_read ram rom (a + k) low (omega (arith, from))
    ∙ ap (slice_index rom) (omega (arith, from))))
