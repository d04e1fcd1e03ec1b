-- What a memory has from a place on, if the bytes that a row places there are in it.
use Rattle.std.proofs.Common.{◌≡◌, ◌∙◌, ℕ, ◌+◌, ◌<◌, ◌≤◌, List, [], ◌∷◌, length, take, map, All, Contains, refl, ap, arith}
use Rattle.std.specs.List.{range_with_len}
use Rattle.std.proofs.lemmas.List.FromFn.{length-map-range_with_len, take-map-range_with_len}
use Rattle.std.proofs.lemmas.List.Elements.{All-map, Contains-append_right}
use Rattle.board_types.specs.Address.{offset_after, physical}
use Rattle.decode.specs.Decoding.{code_at, longest_instruction}
use Rattle.assembler_meaning.specs.declared.symbol.Location.{Location}
use Rattle.assembler.specs.Placement.{address_after, bytes_from}

stays_within : (offset n : ℕ) → offset + n < 65536 → offset_after offset n ≡ offset + n
stays_within offset n within = omega arith

abbrev byte_after : (ℕ → ℕ) → Location → ℕ → ℕ
byte_after byte location n = byte (physical location.segment (offset_after location.offset n))

loaded_from : (byte : ℕ → ℕ) (location : Location) (n : ℕ) (bytes : List ℕ) → location.offset + n + length bytes ≤ 65536
    → ((address b : ℕ) → Contains (bytes_from location n bytes) (address, b) → byte address ≡ b)
    → map (byte_after byte location) (range_with_len n (length bytes)) ≡ bytes
loaded_from byte location n [] within each = refl
loaded_from byte location n (b ∷ bs) within each =
    let here : byte_after byte location n ≡ b =
    ap (λ offset. byte (physical location.segment offset)) (stays_within location.offset n (omega (arith, within)))
    ∙ each (address_after location n) b (0, omega arith, refl) in
    let following = loaded_from byte location (n + 1) bs (omega (arith, within))
    (λ address c there. each address c (Contains-append_right ((address_after location n, b) ∷ []) (bytes_from location (n + 1) bs) (address, c) there)) in
    ap (λ c. c ∷ map (byte_after byte location) (range_with_len (n + 1) (length bs))) here ∙ ap (λ cs. b ∷ cs) following

-- decoding sees these bytes first
pub seen_first : (byte : ℕ → ℕ) (location : Location) (bytes : List ℕ) → length bytes ≤ longest_instruction → location.offset + length bytes ≤ 65536
    → ((address b : ℕ) → Contains (bytes_from location 0 bytes) (address, b) → byte address ≡ b)
    → take (length bytes) (code_at byte location.segment location.offset) ≡ bytes
seen_first byte location bytes few within each =
    take-map-range_with_len (byte_after byte location) 0 longest_instruction (length bytes) few
    ∙ loaded_from byte location 0 bytes (omega (arith, within)) each

pub seen_long : (byte : ℕ → ℕ) (location : Location) → longest_instruction ≤ length (code_at byte location.segment location.offset)
seen_long byte location = let is = length-map-range_with_len (byte_after byte location) 0 longest_instruction in omega (arith, is)

mapped_small : (f : ℕ → ℕ) (xs : List ℕ) → ((x : ℕ) → f x < 256) → All (λ b. b < 256) (map f xs)
mapped_small f xs each = All-map (λ b. b < 256) f xs (λ k d within. each _)

pub seen_bytes : (byte : ℕ → ℕ) (location : Location) → ((address : ℕ) → byte address < 256)
    → All (λ b. b < 256) (code_at byte location.segment location.offset)
seen_bytes byte location each =
    mapped_small (byte_after byte location) (range_with_len 0 longest_instruction) (λ k. each (physical location.segment (offset_after location.offset k)))
