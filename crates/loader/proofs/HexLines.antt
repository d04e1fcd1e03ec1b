-- The line of a record, byte by byte.
use Rattle.std.proofs.Common.{◌≡◌, ◌∙◌, ℕ, ◌+◌, ◌<◌, ◌≤◌, arith, get_or, suc, List, [], ◌∷◌, ◌++◌, append_assoc, append-nil, ap, codes, drop, length, refl, sym}
use Rattle.std.proofs.Math.Seq.{drop-cons}
use Rattle.std.proofs.lemmas.List.{drop_all}
use Rattle.hex.specs.Hex.{encode_upper, encode_with}
use Rattle.loader.specs.HexText.{checksum, record_line}

pub byte_more : (old new : List ℕ) (b : ℕ) (rest : List ℕ) → new ≡ old ++ encode_upper (b ∷ []) → new ++ encode_upper rest ≡ old ++ encode_upper (b ∷ rest)
unfolding encode_with
byte_more old new b rest pushed = rw pushed (append_assoc old (encode_upper (b ∷ [])) (encode_upper rest))

nothing : encode_upper [] ≡ []
unfolding encode_with
nothing = refl

pub line_whole : (old text summed last bytes : List ℕ) (i : ℕ) → length bytes ≤ i
    → text ++ encode_upper (drop i bytes) ≡ old ++ (codes ":" ++ encode_upper bytes)
    → summed ≡ text ++ encode_upper (checksum bytes ∷ []) → last ≡ summed ++ 10 ∷ [] → last ≡ old ++ record_line bytes
unfolding record_line
line_whole old text summed last bytes i whole so_far sum_is last_is =
    let none : encode_upper (drop i bytes) ≡ [] = rw (drop_all i bytes whole) nothing in
    let begun : text ≡ old ++ (codes ":" ++ encode_upper bytes) = sym (append-nil text) ∙ ap (λ r. text ++ r) (sym none) ∙ so_far in
    rw (last_is, sum_is, begun)
    (append_assoc (old ++ (codes ":" ++ encode_upper bytes)) (encode_upper (checksum bytes ∷ [])) (10 ∷ [])
    ∙ append_assoc old (codes ":" ++ encode_upper bytes) (encode_upper (checksum bytes ∷ []) ++ 10 ∷ [])
    ∙ ap (λ r. old ++ r) (append_assoc (codes ":") (encode_upper bytes) (encode_upper (checksum bytes ∷ []) ++ 10 ∷ [])))

pub next_byte : (bytes : List ℕ) (i : ℕ) → i < length bytes → drop i bytes ≡ get_or bytes i 0 ∷ drop (i + 1) bytes
next_byte bytes i within = let one : i + 1 ≡ suc i = omega arith in rw one (drop-cons bytes i 0 within)
