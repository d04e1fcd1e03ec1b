-- The image's bytes, put one after another into the bytes of RAM or of the ROM.
use Rattle.std.proofs.Common.{◌≡◌, ◌≢◌, ◌∙◌, ◌+◌, ◌<◌, ◌≤◌, ◌==◌, ℕ, List, [], ◌∷◌, All, false, if◌then◌else◌}
use Rattle.std.proofs.Common.{None, Some, inl, inr, length, slice_index, sym, ap, refl, unwrap_or, arith}
use Rattle.std.proofs.lemmas.Bool.{cases_eq}
use Rattle.std.proofs.lemmas.Bool.Decides.{nat_tests}
use Rattle.std.proofs.lemmas.List.Elements.{All-get_or, All-tail}
use Rattle.board_types.specs.Image.{image_byte}
use Rattle.board_types.proofs.ImageBytes.{first_byte}
use Rattle.memory.specs.Map.{FitsRam}

-- all bytes of the image but the rest stand in these bytes, which begin at an address
pub record Laid (image rest : List (ℕ × ℕ)) (start : ℕ) (before bytes : List ℕ) : Type 0 where
  pub size : length bytes ≡ length before
  pub found : All (λ e. image_byte image e.0 ≡ Some e.1) rest
  pub laid : (at : ℕ) → at < length before → image_byte rest (start + at) ≡ None
      → slice_index bytes at ≡ unwrap_or (image_byte image (start + at)) (slice_index before at)

pub laid_first : (image : List (ℕ × ℕ)) (start : ℕ) (before : List ℕ) → All (λ e. image_byte image e.0 ≡ Some e.1) image
    → Laid image image start before before
laid_first image start before found = record {
  size = refl;
  found = found;
  laid = λ at within none. rw none refl;
}

later_byte : (a : ℕ) (e : ℕ × ℕ) (es : List (ℕ × ℕ)) → a ≢ e.0 → image_byte (e ∷ es) a ≡ image_byte es a
later_byte a e es other =
    let apart : (e.0 == a) ≡ false = grind (arith, nat_tests) in
    first_byte a e es ∙ ap (λ t. if t then Some e.1 else image_byte es a) apart

pub laid_more : (image rest : List (ℕ × ℕ)) (start : ℕ) (before bytes after : List ℕ) (e : ℕ × ℕ) → Laid image (e ∷ rest) start before bytes
    → length after ≡ length bytes → ((at : ℕ) → at < length bytes → start + at ≡ e.0 → slice_index after at ≡ e.1)
    → ((at : ℕ) → start + at ≢ e.0 → slice_index after at ≡ slice_index bytes at) → Laid image rest start before after
laid_more image rest start before bytes after e l count there others =
    let here : image_byte image e.0 ≡ Some e.1 = All-get_or (λ e. image_byte image e.0 ≡ Some e.1) (e ∷ rest) 0 e (omega arith) l.found in
    record {
      size = count ∙ l.size;
      found = All-tail (λ e. image_byte image e.0 ≡ Some e.1) e rest l.found;
      laid = λ at within none. elim (cases_eq (start + at) e.0) [
        | inl is ↦ there at (omega (arith, within, l.size)) is ∙ sym (ap (λ x. unwrap_or x (slice_index before at)) (ap (image_byte image) is ∙ here))
        | inr ne ↦ others at ne ∙ l.laid at within (later_byte (start + at) e rest ne ∙ none)
      ];
    }

-- no byte of the image but those of the rest lies between the RAM's end and A0000h
pub record Passed (image : List (ℕ × ℕ)) (ram_size : ℕ) (rest : List (ℕ × ℕ)) : Type 0 where
  pub found : All (λ e. image_byte image e.0 ≡ Some e.1) rest
  pub passed : (a : ℕ) → ram_size ≤ a → a < 0xA0000 → image_byte rest a ≡ None → image_byte image a ≡ None

pub passed_more : (image rest : List (ℕ × ℕ)) (ram_size : ℕ) (e : ℕ × ℕ)
    → Passed image ram_size (e ∷ rest) → (ram_size ≤ e.0 → e.0 < 0xA0000 → ⊥) → Passed image ram_size rest
passed_more image rest ram_size e p outside = record {
  found = All-tail (λ e. image_byte image e.0 ≡ Some e.1) e rest p.found;
  passed = λ a from below none. p.passed a from below (later_byte a e rest (λ same. outside (omega arith) (omega arith)) ∙ none);
}

pub unfit : (image rest : List (ℕ × ℕ)) (ram_size : ℕ) (e : ℕ × ℕ)
    → Passed image ram_size (e ∷ rest) → ram_size ≤ e.0 → e.0 < 0xA0000 → FitsRam image ram_size → ⊥
unfit image rest ram_size e p from below fits =
    let here : image_byte image e.0 ≡ Some e.1 = All-get_or (λ e. image_byte image e.0 ≡ Some e.1) (e ∷ rest) 0 e (omega arith) p.found in
    (rw here at (fits e.0 from below)) refl

pub fits_at_end : (image : List (ℕ × ℕ)) (ram_size : ℕ) → Passed image ram_size [] → FitsRam image ram_size
fits_at_end image ram_size p = λ a from below. rw (p.passed a from below refl) (λ never. cc)
