-- What an image holds after bytes are put into it.
use Rattle.std.proofs.Common.{◌≡◌, ◌∙◌, ℕ, ◌==◌, List, [], ◌∷◌, refl, ap, Bool, true, false, Option, None, Some, if◌then◌else◌}
use Rattle.std.specs.Ordering.{nat_cmp}
use Rattle.std.specs.BTreeMap.{insert_entry}
use Rattle.std.specs.List.Sorted.{IsStrictlySortedBy}
use Rattle.std.specs.Map.{keys_of}
use Rattle.board_types.specs.Image.{image_byte}
use Rattle.board_types.proofs.ImageBytes.{byte_put, sorted_put}
use Rattle.loader.specs.Laws.{last_byte, later_or, LaterBytesWin}
use Rattle.loader.specs.Records.{with_bytes}

later_first : (later here before : Option ℕ) → later_or later (later_or here before) ≡ later_or (later_or later here) before
later_first (Some b) here before = refl
later_first None here before = refl

test_later : (t : Bool) (v : ℕ) (before : Option ℕ) → (if t then Some v else before) ≡ later_or (if t then Some v else None) before
test_later true v before = refl
test_later false v before = refl

pub later_bytes_win : LaterBytesWin
later_bytes_win image [] a = refl
later_bytes_win image (byte ∷ bytes) a =
    later_bytes_win (insert_entry nat_cmp image byte.0 byte.1) bytes a
    ∙ ap (later_or (last_byte bytes a)) (byte_put byte.0 byte.1 a image ∙ test_later (byte.0 == a) byte.1 (image_byte image a))
    ∙ later_first (last_byte bytes a) (if byte.0 == a then Some byte.1 else None) (image_byte image a)

-- bytes that are put into an image leave its addresses rising
pub sorted_with : (held bytes : List (ℕ × ℕ)) → IsStrictlySortedBy nat_cmp (keys_of held) → IsStrictlySortedBy nat_cmp (keys_of (with_bytes held bytes))
sorted_with held [] s = s
sorted_with held (byte ∷ bytes) s = sorted_with (insert_entry nat_cmp held byte.0 byte.1) bytes (sorted_put byte.0 byte.1 held s)
