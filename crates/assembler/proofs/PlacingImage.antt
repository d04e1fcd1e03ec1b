-- What an image holds after bytes are put into it.
use Rattle.std.proofs.Common.{suc, ◌+◌, drop, get_or, length, ◌≡◌, ◌∙◌, ℕ, ◌<◌, ◌≤◌, ◌==◌, ◌||◌, List, [], ◌∷◌}
use Rattle.std.proofs.Common.{refl, sym, ap, arith, Bool, true, false, Option, None, Some, is_some, if◌then◌else◌}
use Rattle.std.specs.Prelude.{Contains, ◌↔◌}
use Rattle.std.specs.Ordering.{nat_cmp}
use Rattle.std.specs.BTreeMap.{insert_entry}
use Rattle.std.specs.List.{AllByRecursion, IsDistinct}
use Rattle.std.specs.Map.{keys_of, lookup}
use Rattle.std.proofs.lemmas.Bool.{eqb-true}
use Rattle.std.proofs.lemmas.Bool.Decides.{nat_tests}
use Rattle.std.proofs.Math.Seq.{drop-cons}
use Rattle.std.proofs.lemmas.List.{drop_all}
use Rattle.std.proofs.lemmas.Cmp.{nat_eq_equiv}
use Rattle.std.proofs.lemmas.Map.Keys.{IsDistinct-head, IsDistinct-tail}
use Rattle.std.proofs.lemmas.Map.Views.{Contains-from_lookup, lookup-from_Contains}
use Rattle.board_types.specs.Image.{IsImage, IsLoadable, image_byte}
use Rattle.board_types.proofs.ImageBytes.{byte_put, sorted_put}
use Rattle.board_types.proofs.Images.{image_put}
use Rattle.assembler_meaning.specs.declared.symbol.Location.{Location}
use Rattle.assembler.specs.Placement.{address_after, bytes_from, is_placed}
use Rattle.assembler.specs.SecondPass.{has_byte, with_entries}

-- an image with one more byte is an image
pub still_image : (image : List (ℕ × ℕ)) (address byte : ℕ) → IsImage image → IsLoadable address → byte < 256
    → IsImage (insert_entry nat_cmp image address byte)
still_image image address byte whole loadable small =
    image_put image (insert_entry nat_cmp image address byte) address byte refl (sorted_put address byte image whole.rising) whole loadable small

-- the addresses that have a byte
byte_or : (t r : Bool) (v : ℕ) (o : Option ℕ) → (r || is_some (if t then Some v else o)) ≡ ((t || r) || is_some o)
byte_or true true v o = refl
byte_or true false v o = refl
byte_or false true v o = refl
byte_or false false v o = refl

has_byte_with : (image placed : List (ℕ × ℕ)) (a : ℕ) → has_byte (with_entries image placed) a ≡ (is_placed placed a || has_byte image a)
has_byte_with image [] a = refl
has_byte_with image (e ∷ es) a =
    has_byte_with (insert_entry nat_cmp image e.0 e.1) es a
    ∙ ap (λ (o : Option ℕ). is_placed es a || is_some o) (byte_put e.0 e.1 a image)
    ∙ byte_or (e.0 == a) (is_placed es a) e.1 (image_byte image a)

or_not : (b : Bool) → (b || false) ≡ b
or_not true = refl
or_not false = refl

-- a taken address is a placed one
pub taken_is : (placed : List (ℕ × ℕ)) → has_byte (with_entries [] placed) ≡ is_placed placed
taken_is placed = λ i a. (has_byte_with [] placed a ∙ or_not (is_placed placed a)) i

-- the bytes
abbrev pub found : List (ℕ × ℕ) → ℕ → Option ℕ
found placed a = lookup (λ k. a == k) placed

abbrev pub or_else : Option ℕ → Option ℕ → Option ℕ
or_else None o = o
or_else (Some b) o = Some b

flipped : (a b : ℕ) → (a == b) ≡ (b == a)
flipped a b = grind (arith, nat_tests)

found_none : (a : ℕ) (es : List (ℕ × ℕ)) → AllByRecursion (λ k. (a == k) ≡ false) (keys_of es) → found es a ≡ None
found_none a [] other = refl
found_none a (e ∷ es) other = rw other.0 (found_none a es other.1)

found_first : (a : ℕ) (e : ℕ × ℕ) (es : List (ℕ × ℕ)) (o : Option ℕ) (t : Bool) → (a == e.0) ≡ t → (t ≡ true → found es a ≡ None)
    → or_else (found es a) (if t then Some e.1 else o) ≡ or_else (if t then Some e.1 else found es a) o
found_first a e es o true is none = ap (λ (f : Option ℕ). or_else f (Some e.1)) (none refl)
found_first a e es o false is none = refl

bytes_with : (image placed : List (ℕ × ℕ)) (a : ℕ) → IsDistinct (λ x y. x == y) (keys_of placed)
    → image_byte (with_entries image placed) a ≡ or_else (found placed a) (image_byte image a)
bytes_with image [] a distinct = refl
bytes_with image (e ∷ es) a distinct =
    bytes_with (insert_entry nat_cmp image e.0 e.1) es a (IsDistinct-tail (λ x y. x == y) e.0 (keys_of es) distinct)
    ∙ ap (or_else (found es a)) (byte_put e.0 e.1 a image ∙ ap (λ (t : Bool). if t then Some e.1 else image_byte image a) (flipped e.0 a))
    ∙ found_first a e es (image_byte image a) (a == e.0) refl
    (λ same. found_none a es (rw (sym (eqb-true a e.0 same)) at (IsDistinct-head (λ x y. x == y) e.0 (keys_of es) distinct)))

or_nothing : (o : Option ℕ) → or_else o None ≡ o
or_nothing None = refl
or_nothing (Some b) = refl

-- if addresses are distinct, each has its byte
pub bytes_are : (placed : List (ℕ × ℕ)) → IsDistinct (λ x y. x == y) (keys_of placed)
    → (address byte : ℕ) → (image_byte (with_entries [] placed) address ≡ Some byte) ↔ Contains placed (address, byte)
bytes_are placed distinct address byte =
    let is : image_byte (with_entries [] placed) address ≡ found placed address = bytes_with [] placed address distinct ∙ or_nothing (found placed address) in (
      λ some. Contains-from_lookup (λ x y. eqb-true x y) address byte placed (sym is ∙ some),
      λ has. is ∙ lookup-from_Contains nat_eq_equiv address byte placed distinct has,
    )

-- byte by byte
pub next_byte : (bytes : List ℕ) (i : ℕ) → i < length bytes → drop i bytes ≡ get_or bytes i 0 ∷ drop (i + 1) bytes
next_byte bytes i within = let one : i + 1 ≡ suc i = omega arith in rw one (drop-cons bytes i 0 within)

pub put_next : (image new whole : List (ℕ × ℕ)) (location : Location) (bytes : List ℕ) (at i address : ℕ)
    → i < length bytes → address ≡ address_after location at → new ≡ insert_entry nat_cmp image address (get_or bytes i 0)
    → with_entries image (bytes_from location at (drop i bytes)) ≡ whole → with_entries new (bytes_from location (at + 1) (drop (i + 1) bytes)) ≡ whole
put_next image new whole location bytes at i address within is put held =
    ap (λ (im : List (ℕ × ℕ)). with_entries im (bytes_from location (at + 1) (drop (i + 1) bytes)))
    (put ∙ ap (λ (a : ℕ). insert_entry nat_cmp image a (get_or bytes i 0)) is)
    ∙ sym (ap (λ (bs : List ℕ). with_entries image (bytes_from location at bs)) (next_byte bytes i within)) ∙ held

pub no_byte : (bytes : List ℕ) (i : ℕ) → length bytes ≤ i → drop i bytes ≡ []
no_byte bytes i past = drop_all i bytes past
