-- A source gives one image.
use Rattle.std.proofs.Common.{◌≡◌, ℕ, List, [], refl, sym, subst, Option, None, Some}
use Rattle.board_types.specs.Image.{image_byte}
use Rattle.board_types.proofs.ImageBytes.{same_bytes}
use Rattle.board_types.specs.TextLines.{text_lines}
use Rattle.assembler.specs.Gives.{ArePlaced, Gives}
use Rattle.assembler.specs.LocatedLines.{LocatedLine}
use Rattle.assembler.proofs.AnsweringLines.{one_lines}

-- two searches that find the same byte whenever one finds any are equal, also if they find none
found_same : (x y : Option ℕ) → ((byte : ℕ) → x ≡ Some byte → y ≡ Some byte) → ((byte : ℕ) → y ≡ Some byte → x ≡ Some byte) → x ≡ y
found_same None None there back = refl
found_same None (Some b) there back = back b refl
found_same (Some a) y there back = sym (there a refl)

-- rows place one image
one_placed : (located_lines : List LocatedLine) (a b : List (ℕ × ℕ)) → ArePlaced located_lines a → ArePlaced located_lines b → a ≡ b
one_placed located_lines a b is also =
    same_bytes a b is.is_image.rising also.is_image.rising
    (λ address. found_same (image_byte a address) (image_byte b address)
    (λ byte at. (also.bytes address byte).1 ((is.bytes address byte).0 at))
    (λ byte at. (is.bytes address byte).1 ((also.bytes address byte).0 at)))

pub one_image : (source : List ℕ) (a b : List (ℕ × ℕ)) → Gives source a → Gives source b → b ≡ a
one_image source a b is also =
    one_placed is.located_lines b a
    (subst (λ (located_lines : List LocatedLine). ArePlaced located_lines b)
    (one_lines [] (text_lines source) also.located_lines is.located_lines also.are_located_lines is.are_located_lines) also.placed)
    is.placed
