-- An instruction without prefixes ends within the first six bytes, so that no others have a say in it.
use Rattle.std.proofs.Common.{◌≡◌, ℕ, ◌+◌, ◌<◌, ◌≤◌, Bool, true, nat_le, List, [], ◌∷◌, length, take, drop, Contains, None, Some, refl, sym, ap, ◌∙◌, arith}
use Rattle.std.proofs.lemmas.List.{get_or-take, take-take}
use Rattle.std.proofs.lemmas.Bool.{leb-true}
use Rattle.std.specs.Prelude.{slice_index}
use Rattle.std.specs.List.{list_all}
use Rattle.isa.specs.declared.layout.Second.{Second}
use Rattle.isa.specs.declared.layout.Second.TheVariants as seconds
use Rattle.isa.specs.declared.row.Row.{Row}
use Rattle.isa.specs.declared.form.Instr.{Instr}
use Rattle.isa.specs.Table.{rows}
use Rattle.isa.specs.Layout.{field_part, field_size, second_part, second_size}
use Rattle.isa.specs.Encoding.{displacement_field, form_length}
use Rattle.isa.specs.OpcodeBytes.{begins, row_at}
use Rattle.isa.proofs.Rows.{each}
use Rattle.decode.specs.declared.decoding.Decoding.{Decoding}
use Rattle.decode.specs.declared.decoding.Decoding.TheVariants.{Found, NoRow}
use Rattle.decode.specs.Decoding.{and_then, decoded_after, decoded_from, form_at, found_or_none, place_at, prefix_of, prefixes_at, size_of, IsDecoded, StandsIn}
use Rattle.decode.proofs.Exact.{complete}
use Rattle.decode.proofs.Lists.{find_within}
use Rattle.decode.proofs.Pieces.{displacement_few}

-- how many bytes an instruction of a row has at most
abbrev displacement_most : Second → ℕ
displacement_most (seconds.Addressing _ _) = 2
displacement_most _ = 0

abbrev is_short : Row → Bool
is_short r = nat_le (1 + second_size (second_part r) + displacement_most (second_part r) + field_size (field_part r)) 6

all_are_short : list_all is_short rows ≡ true
unfolding rows
all_are_short = refl

displacement_fits : (s : Second) (m : ℕ) → field_size (displacement_field (place_at s m)) ≤ displacement_most s
displacement_fits seconds.Absent m = omega arith
displacement_fits (seconds.Exactly _) m = omega arith
displacement_fits (seconds.Addressing part named) m = displacement_few (place_at (seconds.Addressing part named) m)

row_short : (r : Row) (b m : ℕ) → Contains rows r → form_length (form_at r b m) ≤ 6
unfolding form_length form_at
row_short r b m within =
    let most =
    leb-true (1 + second_size (second_part r) + displacement_most (second_part r) + field_size (field_part r)) 6 (each is_short rows r all_are_short within) in
    let fits = displacement_fits (second_part r) m in omega (arith, most, fits)

row_some : (r : Row) (b m : ℕ) → 0 < form_length (form_at r b m)
unfolding form_length
row_some r b m = omega arith

-- without prefixes the row's instruction is what stands there
no_prefixes : (bytes : List ℕ) → prefix_of (slice_index bytes 0) ≡ None → prefixes_at 7 bytes ≡ []
no_prefixes [] bare = refl
no_prefixes (b ∷ bs) bare = ap (λ o. and_then o (prefixes_at 6 bs)) bare

pub bare_from : (bytes : List ℕ) → prefix_of (slice_index bytes 0) ≡ None → decoded_from bytes ≡ decoded_after [] bytes
unfolding decoded_from
bare_from bytes bare = ap (λ ps. decoded_after ps (drop (length ps) bytes)) (no_prefixes bytes bare)

-- an instruction that ends within some first bytes stands in all bytes that begin with those
stands_again : (front bytes : List ℕ) (i : Instr) (size n : ℕ) → size ≤ n → take n front ≡ take n bytes → StandsIn front i size → StandsIn bytes i size
stands_again front bytes i size n within same stands = record {
  is_instr = stands.is_instr;
  length = stands.length;
  spelled =
      sym (take-take size n bytes within) ∙ ap (take size) (sym same) ∙ take-take size n front within
      ∙ stands.spelled;
}

-- an instruction that stands in the bytes is the only one that does
the_one : (bytes : List ℕ) (i : Instr) (size : ℕ) → StandsIn bytes i size → IsDecoded bytes (Found i size)
the_one bytes i size stands = record {
  stands = stands;
  alone = λ other count also.
      let one = complete bytes i size stands in
      let two = complete bytes other count also in
      let same_instr : other ≡ i = cc in
      let as_long : count ≡ size = cc in (same_instr, as_long);
}

short_stands : (front bytes : List ℕ) (d : Decoding) → 0 < size_of d → size_of d ≤ 6 → take 6 front ≡ take 6 bytes → IsDecoded front d → IsDecoded bytes d
short_stands front bytes (Found i size) some within same is =
    the_one bytes i size (stands_again front bytes i size 6 within same is.stands)
short_stands front bytes NoRow some within same is = absurd (omega arith)

short_from : (bytes : List ℕ) (d : Decoding) → 0 < size_of d → IsDecoded bytes d → d ≡ decoded_from bytes
short_from bytes (Found i size) some is = sym (complete bytes i size is.stands)
short_from bytes NoRow some is = absurd (omega arith)

bare_size : (bytes : List ℕ) (r : Row) (d : Decoding) → d ≡ found_or_none [] bytes (Some r)
    → size_of d ≡ form_length (form_at r (slice_index bytes 0) (slice_index bytes 1))
bare_size bytes r d found =
    let size : size_of d ≡ 0 + form_length (form_at r (slice_index bytes 0) (slice_index bytes 1)) = ap size_of found in omega (arith, size)

pub record Again (bytes : List ℕ) (d : Decoding) : Type 0 where
  pub value : d ≡ decoded_from bytes
  pub exact : IsDecoded bytes d

found_again : (front bytes : List ℕ) (r : Row) (d : Decoding) → take 6 front ≡ take 6 bytes
    → row_at (slice_index front 0) (slice_index front 1) ≡ Some r → d ≡ found_or_none [] front (Some r) → IsDecoded front d → Again bytes d
unfolding row_at
found_again front bytes r d same row found is =
    let b = slice_index front 0 in
    let m = slice_index front 1 in
    let size = bare_size front r d found in
    let some = row_some r b m in
    let few = row_short r b m (find_within (λ q. begins q b m) rows r row) in
    let again = short_stands front bytes d (omega (arith, size, some)) (omega (arith, size, few)) same is in
    record { value = short_from bytes d (omega (arith, size, some)) again; exact = again }

-- if no row fits, none fits the same bytes either
same_byte : (front bytes : List ℕ) (k : ℕ) → k < 6 → take 6 front ≡ take 6 bytes → slice_index front k ≡ slice_index bytes k
same_byte front bytes k within same =
    sym (get_or-take 6 front k 0 within) ∙ ap (λ xs. slice_index xs k) same ∙ get_or-take 6 bytes k 0 within

none_again : (front bytes : List ℕ) (d : Decoding) → take 6 front ≡ take 6 bytes → prefix_of (slice_index front 0) ≡ None
    → row_at (slice_index front 0) (slice_index front 1) ≡ None → d ≡ NoRow → Again bytes d
unfolding decoded_after
none_again front bytes d same bare row found =
    let first = same_byte front bytes 0 (omega arith) same in
    let second = same_byte front bytes 1 (omega arith) same in
    let from : decoded_from bytes ≡ NoRow =
    bare_from bytes (sym (ap prefix_of first) ∙ bare)
    ∙ ap (found_or_none [] bytes) (ap (λ b. row_at b (slice_index bytes 1)) (sym first) ∙ ap (row_at (slice_index front 0)) (sym second) ∙ row) in
    record {
      value = found ∙ sym from;
      exact = rw found (λ other n stands. let stood = complete bytes other n stands in absurd (cc));
    }

pub bare_again : (front bytes : List ℕ) (d : Decoding) → take 6 front ≡ take 6 bytes
    → prefix_of (slice_index front 0) ≡ None → d ≡ decoded_after [] front → IsDecoded front d → Again bytes d
unfolding decoded_after
bare_again front bytes d same bare found is =
    elim (row_at (slice_index front 0) (slice_index front 1))
    as (λ o. row_at (slice_index front 0) (slice_index front 1) ≡ o → d ≡ found_or_none [] front o → Again bytes d) [
      | None ↦ λ row here. none_again front bytes d same bare row here
      | Some r ↦ λ row here. found_again front bytes r d same row here is
    ] refl found
