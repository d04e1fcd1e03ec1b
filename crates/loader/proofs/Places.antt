-- Bytes at different addresses may be put into an image in any order.
use Rattle.std.proofs.Common.{◌≡◌, ◌∙◌, ◌≢◌, ℕ, ◌<◌, List, [], ◌∷◌, ◌++◌, refl, sym, ap, inl, inr, arith}
use Rattle.std.specs.List.{AllByRecursion}
use Rattle.std.specs.Ordering.{nat_cmp}
use Rattle.std.specs.BTreeMap.{insert_entry}
use Rattle.std.proofs.lemmas.Bool.{cases_lt, eq-eqb as eq_yes, le-ltb as lt_not, lt-ltb as lt_yes}
use Rattle.board_types.proofs.ImageBytes.{eq_not}
use Rattle.loader.specs.Laws.{bytes_of, BytesChangePlaces, RecordsChangePlaces}
use Rattle.loader.specs.Records.{bytes_at, end_of_file, extension_at, start_at, placed_bytes, with_bytes}
use Rattle.loader.proofs.Loaded.{put_append}

abbrev put : List (ℕ × ℕ) → ℕ → ℕ → List (ℕ × ℕ)
put es k v = insert_entry nat_cmp es k v

put_below : (k v : ℕ) (e : ℕ × ℕ) (es : List (ℕ × ℕ)) → k < e.0 → put (e ∷ es) k v ≡ (k, v) ∷ e ∷ es
put_below k v e es h = rw (lt_yes k e.0 h) refl

put_at : (k v : ℕ) (e : ℕ × ℕ) (es : List (ℕ × ℕ)) → k ≡ e.0 → put (e ∷ es) k v ≡ (e.0, v) ∷ es
put_at k v e es h = rw (lt_not k e.0 (omega arith), eq_yes k e.0 h) refl

put_above : (k v : ℕ) (e : ℕ × ℕ) (es : List (ℕ × ℕ)) → e.0 < k → put (e ∷ es) k v ≡ e ∷ put es k v
put_above k v e es h = rw (lt_not k e.0 (omega arith), eq_not k e.0 h) refl

rising : (es : List (ℕ × ℕ)) (k v l w : ℕ) → k < l → put (put es k v) l w ≡ put (put es l w) k v
rising [] k v l w h = put_above l w (k, v) [] h ∙ sym (put_below k v (l, w) [] h)
rising (e ∷ es) k v l w h = elim (cases_lt k e.0) [
  | inl below ↦
      ap (λ r. put r l w) (put_below k v e es below) ∙ put_above l w (k, v) (e ∷ es) h ∙ elim (cases_lt l e.0) [
        | inl low ↦ ap (λ r. (k, v) ∷ r) (put_below l w e es low) ∙ sym (ap (λ r. put r k v) (put_below l w e es low) ∙ put_below k v (l, w) (e ∷ es) h)
        | inr not_low ↦ elim (cases_lt e.0 l) [
          | inl high ↦ ap (λ r. (k, v) ∷ r) (put_above l w e es high) ∙ sym (ap (λ r. put r k v) (put_above l w e es high) ∙ put_below k v e (put es l w) below)
          | inr not_high ↦
              let at : l ≡ e.0 = omega arith in
              ap (λ r. (k, v) ∷ r) (put_at l w e es at) ∙ sym (ap (λ r. put r k v) (put_at l w e es at) ∙ put_below k v (e.0, w) es below)
        ]
      ]
  | inr not_below ↦
      let over : e.0 < l = omega arith in
      elim (cases_lt e.0 k) [
        | inl above ↦
            ap (λ r. put r l w) (put_above k v e es above) ∙ put_above l w e (put es k v) over ∙ ap (λ r. e ∷ r) (rising es k v l w h)
            ∙ sym (ap (λ r. put r k v) (put_above l w e es over) ∙ put_above k v e (put es l w) above)
        | inr not_above ↦
            let at : k ≡ e.0 = omega arith in
            ap (λ r. put r l w) (put_at k v e es at) ∙ put_above l w (e.0, v) es over
            ∙ sym (ap (λ r. put r k v) (put_above l w e es over) ∙ put_at k v e (put es l w) at)
      ]
]

either : (es : List (ℕ × ℕ)) (k v l w : ℕ) → k ≢ l → put (put es k v) l w ≡ put (put es l w) k v
either es k v l w differ = elim (cases_lt k l) [
  | inl h ↦ rising es k v l w h
  | inr not_below ↦ elim (cases_lt l k) [
    | inl h ↦ sym (rising es l w k v h)
    | inr not_above ↦ absurd (differ (omega arith))
  ]
]

one_past : (held : List (ℕ × ℕ)) (x : ℕ × ℕ) (ys : List (ℕ × ℕ)) → AllByRecursion (λ y. x.0 ≢ y.0) ys
    → with_bytes (put held x.0 x.1) ys ≡ put (with_bytes held ys) x.0 x.1
one_past held x [] apart = refl
one_past held x (y ∷ ys) apart = ap (λ r. with_bytes r ys) (either held x.0 x.1 y.0 y.1 apart.0) ∙ one_past (put held y.0 y.1) x ys apart.1

pub bytes_change_places : BytesChangePlaces
bytes_change_places held [] ys apart = refl
bytes_change_places held (x ∷ xs) ys apart =
    bytes_change_places (put held x.0 x.1) xs ys apart.1 ∙ ap (λ r. with_bytes r xs) (one_past held x ys apart.0)

both_put : (held xs ys rest : List (ℕ × ℕ)) → with_bytes held (xs ++ (ys ++ rest)) ≡ with_bytes (with_bytes (with_bytes held xs) ys) rest
both_put held xs ys rest = put_append held xs (ys ++ rest) ∙ put_append (with_bytes held xs) ys rest

pub records_change_places : RecordsChangePlaces
records_change_places extension held [] after m n one two apart =
    let xs = placed_bytes extension m one in
    let ys = placed_bytes extension n two in
    let rest = bytes_of extension after in
    both_put held xs ys rest ∙ ap (λ h. with_bytes h rest) (bytes_change_places held xs ys apart) ∙ sym (both_put held ys xs rest)
records_change_places extension held (bytes_at o c ∷ rs) after m n one two apart =
    put_append held (placed_bytes extension o c) _ ∙ records_change_places extension (with_bytes held (placed_bytes extension o c)) rs after m n one two apart
    ∙ sym (put_append held (placed_bytes extension o c) _)
records_change_places extension held (end_of_file ∷ rs) after m n one two apart = records_change_places extension held rs after m n one two apart
records_change_places extension held (extension_at next ∷ rs) after m n one two apart = records_change_places next held rs after m n one two apart
records_change_places extension held (start_at ∷ rs) after m n one two apart = records_change_places extension held rs after m n one two apart
