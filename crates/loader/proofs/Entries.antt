-- The keys of a run file, one by one.
use Rattle.std.proofs.Common.{◌≡◌, ◌∙◌, sym, ap, refl, ℕ, ◌+◌, ◌-◌, ◌<◌, arith, List, [], ◌∷◌, ◌++◌, length, append_assoc}
use Rattle.std.proofs.Common.{length-append, map, drop, get_or, suc, Option, None, unwrap_or}
use Rattle.std.specs.Prelude.{Result}
use Rattle.std.proofs.Math.Seq.{drop-cons, get_or-append_seam}
use Rattle.std.specs.Option.{option_map}
use Rattle.std.proofs.lemmas.Option.{slice_get-get_or}
use Rattle.serde_json.specs.View.{items_view}
use Rattle.serde_json.specs.declared.value.Value.{Value}
use Rattle.board_types.specs.Keys.{last_stamp}
use Rattle.board_types.specs.declared.keys.StampedKey.{StampedKey}
use Rattle.loader.specs.declared.run_file.KeyEntry.{KeyEntry}
use Rattle.loader.specs.declared.run_fault.RunFault.{RunFault}
use Rattle.loader.specs.RunFile.{entry_fault, key_of, keys_fault, pair_of, unless}

-- entries after those before them
abbrev pub after_front : List KeyEntry → Option (List KeyEntry) → Option (List KeyEntry)
after_front front found = option_map (λ rest. front ++ rest) found

pub last_pushed : (keys : List StampedKey) (key : StampedKey) → last_stamp (keys ++ key ∷ []) ≡ key.stamp
last_pushed keys key =
    let size : length (keys ++ key ∷ []) ≡ length keys + 1 = length-append keys (key ∷ []) in
    let at : length (keys ++ key ∷ []) - 1 ≡ length keys = omega arith in
    let within : length keys < length (keys ++ key ∷ []) = omega arith in
    rw at (ap (λ o. unwrap_or (option_map (λ (k : StampedKey). k.stamp) o) 0) (slice_get-get_or (keys ++ key ∷ []) (length keys) key within)
    ∙ ap (λ (k : StampedKey). k.stamp) (get_or-append_seam keys key [] key))

-- the keys so far, and after them those of the rest, or the first fault of the rest
abbrev pub keys_after : List StampedKey → List KeyEntry → Result (List StampedKey) RunFault
keys_after keys rest = unless (keys_fault (last_stamp keys) rest) (keys ++ map key_of rest)

pub keys_step : (keys more : List StampedKey) (entry : KeyEntry) (rest : List KeyEntry)
    → more ≡ keys ++ key_of entry ∷ [] → entry_fault (last_stamp keys) entry ≡ None → keys_after more rest ≡ keys_after keys (entry ∷ rest)
keys_step keys more entry rest pushed taken =
    rw (pushed, taken, last_pushed keys (key_of entry), append_assoc keys (key_of entry ∷ []) (map key_of rest)) refl

-- the item of a loop over a slice, before those after it
pub next_item : {X : Type 0} (xs : List X) (i : ℕ) (x : X) → i < length xs → x ≡ get_or xs i x → drop i xs ≡ x ∷ drop (i + 1) xs
next_item xs i x within is =
    let one : i + 1 ≡ suc i = omega arith in
    rw one (drop-cons xs i x within ∙ ap (λ y. y ∷ drop (suc i) xs) (sym is))

-- a list that isn't of two values is no key
pub no_pair : (values : List Value) → (length values ≡ 2 → ⊥) → None ≡ pair_of (items_view values)
no_pair [] other = refl
no_pair (one ∷ []) other = refl
no_pair (one ∷ two ∷ []) other = absurd (other refl)
no_pair (one ∷ two ∷ three ∷ more) other = refl
