-- What has been heard, after one event or some after another.
use Rattle.std.proofs.Common.{◌≡◌, ℕ, ◌+◌, ◌<◌, ◌≤◌, Bool, true, false, if◌then◌else◌, List, [], ◌∷◌, ◌++◌, length, map, take, get_or}
use Rattle.std.proofs.Common.{Result, Ok, Err, refl, sym, ap, ◌∙◌, subst, arith, append_assoc, append-nil}
use Rattle.std.specs.Prelude.{OnOk, nat_lt}
use Rattle.std.proofs.lemmas.Bool.Decides.{nat_tests}
use Rattle.std.proofs.lemmas.List.{map-append, take_more}
use Rattle.board_types.specs.declared.keys.StampedKey.{StampedKey}
use Rattle.events.specs.declared.event.Event.{Event}
use Rattle.events.specs.declared.event.Event.TheVariants.{Keyed}
use Rattle.events.specs.declared.event.KeyEvent.{KeyEvent}
use Rattle.events.specs.declared.event.KeyEvent.TheVariants.{Arrives, IsLost}
use Rattle.probe_texts.specs.Told.{arrivals_from, held_from, waits_among}

pub on_ok_then : {E : Type 0} {P Q : Type 0} (r : Result Unit E) → (P → Q) → OnOk r P → OnOk r Q
on_ok_then (Ok x) so told = so told
on_ok_then (Err e) so told = told

-- none more
pub none_heard : {S : Type 0} (has : S → List Event → Type 0) (s : S) (events none : List Event) → none ≡ [] → has s events → has s (events ++ none)
none_heard has s events none is heard = subst (has s) (sym (ap (λ es. events ++ es) is ∙ append-nil events)) heard

-- the same ones, by another name
pub same_heard : {S : Type 0} (has : S → List Event → Type 0) (s : S) (events xs ys : List Event) → xs ≡ ys → has s (events ++ xs) → has s (events ++ ys)
same_heard has s events xs ys is heard = subst (λ es. has s (events ++ es)) is heard

pub then_heard : {S : Type 0} (has : S → List Event → Type 0) (s : S) (events xs ys zs : List Event) → xs ++ ys ≡ zs
    → has s ((events ++ xs) ++ ys) → has s (events ++ zs)
then_heard has s events xs ys zs is heard = subst (has s) (append_assoc events xs ys ∙ ap (λ es. events ++ es) is) heard

five_parts : (e a b c d x : List Event) → ((((e ++ a) ++ b) ++ c) ++ d) ++ x ≡ e ++ (a ++ (b ++ (c ++ (d ++ x))))
five_parts e a b c d x =
    append_assoc (((e ++ a) ++ b) ++ c) d x ∙ append_assoc ((e ++ a) ++ b) c (d ++ x) ∙ append_assoc (e ++ a) b (c ++ (d ++ x))
    ∙ append_assoc e a (b ++ (c ++ (d ++ x)))

pub five_heard : {S : Type 0} (has : S → List Event → Type 0) (s : S) (e a b c d x : List Event)
    → has s (((((e ++ a) ++ b) ++ c) ++ d) ++ x) → has s (e ++ (a ++ (b ++ (c ++ (d ++ x)))))
five_heard has s e a b c d x heard = subst (has s) (five_parts e a b c d x) heard

pub six_heard : {S : Type 0} (has : S → List Event → Type 0) (s : S) (e a b c d x y : List Event)
    → has s ((((((e ++ a) ++ b) ++ c) ++ d) ++ x) ++ y) → has s (e ++ (a ++ (b ++ (c ++ (d ++ (x ++ y))))))
six_heard has s e a b c d x y heard = subst (has s) (append_assoc ((((e ++ a) ++ b) ++ c) ++ d) x y ∙ five_parts e a b c d (x ++ y)) heard

-- one event more of a list
pub more_heard : {S X : Type 0} (has : S → List Event → Type 0) (s : S) (events : List Event) (f : X → Event) (xs : List X) (i : ℕ) (d : X) → i < length xs
    → has s ((events ++ map f (take i xs)) ++ f (get_or xs i d) ∷ []) → has s (events ++ map f (take (i + 1) xs))
more_heard has s events f xs i d within heard =
    then_heard has s events (map f (take i xs)) (f (get_or xs i d) ∷ []) (map f (take (i + 1) xs))
    (sym (ap (map f) (take_more xs i d within) ∙ map-append f (take i xs) (get_or xs i d ∷ []))) heard

-- the codes that arrive, by how many wait

pub arrivals_more : (clock waiting : ℕ) (codes : List ℕ) (code : ℕ) → arrivals_from clock waiting (codes ++ code ∷ [])
    ≡ arrivals_from clock waiting codes ++ Keyed clock (if nat_lt (held_from waiting codes) 16 then Arrives else IsLost) code ∷ []
arrivals_more clock waiting [] code = refl
arrivals_more clock waiting (c ∷ codes) code =
    ap (λ (es : List Event). Keyed clock (if nat_lt waiting 16 then Arrives else IsLost) c ∷ es) (arrivals_more clock (waits_among waiting) codes code)

pub held_more : (waiting : ℕ) (codes : List ℕ) (code : ℕ) → held_from waiting (codes ++ code ∷ []) ≡ waits_among (held_from waiting codes)
held_more waiting [] code = refl
held_more waiting (c ∷ codes) code = held_more (waits_among waiting) codes code

pub codes_more : (keys : List StampedKey) (i : ℕ) (d : StampedKey) → i < length keys
    → map (λ (k : StampedKey). k.code) (take (i + 1) keys) ≡ map (λ (k : StampedKey). k.code) (take i keys) ++ (get_or keys i d).code ∷ []
codes_more keys i d within =
    ap (map (λ (k : StampedKey). k.code)) (take_more keys i d within) ∙ map-append (λ (k : StampedKey). k.code) (take i keys) (get_or keys i d ∷ [])

-- one more code has arrived
pub arrival_heard : {S : Type 0} (has : S → List Event → Type 0) (s : S) (events : List Event)
    (clock waiting : ℕ) (keys : List StampedKey) (i : ℕ) (d : StampedKey) (what : KeyEvent)
    → i < length keys → what ≡ (if nat_lt (held_from waiting (map (λ (k : StampedKey). k.code) (take i keys))) 16 then Arrives else IsLost)
    → has s ((events ++ arrivals_from clock waiting (map (λ (k : StampedKey). k.code) (take i keys))) ++ Keyed clock what (get_or keys i d).code ∷ [])
    → has s (events ++ arrivals_from clock waiting (map (λ (k : StampedKey). k.code) (take (i + 1) keys)))
arrival_heard has s events clock waiting keys i d what within is heard =
    let so_far : List ℕ = map (λ (k : StampedKey). k.code) (take i keys) in
    then_heard has s events (arrivals_from clock waiting so_far) (Keyed clock what (get_or keys i d).code ∷ []) _
    (ap (λ e. arrivals_from clock waiting so_far ++ Keyed clock e (get_or keys i d).code ∷ []) is
    ∙ sym (ap (arrivals_from clock waiting) (codes_more keys i d within) ∙ arrivals_more clock waiting so_far (get_or keys i d).code)) heard

pub held_told : (waiting : ℕ) (keys : List StampedKey) (i : ℕ) (d : StampedKey) (held : ℕ)
    → i < length keys → held ≡ held_from waiting (map (λ (k : StampedKey). k.code) (take i keys))
    → waits_among held ≡ held_from waiting (map (λ (k : StampedKey). k.code) (take (i + 1) keys))
held_told waiting keys i d held within is =
    ap waits_among is ∙ sym (held_more waiting (map (λ (k : StampedKey). k.code) (take i keys)) (get_or keys i d).code)
    ∙ ap (held_from waiting) (sym (codes_more keys i d within))

-- by whether there is room

room_for : (held : ℕ) → held < 16 → nat_lt held 16 ≡ true
room_for held some = grind (arith, nat_tests, some)

no_room_for : (held : ℕ) → 16 ≤ held → nat_lt held 16 ≡ false
no_room_for held full = grind (arith, nat_tests, full)

pub arrives_if : (held all : ℕ) → held ≡ all → held < 16 → Arrives ≡ (if nat_lt all 16 then Arrives else IsLost)
arrives_if held all is some = sym (ap (λ (room : Bool). if room then Arrives else IsLost) (ap (λ n. nat_lt n 16) (sym is) ∙ room_for held some))

pub lost_if : (held all : ℕ) → held ≡ all → 16 ≤ held → IsLost ≡ (if nat_lt all 16 then Arrives else IsLost)
lost_if held all is full = sym (ap (λ (room : Bool). if room then Arrives else IsLost) (ap (λ n. nat_lt n 16) (sym is) ∙ no_room_for held full))

pub one_waits : (held : ℕ) → held < 16 → held + 1 ≡ waits_among held
one_waits held some = sym (ap (λ (room : Bool). if room then held + 1 else held) (room_for held some))

pub none_waits : (held : ℕ) → 16 ≤ held → held ≡ waits_among held
none_waits held full = sym (ap (λ (room : Bool). if room then held + 1 else held) (no_room_for held full))
