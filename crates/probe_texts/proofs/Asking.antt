-- What some kinds list is asked for.
use Rattle.std.proofs.Common.{◌≡◌, Bool, true, false, cond, List, [], ◌∷◌, ◌++◌, refl, ap, sym, ◌∙◌}
use Rattle.std.specs.Prelude.{◌||◌, filter}
use Rattle.std.specs.List.{flat_map, list_any}
use Rattle.board_plain.specs.declared.trail.TrailEvent.{TrailEvent}
use Rattle.board_plain.specs.declared.trail.TrailEvent.TheVariants.{Instruction, Entry}
use Rattle.events.specs.declared.event.Event.{Event}
use Rattle.events.specs.declared.event.Event.TheVariants.{Began, Reached, Became, Keyed, Wired}
use Rattle.probe_texts.specs.declared.asked.Asked.{Asked}
use Rattle.probe_texts.specs.declared.kinds.Kind.{Kind}
use Rattle.probe_texts.specs.declared.kinds.Kind.TheVariants.{Starts, Entries, Writes, Ports, Keys, Wires, States}
use Rattle.probe_texts.specs.Asked.{asked_with, asks, asks_begun, nothing_asked, with_kind}
use Rattle.probe_texts.specs.Listed.{event_line, is_listed, listed_lines, lists, lists_begun}
use Rattle.probe_texts.specs.Signals.{signal_line}

pub unless : (b : Bool) → (b || false) ≡ true → b ≡ true
unless true is = refl
unless false is = is

begun_grows : (a : Asked) (kind : Kind) (event : TrailEvent) → (asks_begun a event || lists_begun kind event) ≡ true
    → asks_begun (with_kind a kind) event ≡ true
begun_grows a Starts (Instruction i b) is = refl
begun_grows a Starts (Entry type) is = unless _ is
begun_grows a Entries (Instruction i b) is = unless _ is
begun_grows a Entries (Entry type) is = refl
begun_grows a (Writes f l) (Instruction i b) is = unless _ is
begun_grows a (Writes f l) (Entry type) is = unless _ is
begun_grows a (Ports f l) (Instruction i b) is = unless _ is
begun_grows a (Ports f l) (Entry type) is = unless _ is
begun_grows a Keys (Instruction i b) is = unless _ is
begun_grows a Keys (Entry type) is = unless _ is
begun_grows a Wires (Instruction i b) is = unless _ is
begun_grows a Wires (Entry type) is = unless _ is
begun_grows a States (Instruction i b) is = unless _ is
begun_grows a States (Entry type) is = unless _ is

grows : (a : Asked) (kind : Kind) (e : Event) → (asks a e || lists e kind) ≡ true → asks (with_kind a kind) e ≡ true
grows a Starts (Began entry) is = begun_grows a Starts entry.event is
grows a Starts (Reached c access) is = unless _ is
grows a Starts (Became c state) is = unless _ is
grows a Starts (Keyed c what code) is = unless _ is
grows a Starts (Wired c wire level) is = unless _ is
grows a Entries (Began entry) is = begun_grows a Entries entry.event is
grows a Entries (Reached c access) is = unless _ is
grows a Entries (Became c state) is = unless _ is
grows a Entries (Keyed c what code) is = unless _ is
grows a Entries (Wired c wire level) is = unless _ is
grows a (Writes f l) (Began entry) is = begun_grows a (Writes f l) entry.event is
grows a (Writes f l) (Reached c access) is = refl
grows a (Writes f l) (Became c state) is = unless _ is
grows a (Writes f l) (Keyed c what code) is = unless _ is
grows a (Writes f l) (Wired c wire level) is = unless _ is
grows a (Ports f l) (Began entry) is = begun_grows a (Ports f l) entry.event is
grows a (Ports f l) (Reached c access) is = refl
grows a (Ports f l) (Became c state) is = unless _ is
grows a (Ports f l) (Keyed c what code) is = unless _ is
grows a (Ports f l) (Wired c wire level) is = unless _ is
grows a Keys (Began entry) is = begun_grows a Keys entry.event is
grows a Keys (Reached c access) is = unless _ is
grows a Keys (Became c state) is = unless _ is
grows a Keys (Keyed c what code) is = refl
grows a Keys (Wired c wire level) is = unless _ is
grows a Wires (Began entry) is = begun_grows a Wires entry.event is
grows a Wires (Reached c access) is = unless _ is
grows a Wires (Became c state) is = unless _ is
grows a Wires (Keyed c what code) is = unless _ is
grows a Wires (Wired c wire level) is = refl
grows a States (Began entry) is = begun_grows a States entry.event is
grows a States (Reached c access) is = unless _ is
grows a States (Became c state) is = refl
grows a States (Keyed c what code) is = unless _ is
grows a States (Wired c wire level) is = unless _ is

-- by one kind after another

pub either : (b c d : Bool) → (b || (c || d)) ≡ true → ((b || c) || d) ≡ true
either true c d is = refl
either false c d is = is

pub first_or : (b c d : Bool) → ((b ≡ true) → c ≡ true) → (b || d) ≡ true → (c || d) ≡ true
first_or true c d so is = ap (λ x. x || d) (so refl)
first_or false true d so is = refl
first_or false false d so is = is

pub asked_grows : (a : Asked) (kinds : List Kind) (e : Event) → (asks a e || list_any (lists e) kinds) ≡ true → asks (asked_with a kinds) e ≡ true
asked_grows a [] e is = unless (asks a e) is
asked_grows a (k ∷ ks) e is =
    asked_grows (with_kind a k) ks e (first_or (asks a e || lists e k) (asks (with_kind a k) e) (list_any (lists e) ks) (grows a k e)
    (either (asks a e) (lists e k) (list_any (lists e) ks) is))

or_true : (b : Bool) → (b || true) ≡ true
or_true true = refl
or_true false = refl

pub listed_asked : (a : Asked) (kinds : List Kind) (e : Event) → is_listed kinds e ≡ true → asks (asked_with a kinds) e ≡ true
listed_asked a kinds e is = asked_grows a kinds e (ap (λ b. asks a e || b) is ∙ or_true (asks a e))

-- what isn't asked for isn't listed either, so nothing is lost

not_true : (b : Bool) → (b ≡ true → false ≡ true) → b ≡ false
not_true false so = refl
not_true true so = let never : false ≡ true = so refl in absurd (cc)

filter_step : (p : Event → Bool) (e : Event) (kept es : List Event) (asked : Bool) → (p e ≡ true → asked ≡ true) → filter p kept ≡ filter p es
    → filter p (cond asked (e ∷ kept) kept) ≡ cond (p e) (e ∷ filter p es) (filter p es)
filter_step p e kept es true so rest = ap (λ xs. cond (p e) (e ∷ xs) xs) rest
filter_step p e kept es false so rest = rest ∙ sym (ap (λ b. cond b (e ∷ filter p es) (filter p es)) (not_true (p e) so))

filter_asked : (p q : Event → Bool) → ((e : Event) → p e ≡ true → q e ≡ true) → (es : List Event) → filter p (filter q es) ≡ filter p es
filter_asked p q so [] = refl
filter_asked p q so (e ∷ es) = filter_step p e (filter q es) es (q e) (so e) (filter_asked p q so es)

any_step : (p : Event → Bool) (e : Event) (kept es : List Event) (asked : Bool) → (p e ≡ true → asked ≡ true) → list_any p kept ≡ list_any p es
    → list_any p (cond asked (e ∷ kept) kept) ≡ (p e || list_any p es)
any_step p e kept es true so rest = ap (λ b. p e || b) rest
any_step p e kept es false so rest = rest ∙ sym (ap (λ b. b || list_any p es) (not_true (p e) so))

pub any_asked : (p q : Event → Bool) → ((e : Event) → p e ≡ true → q e ≡ true) → (es : List Event) → list_any p (filter q es) ≡ list_any p es
any_asked p q so [] = refl
any_asked p q so (e ∷ es) = any_step p e (filter q es) es (q e) (so e) (any_asked p q so es)

-- the lines of those events that are asked for are those of all
pub lines_asked : (a : Asked) (kinds : List Kind) → ((e : Event) → is_listed kinds e ≡ true → asks a e ≡ true)
    → (es : List Event) → listed_lines kinds (filter (asks a) es) ≡ listed_lines kinds es
unfolding listed_lines
lines_asked a kinds so es = ap (flat_map event_line) (filter_asked (is_listed kinds) (asks a) so es)

-- wires alone have lines of `signals`

no_signal : (e : Event) → asks (asked_with nothing_asked (Wires ∷ [])) e ≡ false → signal_line e ≡ []
no_signal (Began entry) is = refl
no_signal (Reached c access) is = refl
no_signal (Became c state) is = refl
no_signal (Keyed c what code) is = refl
no_signal (Wired c wire level) is = let never : true ≡ false = is in absurd (cc)

signal_step : (e : Event) (kept es : List Event) (asked : Bool) → (asked ≡ false → signal_line e ≡ [])
    → flat_map signal_line kept ≡ flat_map signal_line es → flat_map signal_line (cond asked (e ∷ kept) kept) ≡ signal_line e ++ flat_map signal_line es
signal_step e kept es true so rest = ap (λ xs. signal_line e ++ xs) rest
signal_step e kept es false so rest = rest ∙ sym (ap (λ xs. xs ++ flat_map signal_line es) (so refl))

pub signals_asked : (es : List Event) → flat_map signal_line (filter (asks (asked_with nothing_asked (Wires ∷ []))) es) ≡ flat_map signal_line es
signals_asked [] = refl
signals_asked (e ∷ es) =
    let asked : Event → Bool = asks (asked_with nothing_asked (Wires ∷ [])) in
    signal_step e (filter asked es) es (asked e) (no_signal e) (signals_asked es)
