-- The events of a turn are those that are told of it.
use Rattle.std.proofs.Common.{◌≡◌, ℕ, zero, suc, ◌+◌, ◌-◌, ◌<◌, ◌≤◌, ◌^◌, Bool, true, false, if◌then◌else◌, not, List, [], ◌∷◌, ◌++◌}
use Rattle.std.proofs.Common.{length, map, drop, Option, None, Some, refl, sym, ap, ◌∙◌, subst, arith, append-nil}
use Rattle.std.specs.Prelude.{IsTrue, filter, slice_get}
use Rattle.std.proofs.lemmas.List.{length-append, drop-append-le}
use Rattle.std.proofs.lemmas.List.Elements.{filter-append}
use Rattle.std.proofs.lemmas.Option.{slice_get-get_or}
use Rattle.std.proofs.Math.Seq.{get_or-append_seam}
use Rattle.board_types.proofs.Iterate.{gathered_add, gathered_more, gathered_zero, iterate_add, iterate_more, iterate_zero}
use Rattle.board_types.specs.Iterate.{gathered}
use Rattle.board_types.specs.LineLevel.{is_high}
use Rattle.board_types.specs.declared.state.State.{State}
use Rattle.pic8259.specs.Levels.{contains}
use Rattle.pic8259.specs.Pic.{is_requesting}
use Rattle.board_plain.specs.Board.{BoardState}
use Rattle.board_plain.specs.Plain.{Plain, after_clock, after_clocks, clock_of, codes_at, state_of}
use Rattle.board_plain.specs.Trail.{last, trail_in, trail_next}
use Rattle.board_plain.specs.declared.trail.TrailEntry.{TrailEntry}
use Rattle.board_plain.specs.declared.trail.TrailEvent.{TrailEvent}
use Rattle.board_plain.specs.declared.trail.TrailEvent.TheVariants.{Instruction, Entry}
use Rattle.board.proofs.Leap.{none_gathered}
use Rattle.board.specs.declared.one_turn.Begun.{Begun}
use Rattle.board.specs.OneTurn.{begun_of, HaveSameWires, IsOneTurn, type_of}
use Rattle.events.specs.declared.access.Access.{Access}
use Rattle.events.specs.declared.event.Event.{Event}
use Rattle.events.specs.declared.event.Event.TheVariants.{Began, Reached}
use Rattle.events.specs.declared.event.Wire.{Wire}
use Rattle.events.specs.declared.event.Wire.TheVariants.{Out0, Out2, Ir0, Ir1, Int, Speaker}
use Rattle.events.specs.Accesses.{accesses_next}
use Rattle.events.specs.Events.{codes_next, events_in, events_next}
use Rattle.events.specs.Events.{unwired_next, wire_events}
use Rattle.probe.specs.declared.seen.Seen.{Seen}
use Rattle.probe.specs.declared.seen.Turn.{Turn}
use Rattle.probe.specs.Seen.{IsLooked, IsMade, asked_in, keys_told, levels_seen, next_turn, seen_of, waiting_seen}
use Rattle.probe_texts.specs.declared.asked.Asked.{Asked}
use Rattle.probe_texts.specs.Asked.{asks, asks_begun}
use Rattle.probe_texts.specs.declared.telling.Levels.{Levels}
use Rattle.probe_texts.specs.Told.{accesses_seen, arrivals_from, begun_seen, change_events, held_from, latched_from, levels_of, state_seen}
use Rattle.probe_texts.specs.Told.{type_asked, wires_between, wires_seen}
use Rattle.probe_texts.proofs.Clocks.{clock_is, keys_are, wires_are, wires_if}

-- what began last

pub none_begun : (entries : List TrailEntry) → map begun_of entries ≡ [] → entries ≡ []
none_begun [] none = refl
none_begun (e ∷ es) none = absurd (cc)

one_begun : (entries : List TrailEntry) (b : Begun) → map begun_of entries ≡ b ∷ [] → (e : TrailEntry) × (entries ≡ e ∷ [])
one_begun [] b one = absurd (cc)
one_begun (e ∷ []) b one = (e, refl)
one_begun (e ∷ d ∷ es) b one = absurd (cc)

end_gets : {X : Type 0} (xs : List X) (e : X) → slice_get (xs ++ e ∷ []) (length (xs ++ e ∷ []) - 1) ≡ Some e
end_gets xs e =
    let long : length (xs ++ e ∷ []) ≡ length xs + 1 = length-append xs (e ∷ []) in
    let at : length (xs ++ e ∷ []) - 1 ≡ length xs = omega (arith, long) in
    ap (slice_get (xs ++ e ∷ [])) at ∙ slice_get-get_or (xs ++ e ∷ []) (length xs) e (omega (arith, long)) ∙ ap Some (get_or-append_seam xs e [] e)

last_gets : (before : List TrailEntry) (e : TrailEntry) (trail : List TrailEntry)
    → trail ≡ last 32 (before ++ e ∷ []) → slice_get trail (length trail - 1) ≡ Some e
unfolding last
last_gets before e trail is =
    let long : length (before ++ e ∷ []) ≡ length before + 1 = length-append before (e ∷ []) in
    let cut : ℕ = length (before ++ e ∷ []) - 32 in
    let same : trail ≡ drop cut before ++ e ∷ [] = is ∙ drop-append-le cut before (e ∷ []) (omega (arith, long)) in
    ap (λ (xs : List TrailEntry). slice_get xs (length xs - 1)) same ∙ end_gets (drop cut before) e

same_entry : (a b : TrailEntry) → Some a ≡ Some b → a ≡ b
same_entry a b same = cc

type_is : (asked : Asked) (event : TrailEvent) → asks_begun asked event ≡ type_asked asked (type_of event)
type_is asked (Instruction instr bytes) = refl
type_is asked (Entry type) = refl

one_is : (entries : List TrailEntry) (b : Begun) (e : TrailEntry) → map begun_of entries ≡ b ∷ [] → entries ≡ e ∷ [] → begun_of e ≡ b
one_is entries b e are one = let same : begun_of e ∷ [] ≡ b ∷ [] = sym (ap (map begun_of) one) ∙ are in cc

-- what begins is seen if it is asked for
pub one_seen : (asked : Asked) (entries : List TrailEntry) (b : Begun) (all : Bool) → type_asked asked b.entered ≡ all → map begun_of entries ≡ b ∷ []
    → begun_seen asked entries ≡ (if all then map Began entries else [])
one_seen asked entries b all is are =
    let one = one_begun entries b are in
    let e : TrailEntry = one.0 in
    ap (begun_seen asked) one.1
    ∙ ap (λ (c : Bool). if c then Began e ∷ [] else [])
    (type_is asked e.event ∙ ap (λ (x : Begun). type_asked asked x.entered) (one_is entries b e are one.1) ∙ is)
    ∙ ap (λ (es : List TrailEntry). if all then map Began es else []) (sym one.1)

-- the trail's last entry is what began
pub last_seen : (asked : Asked) (before entries : List TrailEntry) (b : Begun) (trail : List TrailEntry) (gets : Option TrailEntry) (entry : TrailEntry)
    → type_asked asked b.entered ≡ true → gets ≡ slice_get trail (length trail - 1) → gets ≡ Some entry → map begun_of entries ≡ b ∷ []
    → trail ≡ last 32 (before ++ entries) → Began entry ∷ [] ≡ begun_seen asked entries
last_seen asked before entries b trail gets entry asks gets_is some are ends =
    let one = one_begun entries b are in
    let there : slice_get trail (length trail - 1) ≡ Some one.0 = last_gets before one.0 trail (ends ∙ ap (λ xs. last 32 (before ++ xs)) one.1) in
    ap (λ (e : TrailEntry). Began e ∷ []) (same_entry entry one.0 (sym some ∙ gets_is ∙ there))
    ∙ ap (map Began) (sym one.1) ∙ sym (one_seen asked entries b true asks are)

pub no_last : (before entries : List TrailEntry) (b : Begun) (trail : List TrailEntry) (gets : Option TrailEntry)
    → gets ≡ slice_get trail (length trail - 1) → gets ≡ None → map begun_of entries ≡ b ∷ [] → trail ≡ last 32 (before ++ entries) → (A : Type 0) → A
no_last before entries b trail gets gets_is none are ends A =
    let one = one_begun entries b are in
    let there : slice_get trail (length trail - 1) ≡ Some one.0 = last_gets before one.0 trail (ends ∙ ap (λ xs. last 32 (before ++ xs)) one.1) in
    let never : None ≡ Some one.0 = sym none ∙ gets_is ∙ there in absurd (cc)

-- a turn's first clock, and the others

first_clock : (s : Plain) → after_clocks s 1 ≡ after_clock s
first_clock s = iterate_more after_clock 0 s ∙ ap after_clock (iterate_zero after_clock s)

first_of : {A : Type 0} (seen : Plain → List A) (s : Plain) → gathered after_clock seen 1 s ≡ seen s
first_of seen s =
    gathered_more after_clock seen 0 s ∙ ap (λ xs. xs ++ seen (after_clocks s 0)) (gathered_zero after_clock seen s) ∙ ap seen (iterate_zero after_clock s)

-- what is seen in some clocks, if there are any: what is seen in the first, and then in the others
first_and_rest : {A : Type 0} (seen : Plain → List A) (s : Plain) (k : ℕ) → 1 ≤ k
    → gathered after_clock seen k s ≡ seen s ++ gathered after_clock seen (k - 1) (after_clocks s 1)
first_and_rest seen s k some =
    let whole : k ≡ 1 + (k - 1) = omega (arith, some) in
    ap (λ n. gathered after_clock seen n s) whole
    ∙ gathered_add after_clock seen 1 (k - 1) s
    ∙ ap (λ xs. xs ++ gathered after_clock seen (k - 1) (after_clocks s 1)) (first_of seen s)

later : (s : Plain) (i : ℕ) → after_clocks (after_clocks s 1) i ≡ after_clocks s (1 + i)
later s i = sym (iterate_add after_clock 1 i s)

no_entry_by : (xs : List TrailEntry) (ys : List Event) → map Began xs ++ ys ≡ [] → xs ≡ []
no_entry_by [] ys none = refl
no_entry_by (x ∷ xs) ys none = absurd (cc)

no_entry : (s : Plain) → unwired_next s ≡ [] → trail_next s ≡ []
unfolding unwired_next
no_entry s none = no_entry_by (trail_next s) _ none

begins_first : (s : Plain) (k : ℕ) → 1 ≤ k → ((j : ℕ) → 1 ≤ j → j < k → unwired_next (after_clocks s j) ≡ []) → trail_in s k ≡ trail_next s
begins_first s k some quiet =
    first_and_rest trail_next s k some
    ∙ ap (λ xs. trail_next s ++ xs) (none_gathered after_clock trail_next (k - 1) (after_clocks s 1) (λ i before.
    ap trail_next (later s i) ∙ no_entry (after_clocks s (1 + i)) (quiet (1 + i) (omega arith) (omega (arith, before, some)))))
    ∙ append-nil (trail_next s)

-- levels that stay

pub same_levels : (s t : Plain) → HaveSameWires s t → levels_of t ≡ levels_of s
unfolding levels_of
same_levels s t same = λ i. record {
  out_0 = is_high (same.out_0 i);
  out_2 = is_high (same.out_2 i);
  ir_0 = contains (same.pic i).high 0;
  ir_1 = contains (same.pic i).high 1;
  int = is_requesting (same.pic i);
  speaker = is_high (same.speaker i);
}

no_change : (clock : ℕ) (wire : Wire) (level : Bool) → change_events clock wire level level ≡ []
no_change clock wire true = refl
no_change clock wire false = refl

no_wires : (clock : ℕ) (s t : Plain) → levels_of t ≡ levels_of s → wire_events clock s t ≡ []
no_wires clock s t same =
    let l : Levels = levels_of s in
    sym (wires_are clock s t) ∙ ap (wires_between clock l) same
    ∙ (λ i. no_change clock Out0 l.out_0 i ++ (no_change clock Out2 l.out_2 i ++ (no_change clock Ir0 l.ir_0 i
    ++ (no_change clock Ir1 l.ir_1 i ++ (no_change clock Int l.int i ++ no_change clock Speaker l.speaker i)))))

if_quiet : (all : Bool) (es : List Event) → (IsTrue all → es ≡ []) → (if all then es else []) ≡ []
if_quiet true es quiet = quiet refl
if_quiet false es quiet = refl

-- a clock of which nothing is asked for
pub quiet_clock : (a : Asked) (s : Plain) → unwired_next s ≡ [] → (IsTrue a.wires → levels_of (after_clock s) ≡ levels_of s)
    → filter (asks a) (events_next s) ≡ []
unfolding events_next
quiet_clock a s none same =
    let clock : ℕ = clock_of s + 1 in
    filter-append (asks a) (unwired_next s) (wire_events clock s (after_clock s))
    ∙ (λ i. filter (asks a) (none i) ++ (wires_if a clock s (after_clock s)
    ∙ if_quiet a.wires (wire_events clock s (after_clock s)) (λ all. no_wires clock s (after_clock s) (same all))) i)

none_asked : (a : Asked) (n : ℕ) (s : Plain) → ((i : ℕ) → i < n → filter (asks a) (events_next (after_clocks s i)) ≡ []) → asked_in a s n ≡ []
none_asked a zero s none = ap (filter (asks a)) (gathered_zero after_clock events_next s)
none_asked a (suc n) s none =
    let more : suc n ≡ n + 1 = omega arith in
    ap (λ k. asked_in a s k) more
    ∙ ap (filter (asks a)) (gathered_more after_clock events_next n s)
    ∙ filter-append (asks a) (events_in s n) (events_next (after_clocks s n))
    ∙ (λ i. none_asked a n s (λ j before. none j (omega (arith, before))) i ++ none n (omega arith) i)

not_edges : (asked : Bool) → IsTrue asked → ¬ (IsTrue (not asked))
not_edges true is = λ all. let never : false ≡ true = all in cc
not_edges false is = let never : false ≡ true = is in absurd (cc)

stays : (a : Asked) (within end : ℕ) (old new : BoardState) (begun : Option Begun) → (turn : IsOneTurn (not a.wires) within end old new begun)
    → IsTrue a.wires → (j : ℕ) → 1 ≤ j → j ≤ turn.passed → levels_of (after_clocks old.plain j) ≡ levels_of (after_clock old.plain)
stays a within end old new begun turn is j some most =
    same_levels (after_clock old.plain) (after_clocks old.plain j) (turn.wires (not_edges a.wires is) j some most)

events_first : (a : Asked) (within end : ℕ) (old new : BoardState) (begun : Option Begun)
    → (turn : IsOneTurn (not a.wires) within end old new begun) → asked_in a old.plain turn.passed ≡ filter (asks a) (events_next old.plain)
events_first a within end old new begun turn =
    let s : Plain = old.plain in
    let k : ℕ = turn.passed in
    let some = turn.some in
    let p : Event → Bool = asks a in
    ap (filter p) (first_and_rest events_next s k some)
    ∙ filter-append p (events_next s) (events_in (after_clocks s 1) (k - 1))
    ∙ ap (λ es. filter p (events_next s) ++ es) (none_asked a (k - 1) (after_clocks s 1) (λ i before.
    ap (λ q. filter p (events_next q)) (later s i)
    ∙ quiet_clock a (after_clocks s (1 + i)) (turn.quiet (1 + i) (omega arith) (omega (arith, before, some))) (λ all.
    ap levels_of (sym (iterate_more after_clock (1 + i) s))
    ∙ stays a within end old new begun turn all (1 + i + 1) (omega arith) (omega (arith, before, some))
    ∙ sym (stays a within end old new begun turn all (1 + i) (omega arith) (omega (arith, before, some))))))
    ∙ append-nil (filter p (events_next s))

-- all of a turn

same_seen : (asked : Bool) (s t : Plain) → (IsTrue asked → levels_of t ≡ levels_of s) → levels_seen asked t ≡ levels_seen asked s
same_seen true s t same = ap Some (same refl)
same_seen false s t same = refl

keys_next : (s : Plain) → (after_clock s).keys ≡ s.keys
unfolding after_clock
keys_next s = refl

keys_later : (n : ℕ) (s : Plain) → (after_clocks s n).keys ≡ s.keys
keys_later zero s = ap (λ (p : Plain). p.keys) (iterate_zero after_clock s)
keys_later (suc n) s =
    let more : suc n ≡ n + 1 = omega arith in
    ap (λ k. (after_clocks s k).keys) more ∙ ap (λ (p : Plain). p.keys) (iterate_more after_clock n s) ∙ keys_next (after_clocks s n) ∙ keys_later n s

accesses_by : (all : Bool) (clock : ℕ) (xs ys : List Access) → (IsTrue all → xs ≡ ys) → accesses_seen all clock xs ≡ accesses_seen all clock ys
accesses_by true clock xs ys same = ap (map (Reached clock)) (same refl)
accesses_by false clock xs ys same = refl

-- what becomes of the keys, as far as it is asked for
abbrev keys_in : Bool → ℕ → ℕ → ℕ → List ℕ → Option ℕ → List Event
keys_in all clock before after codes latch =
    if all then arrivals_from clock before codes ++ latched_from clock (held_from before codes) after latch else []

keys_by : (all : Bool) (clock : ℕ) (s t : Plain) (codes : List ℕ) (latch : Option ℕ)
    → keys_in all clock (waiting_seen all s) (waiting_seen all t) codes latch
    ≡ keys_in all clock (length s.chips.keyboard.waiting) (length t.chips.keyboard.waiting) codes latch
keys_by true clock s t codes latch = refl
keys_by false clock s t codes latch = refl

wires_by : (all : Bool) (clock : ℕ) (s t : Plain) → wires_seen clock (levels_seen all s) (levels_seen all t) ≡ (if all then wire_events clock s t else [])
wires_by true clock s t = wires_are clock s t
wires_by false clock s t = refl

-- what is told of a turn, by what is seen of both its ends
seen_is : (turn : Turn) (s t : Plain) (entries : List TrailEntry) (accesses : List Access) (codes : List ℕ) (latch : Option ℕ) (clock next : ℕ)
    → clock ≡ turn.before.clock → next ≡ turn.before.clock + 1 → turn.before ≡ seen_of turn.asked s → turn.after ≡ seen_of turn.asked t
    → begun_seen turn.asked entries
    ++ (accesses_seen turn.asked.accesses clock accesses
    ++ (state_seen turn.asked.states clock turn.before.state turn.after.state
    ++ (keys_in turn.asked.keys next turn.before.waiting turn.after.waiting codes latch
    ++ wires_seen next turn.before.levels turn.after.levels)))
    ≡ begun_seen turn.asked entries
    ++ (accesses_seen turn.asked.accesses (clock_of s) accesses
    ++ (state_seen turn.asked.states (clock_of s) (state_of s) (state_of t)
    ++ (keys_in turn.asked.keys (clock_of s + 1) (waiting_seen turn.asked.keys s) (waiting_seen turn.asked.keys t) codes latch
    ++ wires_seen (clock_of s + 1) (levels_seen turn.asked.wires s) (levels_seen turn.asked.wires t))))
unfolding seen_of
seen_is turn s t entries accesses codes latch clock next clock_is next_is before after = λ i.
    begun_seen turn.asked entries
    ++ (accesses_seen turn.asked.accesses ((clock_is ∙ ap (λ (b : Seen). b.clock) before) i) accesses
    ++ (state_seen turn.asked.states ((clock_is ∙ ap (λ (b : Seen). b.clock) before) i) (before i).state (after i).state
    ++ (keys_in turn.asked.keys ((next_is ∙ ap (λ (b : Seen). b.clock + 1) before) i) (before i).waiting (after i).waiting codes latch
    ++ wires_seen ((next_is ∙ ap (λ (b : Seen). b.clock + 1) before) i) (before i).levels (after i).levels)))

pub seen_clock : (asked : Asked) (s : Plain) → (seen_of asked s).clock ≡ clock_of s
unfolding seen_of
seen_clock asked s = refl

-- its events that are asked for are told
pub turn_is : (turn : Turn) (old new : BoardState) (accesses : List Access) (clock next : ℕ)
    → (made : IsMade turn old new) → (IsTrue turn.asked.accesses → accesses ≡ accesses_next old.plain)
    → clock ≡ turn.before.clock → next ≡ turn.before.clock + 1
    → begun_seen turn.asked (trail_in old.plain made.one.passed)
    ++ (accesses_seen turn.asked.accesses clock accesses
    ++ (state_seen turn.asked.states clock turn.before.state turn.after.state
    ++ (keys_told turn next (codes_at new.plain.keys next) new.plain.chips.keyboard
    ++ wires_seen next turn.before.levels turn.after.levels)))
    ≡ asked_in turn.asked old.plain made.one.passed
unfolding state_of
turn_is turn old new accesses clock next made noted at next_at =
    let s : Plain = old.plain in
    let t : Plain = new.plain in
    let n : Plain = after_clock s in
    let a : Asked = turn.asked in
    let one = made.one in
    let some = one.some in
    let c : ℕ = clock_of s + 1 in
    let here : next ≡ c = next_at ∙ ap (λ (b : Seen). b.clock + 1) made.before ∙ ap (λ k. k + 1) (seen_clock a s) in
    let keys_stay : t.keys ≡ s.keys = ap (λ (p : Plain). p.keys) one.ran.plain ∙ keys_later one.passed s in
    seen_is turn s t (trail_in s one.passed) accesses (codes_at t.keys next) t.chips.keyboard.latch clock next at next_at made.before made.after
    ∙ (λ i. begun_seen a (begins_first s one.passed some one.quiet i)
    ++ (accesses_by a.accesses (clock_of s) accesses (accesses_next s) noted i
    ++ (state_seen a.states (clock_of s) s.cpu.state (one.cpu i).state
    ++ (keys_in a.keys c (waiting_seen a.keys s) (if a.keys then length (one.keyboard i).waiting else 0)
    (codes_at (keys_stay i) (here i)) (one.keyboard i).latch
    ++ wires_seen c (levels_seen a.wires s)
    (same_seen a.wires n t (λ all. ap levels_of one.ran.plain ∙ stays a made.within made.end old new turn.begun one all one.passed some (omega arith)) i)))))
    ∙ (λ i. begun_seen a (trail_next s)
    ++ (accesses_seen a.accesses (clock_of s) (accesses_next s)
    ++ (state_seen a.states (clock_of s) (state_of s) (state_of n)
    ++ ((keys_by a.keys c s n (codes_next s) n.chips.keyboard.latch ∙ ap (λ (es : List Event). if a.keys then es else []) (keys_are s)) i
    ++ wires_by a.wires c s n i))))
    ∙ clock_is a s
    ∙ sym (events_first a made.within made.end old new turn.begun one)

-- what is seen of a turn more, after a turn that had led to the board before it
pub record Follows (turn new : Turn) (begun : Option Begun) (t b : Plain) : Type 0 where
  pub asked : new.asked ≡ turn.asked
  pub stood : new.before ≡ turn.after
  pub before : new.before ≡ seen_of new.asked t
  pub after : new.after ≡ seen_of new.asked b

pub next_of : (turn new : Turn) (begun : Option Begun) (t b : Plain) → new ≡ next_turn turn begun b → turn.after ≡ seen_of turn.asked t
    → Follows turn new begun t b
next_of turn new begun t b is seen =
    subst (λ (x : Turn). Follows turn x begun t b) (sym is) (record { asked = refl; stood = refl; before = seen; after = refl })

pub one_of : (turn new : Turn) (begun : Option Begun) (b : Plain) (within end : ℕ) (t u : BoardState) → new ≡ next_turn turn begun b
    → IsOneTurn (not turn.asked.wires) within end t u begun → IsOneTurn (not new.asked.wires) within end t u new.begun
one_of turn new begun b within end t u is one =
    subst (λ (x : Turn). IsOneTurn (not x.asked.wires) within end t u x.begun) (sym is) one

pub looked_of : (turn : Turn) (t u b : BoardState) (within end : ℕ) → turn.before ≡ seen_of turn.asked t.plain → turn.before.waiting ≤ 16
    → turn.after.waiting ≤ 16 → turn.before.clock < 2 ^ 40 → b ≡ u → IsOneTurn (not turn.asked.wires) within end t u turn.begun → IsLooked turn b
looked_of turn t u b within end before room few limit here one =
    let start : turn.before.clock ≡ clock_of t.plain = ap (λ (x : Seen). x.clock) before ∙ seen_clock turn.asked t.plain in
    let there : clock_of b.plain ≡ clock_of u.plain = ap (λ (x : BoardState). clock_of x.plain) here in
    let some = one.some in
    let clock = one.ran.clock in record {
      room = room;
      few = few;
      limit = limit;
      later = omega (arith, start, there, some, clock);
    }

pub looked_next : (turn new : Turn) (begun : Option Begun) (t u b : BoardState) (within end : ℕ) → new ≡ next_turn turn begun b.plain
    → turn.after ≡ seen_of turn.asked t.plain → turn.after.waiting ≤ 16 → new.after.waiting ≤ 16 → turn.after.clock < 2 ^ 40 → b ≡ u
    → IsOneTurn (not turn.asked.wires) within end t u begun → IsLooked new b
looked_next turn new begun t u b within end is seen room few limit here one =
    let after = next_of turn new begun t.plain b.plain is seen in
    looked_of new t u b within end after.before (subst (λ (x : Seen). x.waiting ≤ 16) (sym after.stood) room) few
    (subst (λ (x : Seen). x.clock < 2 ^ 40) (sym after.stood) limit) here (one_of turn new begun b.plain within end t u is one)

-- the end of a run's first turn
pub first_by : (last before : Seen) (start to : ℕ) → before ≡ last → (last.clock ≡ start → to ≡ last.clock + 1) → before.clock ≡ start
    → to ≡ before.clock + 1
first_by last before start to is first = subst (λ (x : Seen). x.clock ≡ start → to ≡ x.clock + 1) (sym is) first

-- the end of a later one
pub later_by : (last before : Seen) (start to end : ℕ) → before ≡ last → (start < last.clock → to ≡ end) → start < before.clock → to ≡ end
later_by last before start to end is later = subst (λ (x : Seen). start < x.clock → to ≡ end) (sym is) later

-- what isn't asked for isn't seen

pub waiting_not_asked : (asked : Asked) (x : Seen) (p q : Plain) → x ≡ seen_of asked p → asked.keys ≡ false → x.waiting ≡ waiting_seen asked.keys q
unfolding seen_of
waiting_not_asked asked x p q is is_not =
    ap (λ (y : Seen). y.waiting) is ∙ ap (λ k. waiting_seen k p) is_not ∙ ap (λ k. waiting_seen k q) (sym is_not)

pub levels_not_asked : (asked : Asked) (x : Seen) (p q : Plain) → x ≡ seen_of asked p → asked.wires ≡ false → x.levels ≡ levels_seen asked.wires q
unfolding seen_of
levels_not_asked asked x p q is is_not =
    ap (λ (y : Seen). y.levels) is ∙ ap (λ k. levels_seen k p) is_not ∙ ap (λ k. levels_seen k q) (sym is_not)

-- what is seen after a turn, part by part
pub next_is : (old : Turn) (begun : Option Begun) (b : Plain) (clock : ℕ) (state : State) (was is : ℕ) (left got : Option Levels)
    → clock ≡ clock_of b → state ≡ state_of b → was ≡ old.after.waiting → is ≡ waiting_seen old.asked.keys b → left ≡ old.after.levels
    → got ≡ levels_seen old.asked.wires b → record {
      asked = old.asked;
      before = record { clock = old.after.clock; state = old.after.state; waiting = was; levels = left };
      begun = begun;
      after = record { clock = clock; state = state; waiting = is; levels = got };
    } ≡ next_turn old begun b
unfolding seen_of
next_is old begun b clock state was is left got at in_state waited waits levels_left levels_got = λ i. record {
  asked = old.asked;
  before = record { clock = old.after.clock; state = old.after.state; waiting = waited i; levels = levels_left i };
  begun = begun;
  after = record { clock = at i; state = in_state i; waiting = waits i; levels = levels_got i };
}
