-- A turn in which a stop is looked for, and the search so far.
use Rattle.std.proofs.Common.{◌≡◌, ℕ, zero, suc, ◌+◌, ◌-◌, ◌<◌, ◌≤◌, Bool, true, false, cond, not, inl, inr, List}
use Rattle.std.proofs.Common.{[], ◌∷◌, ◌++◌, length, map, Option, None, Some, refl, sym, ap, ◌∙◌, subst, arith}
use Rattle.std.specs.Prelude.{◌⊎◌, ◌||◌, All, IsTrue, filter, fold, is_some}
use Rattle.std.specs.List.{list_any, position_from}
use Rattle.std.proofs.lemmas.Bool.{cases_lt}
use Rattle.std.proofs.lemmas.List.Elements.{All-head, All-tail, All-weaker}
use Rattle.board_types.proofs.Iterate.{iterate_add, iterate_more, iterate_zero}
use Rattle.board_plain.proofs.Runs.{ran_none, runs_join}
use Rattle.board_plain.specs.Board.{BoardState, Ran}
use Rattle.board_plain.specs.declared.stop.Condition.{Condition}
use Rattle.board_plain.specs.Plain.{Plain, after_clock, after_clocks, byte_of, clock_of}
use Rattle.board_plain.specs.Stops.{holding, holds}
use Rattle.board_plain.specs.Trail.{trail_next}
use Rattle.board.specs.declared.one_turn.Begun.{Begun}
use Rattle.board.specs.OneTurn.{HaveSameWires, IsOneTurn}
use Rattle.board.specs.HeldBack.{IsHeldBack}
use Rattle.board.proofs.OneTurn.{MostTurns, more_turns}
use Rattle.board.proofs.Ticking.{first_clock, first_seen}
use Rattle.events.specs.declared.access.Access.{Access}
use Rattle.events.specs.declared.event.Event.{Event}
use Rattle.events.specs.declared.event.Event.TheVariants.{Began, Reached}
use Rattle.events.specs.Accesses.{accesses_next}
use Rattle.events.specs.Events.{events_next, unwired_next}
use Rattle.probe.specs.declared.bytes.Copied.{Copied}
use Rattle.probe.specs.declared.seen.Seen.{Seen}
use Rattle.probe.specs.declared.seen.Turn.{Turn}
use Rattle.probe.specs.declared.watched.Watched.{Watched}
use Rattle.probe.specs.Looked.{LooksOn, RanShort, RanToStop}
use Rattle.probe.specs.Making.{FewTurns}
use Rattle.probe.specs.Met.{asked_by, asked_with_stop, IsCopy, IsCovered, is_met, is_stop_met, met, waits_for, writes_to}
use Rattle.probe.specs.ProbeStops.{meeting, meeting_at, meets, NoneMet, standing, stands}
use Rattle.probe.specs.Seen.{asked_in, IsMade, seen_of}
use Rattle.probe.specs.Watched.{AreCopies, IsWatched, KeepsStops, stops_of}
use Rattle.probe.proofs.Changing.{byte_stays, changes_seen, nothing_changes}
use Rattle.probe.proofs.Turns.{quiet_clock, same_levels, seen_clock}
use Rattle.probe_texts.specs.declared.asked.Asked.{Asked}
use Rattle.probe_texts.specs.declared.stops.Stop.{Stop}
use Rattle.probe_texts.specs.declared.stops.Stop.TheVariants.{Standing, When, Changes}
use Rattle.probe_texts.specs.Asked.{asks, nothing_asked}
use Rattle.probe_texts.specs.Listed.{is_listed}
use Rattle.probe_texts.proofs.Asking.{any_asked, asked_grows, either, first_or, unless}

-- a clock in which nothing happens makes no access

no_access_by : (xs : List Event) (clock : ℕ) (accesses : List Access) (zs : List Event) → xs ++ (map (Reached clock) accesses ++ zs) ≡ [] → accesses ≡ []
no_access_by [] clock [] zs none = refl
no_access_by [] clock (a ∷ more) zs none = absurd (cc)
no_access_by (x ∷ xs) clock accesses zs none = absurd (cc)

no_access : (s : Plain) → unwired_next s ≡ [] → accesses_next s ≡ []
unfolding unwired_next
no_access s none = no_access_by (map Began (trail_next s)) (clock_of s) (accesses_next s) _ none

or_left : (a b : Bool) → a ≡ true → (a || b) ≡ true
or_left true b is = refl
or_left false b is = let never : false ≡ true = is in absurd (cc)

or_right : (a b : Bool) → b ≡ true → (a || b) ≡ true
or_right true b is = refl
or_right false b is = is

-- what some stops together wait for

stop_grows : (a : Asked) (stop : Stop) (e : Event) → (asks a e || waits_for e stop) ≡ true → asks (asked_with_stop a stop) e ≡ true
stop_grows a (Standing condition) e is = unless (asks a e) is
stop_grows a (When kinds) e is = asked_grows a kinds.items e is
stop_grows a (Changes address count) e is = unless (asks a e) is

stops_grow : (a : Asked) (stops : List Stop) (e : Event) → (asks a e || list_any (waits_for e) stops) ≡ true
    → asks (fold asked_with_stop a stops) e ≡ true
stops_grow a [] e is = unless (asks a e) is
stops_grow a (x ∷ xs) e is =
    stops_grow (asked_with_stop a x) xs e (first_or (asks a e || waits_for e x) (asks (asked_with_stop a x) e) (list_any (waits_for e) xs)
    (stop_grows a x e) (either (asks a e) (waits_for e x) (list_any (waits_for e) xs) is))

-- all events for which they wait are asked for
abbrev AskFor : Asked → List Stop → Type 0
AskFor asked stops = (e : Event) → list_any (waits_for e) stops ≡ true → asks asked e ≡ true

all_asked : (stops : List Stop) → AskFor (asked_by stops) stops
all_asked stops e is = stops_grow nothing_asked stops e (or_right (asks nothing_asked e) (list_any (waits_for e) stops) is)

-- a clock, stop by stop

meets_seen : (stop : Stop) (copied : Copied) (asked : Asked) (s : Plain) → ((e : Event) → waits_for e stop ≡ true → asks asked e ≡ true)
    → IsCopy copied s → IsCovered copied stop
    → meets stop s (after_clock s) ≡ is_stop_met stop copied (filter (asks asked) (events_next s)) (accesses_next s) (after_clock s)
unfolding meets
meets_seen (Standing condition) copied asked s waits copy covered = refl
meets_seen (When kinds) copied asked s waits copy covered = sym (any_asked (is_listed kinds.items) (asks asked) waits (events_next s))
meets_seen (Changes address count) copied asked s waits copy covered = changes_seen address count copied s copy covered.0 covered.1

all_seen : (watches : List Watched) (i : ℕ) (asked : Asked) (s : Plain) → AskFor asked (stops_of watches) → AreCopies watches s → All IsWatched watches
    → position_from (λ stop. meets stop s (after_clock s)) i (stops_of watches)
    ≡ position_from (λ watched. is_met watched (filter (asks asked) (events_next s)) (accesses_next s) (after_clock s)) i watches
all_seen [] i asked s waits copies watched = refl
all_seen (x ∷ xs) i asked s waits copies watched =
    let here = meets_seen x.stop x.copied asked s (λ e is. waits e (or_left (waits_for e x.stop) (list_any (waits_for e) (stops_of xs)) is))
    (All-head (λ (w : Watched). IsCopy w.copied s) x xs copies) (All-head IsWatched x xs watched).covered in
    let rest = all_seen xs (i + 1) asked s (λ e is. waits e (or_right (waits_for e x.stop) (list_any (waits_for e) (stops_of xs)) is))
    (All-tail (λ (w : Watched). IsCopy w.copied s) x xs copies) (All-tail IsWatched x xs watched) in
    λ j. cond (here j) (Some i) (rest j)

clock_met : (watches : List Watched) (asked : Asked) (s : Plain) → asked ≡ asked_by (stops_of watches) → AreCopies watches s → All IsWatched watches
    → meeting (stops_of watches) s (after_clock s) ≡ met watches (asked_in asked s 1) (accesses_next s) (after_clock s)
unfolding meeting met
clock_met watches asked s is copies watched =
    all_seen watches 1 (asked_by (stops_of watches)) s (all_asked (stops_of watches)) copies watched
    ∙ ap (λ (es : List Event). position_from (λ (w : Watched). is_met w es (accesses_next s) (after_clock s)) 1 watches)
    (ap (λ a. filter (asks a) (events_next s)) (sym is) ∙ ap (filter (asks asked)) (sym (first_seen events_next s)))

-- a clock in which nothing happens: only conditions are met

stands_still : (stop : Stop) (asked : Asked) (s : Plain) → ((e : Event) → waits_for e stop ≡ true → asks asked e ≡ true) → unwired_next s ≡ []
    → (IsTrue asked.wires → HaveSameWires s (after_clock s)) → meets stop s (after_clock s) ≡ stands stop (after_clock s)
unfolding meets stands
stands_still (Standing condition) asked s waits quiet same = refl
stands_still (When kinds) asked s waits quiet same =
    sym (any_asked (is_listed kinds.items) (asks asked) waits (events_next s))
    ∙ ap (list_any (is_listed kinds.items)) (quiet_clock asked s quiet (λ is. same_levels s (after_clock s) (same is)))
stands_still (Changes address count) asked s waits quiet same = nothing_changes address count s (no_access s quiet)

all_still : (stops : List Stop) (i : ℕ) (asked : Asked) (s : Plain)
    → AskFor asked stops → unwired_next s ≡ [] → (IsTrue asked.wires → HaveSameWires s (after_clock s))
    → position_from (λ stop. meets stop s (after_clock s)) i stops ≡ position_from (λ stop. stands stop (after_clock s)) i stops
all_still [] i asked s waits quiet same = refl
all_still (x ∷ xs) i asked s waits quiet same =
    let here = stands_still x asked s (λ e is. waits e (or_left (waits_for e x) (list_any (waits_for e) xs) is)) quiet same in
    let rest = all_still xs (i + 1) asked s (λ e is. waits e (or_right (waits_for e x) (list_any (waits_for e) xs) is)) quiet same in
    λ j. cond (here j) (Some i) (rest j)

clock_still : (stops : List Stop) (s : Plain) → unwired_next s ≡ [] → (IsTrue (asked_by stops).wires → HaveSameWires s (after_clock s))
    → meeting stops s (after_clock s) ≡ standing stops (after_clock s)
unfolding meeting standing
clock_still stops s quiet same = all_still stops 1 (asked_by stops) s (all_asked stops) quiet same

-- what holds as a condition is what the board's conditions say

abbrev one_of : Stop → List Condition
one_of (Standing condition) = condition ∷ []
one_of (When kinds) = []
one_of (Changes address count) = []

one_stands : (condition : Condition) (s t : Plain) (here there : Bool) → holds condition s ≡ here
    → holds condition t ≡ there → cond {A = Option ℕ} there (Some 1) None ≡ cond {A = Option ℕ} here (Some 1) None → there ≡ here
one_stands condition s t true true is was same = refl
one_stands condition s t false false is was same = refl
one_stands condition s t true false is was same = absurd (cc)
one_stands condition s t false true is was same = absurd (cc)

holds_alike : (condition : Condition) (s t : Plain) → holding (condition ∷ []) t ≡ holding (condition ∷ []) s → holds condition t ≡ holds condition s
unfolding holding
holds_alike condition s t same = one_stands condition s t (holds condition s) (holds condition t) refl refl same

stands_alike : (stop : Stop) (s t : Plain) → ((conditions : List Condition) → holding conditions t ≡ holding conditions s) → stands stop t ≡ stands stop s
unfolding stands
stands_alike (Standing condition) s t same = holds_alike condition s t (same (condition ∷ []))
stands_alike (When kinds) s t same = refl
stands_alike (Changes address count) s t same = refl

all_alike : (stops : List Stop) (i : ℕ) (s t : Plain) → ((conditions : List Condition) → holding conditions t ≡ holding conditions s)
    → position_from (λ stop. stands stop t) i stops ≡ position_from (λ stop. stands stop s) i stops
all_alike [] i s t same = refl
all_alike (x ∷ xs) i s t same = λ j. cond (stands_alike x s t same j) (Some i) (all_alike xs (i + 1) s t same j)

stand_alike : (stops : List Stop) (s t : Plain) → ((conditions : List Condition) → holding conditions t ≡ holding conditions s)
    → standing stops t ≡ standing stops s
unfolding standing
stand_alike stops s t same = all_alike stops 1 s t same

-- if no stop is met, none holds as a condition

none_or : (here there : Bool) (i : ℕ) (rest : Option ℕ) → (there ≡ true → here ≡ true) → cond here (Some i) rest ≡ None → (there ≡ false) × (rest ≡ None)
none_or true there i rest so none = absurd (cc)
none_or false true i rest so none = let never : false ≡ true = so refl in absurd (cc)
none_or false false i rest so none = (refl, none)

stands_meets : (stop : Stop) (s t : Plain) → stands stop t ≡ true → meets stop s t ≡ true
unfolding stands meets
stands_meets (Standing condition) s t is = is
stands_meets (When kinds) s t is = let never : false ≡ true = is in absurd (cc)
stands_meets (Changes address count) s t is = let never : false ≡ true = is in absurd (cc)

none_stands_from : (stops : List Stop) (i : ℕ) (s t : Plain) → position_from (λ stop. meets stop s t) i stops ≡ None
    → position_from (λ stop. stands stop t) i stops ≡ None
none_stands_from [] i s t none = refl
none_stands_from (x ∷ xs) i s t none =
    let parts = none_or (meets x s t) (stands x t) i (position_from (λ stop. meets stop s t) (i + 1) xs) (stands_meets x s t) none in
    ap (λ (b : Bool). cond b (Some i) (position_from (λ stop. stands stop t) (i + 1) xs)) parts.0 ∙ none_stands_from xs (i + 1) s t parts.1

pub none_stands : (stops : List Stop) (s t : Plain) → meeting stops s t ≡ None → standing stops t ≡ None
unfolding meeting standing
none_stands stops s t none = none_stands_from stops 1 s t none

-- a turn

-- what a turn from t to u meets on its way, and at its end
pub record Turned (stops : List Stop) (t u : BoardState) (watches : List Watched) (number : Option ℕ) : Type 0 where
  pub passed : ℕ
  pub some : 1 ≤ passed
  pub ran : Ran passed t u
  pub between : (j : ℕ) → 1 ≤ j → j < passed → meeting_at stops t.plain j ≡ standing stops t.plain
  pub there : meeting_at stops t.plain passed ≡ number
  pub copies : AreCopies watches u.plain

not_edges : (asked : Bool) → IsTrue asked → ¬ (IsTrue (not asked))
not_edges true is = λ yes. let never : false ≡ true = yes in absurd (cc)
not_edges false is = let never : false ≡ true = is in absurd (cc)

same_then : (s t u : Plain) → HaveSameWires s t → HaveSameWires s u → HaveSameWires t u
same_then s t u first second = record {
  pic = second.pic ∙ sym first.pic;
  out_0 = second.out_0 ∙ sym first.out_0;
  out_2 = second.out_2 ∙ sym first.out_2;
  speaker = second.speaker ∙ sym first.speaker;
}

-- each clock of a leap is still
record Stills (stops : List Stop) (n : ℕ) (s : Plain) : Type 0 where
  quiet : (j : ℕ) → j < n → unwired_next (after_clocks s j) ≡ []
  wires : (j : ℕ) → j < n → IsTrue (asked_by stops).wires → HaveSameWires (after_clocks s j) (after_clock (after_clocks s j))

wires_from : (s : Plain) (n j : ℕ) → 1 < n → HaveSameWires s (after_clock s) → ((i : ℕ) → 1 ≤ i → i ≤ n → HaveSameWires (after_clock s) (after_clocks s i))
    → j < n → j ≡ 0 ⊎ (1 ≤ j) → HaveSameWires (after_clocks s j) (after_clock (after_clocks s j))
wires_from s n j more first later within (inl none) =
    subst (λ (p : Plain). HaveSameWires p (after_clock p)) (sym (ap (after_clocks s) none ∙ iterate_zero after_clock s)) first
wires_from s n j more first later within (inr some) =
    subst (HaveSameWires (after_clocks s j)) (iterate_more after_clock j s) (same_then (after_clock s) (after_clocks s j)
    (after_clocks s (j + 1)) (later j some (omega (arith, within))) (later (j + 1) (omega arith) (omega (arith, within))))

zero_or : (j : ℕ) → (j ≡ 0) ⊎ (1 ≤ j)
zero_or zero = inl refl
zero_or (suc j) = inr (omega arith)

quiet_from : (s : Plain) (n j : ℕ) → unwired_next s ≡ [] → ((i : ℕ) → 1 ≤ i → i < n → unwired_next (after_clocks s i) ≡ []) → j < n → (j ≡ 0) ⊎ (1 ≤ j)
    → unwired_next (after_clocks s j) ≡ []
quiet_from s n j first later within (inl none) = ap unwired_next (ap (after_clocks s) none ∙ iterate_zero after_clock s) ∙ first
quiet_from s n j first later within (inr some) = later j some within

stills : (stops : List Stop) (asked : Asked) (next end : ℕ) (t u : BoardState) (begun : Option Begun) → asked ≡ asked_by stops → next ≡ clock_of t.plain + 1
    → (turn : IsOneTurn (not asked.wires) next end t u begun) → 1 < turn.passed → Stills stops turn.passed t.plain
stills stops asked next end t u begun same at turn more =
    let still = turn.leap (omega (arith, at, more)) in record {
      quiet = λ j within. quiet_from t.plain turn.passed j still.quiet turn.quiet within (zero_or j);
      wires = λ j within wires.
          let is : IsTrue asked.wires = ap (λ (a : Asked). a.wires) same ∙ wires in
          wires_from t.plain turn.passed j more (still.wires (not_edges asked.wires is)) (turn.wires (not_edges asked.wires is)) within (zero_or j);
    }

-- at each clock of a still leap the stop that holds as a condition is met
still_met : (stops : List Stop) (n j : ℕ) (s : Plain) → Stills stops n s → 1 ≤ j → j ≤ n → meeting_at stops s j ≡ standing stops (after_clocks s j)
still_met stops n j s still some within =
    let before : Plain = after_clocks s (j - 1) in
    let whole : j - 1 + 1 ≡ j = omega (arith, some) in
    let there : after_clocks s j ≡ after_clock before = ap (after_clocks s) (sym whole) ∙ iterate_more after_clock (j - 1) s in
    ap (meeting stops before) there
    ∙ clock_still stops before (still.quiet (j - 1) (omega (arith, some, within))) (still.wires (j - 1) (omega (arith, some, within)))
    ∙ ap (standing stops) (sym there)

-- no byte changes in a still leap
bytes_stay : (stops : List Stop) (n k : ℕ) (s : Plain) (address : ℕ) → Stills stops n s → k ≤ n → byte_of (after_clocks s k) address ≡ byte_of s address
bytes_stay stops n zero s address still within = ap (λ p. byte_of p address) (iterate_zero after_clock s)
bytes_stay stops n (suc k) s address still within =
    let more : suc k ≡ k + 1 = omega arith in
    ap (λ m. byte_of (after_clocks s m) address) more
    ∙ ap (λ p. byte_of p address) (iterate_more after_clock k s)
    ∙ byte_stays (after_clocks s k) address (ap (list_any (writes_to address)) (no_access (after_clocks s k) (still.quiet k (omega (arith, within)))))
    ∙ bytes_stay stops n k s address still (omega (arith, within))

-- copies stay in a still leap
copies_stay : (stops : List Stop) (n : ℕ) (s : Plain) → Stills stops n s → (watches : List Watched) → AreCopies watches s → AreCopies watches (after_clocks s n)
copies_stay stops n s still watches copies =
    All-weaker (λ (w : Watched). IsCopy w.copied s) (λ (w : Watched). IsCopy w.copied (after_clocks s n))
    (λ w copy k within. copy k within ∙ sym (bytes_stay stops n n s (w.copied.first + k) still (omega arith))) watches copies

-- what a turn's end shows
pub record Told (turn : Turn) (accesses : List Access) (t u : BoardState) (old new : List Watched) (number : Option ℕ) : Type 0 where
  pub made : IsMade turn t u
  pub within : made.within ≡ clock_of t.plain + 1
  pub asked : turn.asked ≡ asked_by (stops_of old)
  pub noted : accesses ≡ accesses_next t.plain
  pub clock : clock_of u.plain ≡ turn.before.clock + 1 → LooksOn turn accesses u old new number
  pub leap : turn.before.clock + 1 < clock_of u.plain → number ≡ standing (stops_of old) u.plain
  pub copied : turn.before.clock + 1 < clock_of u.plain → new ≡ old

pub starts_at : (turn : Turn) (t u : BoardState) → IsMade turn t u → turn.before.clock ≡ clock_of t.plain
starts_at turn t u made = ap (λ (b : Seen). b.clock) made.before ∙ seen_clock turn.asked t.plain

turned_once : (turn : Turn) (accesses : List Access) (t u : BoardState) (old new : List Watched) (number : Option ℕ)
    → (told : Told turn accesses t u old new number) → AreCopies old t.plain → All IsWatched old → told.made.one.passed ≤ 1
    → Turned (stops_of old) t u new number
turned_once turn accesses t u old new number told copies watched few =
    let s : Plain = t.plain in
    let one = told.made.one in
    let some = one.some in
    let once : one.passed ≡ 1 = omega (arith, few, some) in
    let ran : Ran 1 t u = subst (λ n. Ran n t u) once one.ran in
    let here : u.plain ≡ after_clock s = ran.plain ∙ first_clock s in
    let start = starts_at turn t u told.made in
    let clock = ran.clock in
    let looked = told.clock (omega (arith, clock, start)) in
    record {
      passed = 1;
      some = omega arith;
      ran = ran;
      between = λ j least most. absurd (omega (arith, least, most));
      there =
          (λ i. meeting (stops_of old) (iterate_zero after_clock s i) (first_clock s i))
          ∙ clock_met old turn.asked s told.asked copies watched
          ∙ (λ i. met old (asked_in turn.asked s (sym once i)) (sym told.noted i) (sym here i))
          ∙ sym (looked.number_is t told.made told.noted);
      copies = looked.copied s told.noted here copies;
    }

turned_far : (turn : Turn) (accesses : List Access) (t u : BoardState) (old new : List Watched) (number : Option ℕ)
    → (told : Told turn accesses t u old new number) → AreCopies old t.plain → 1 < told.made.one.passed → Turned (stops_of old) t u new number
turned_far turn accesses t u old new number told copies more =
    let s : Plain = t.plain in
    let one = told.made.one in
    let n : ℕ = one.passed in
    let stops : List Stop = stops_of old in
    let at = told.within in
    let still = stills stops turn.asked told.made.within told.made.end t u turn.begun told.asked at one more in
    let clock = one.ran.clock in
    let start = starts_at turn t u told.made in
    let far : turn.before.clock + 1 < clock_of u.plain = omega (arith, clock, more, start) in
    record {
      passed = n;
      some = one.some;
      ran = one.ran;
      between = λ j least most.
          still_met stops n j s still least (omega (arith, most))
          ∙ stand_alike stops s (after_clocks s j) (λ conditions. (one.leap (omega (arith, at, more))).conditions conditions j most);
      there = still_met stops n n s still one.some (omega arith) ∙ ap (standing stops) (sym one.ran.plain) ∙ sym (told.leap far);
      copies = subst (λ ws. AreCopies ws u.plain) (sym (told.copied far)) (subst (AreCopies old) (sym one.ran.plain) (copies_stay stops n s still old copies));
    }

turned_of : (turn : Turn) (accesses : List Access) (t u : BoardState) (old new : List Watched) (number : Option ℕ)
    → Told turn accesses t u old new number → AreCopies old t.plain → All IsWatched old → Turned (stops_of old) t u new number
turned_of turn accesses t u old new number told copies watched =
    elim (cases_lt told.made.one.passed 2) [
      | inl once ↦ turned_once turn accesses t u old new number told copies watched (omega (arith, once))
      | inr far ↦ turned_far turn accesses t u old new number told copies (omega (arith, far))
    ]

-- a turn of a search, by what was seen, noted and found
pub turned : (stops : List Stop) (turn : Turn) (accesses : List Access) (t u : BoardState) (old new : List Watched) (number : Option ℕ)
    → stops_of old ≡ stops → Told turn accesses t u old new number → AreCopies old t.plain → All IsWatched old → Turned stops t u new number
turned stops turn accesses t u old new number are told copies watched =
    subst (λ xs. Turned xs t u new number) are (turned_of turn accesses t u old new number told copies watched)

-- a turn that a run has made, by what was seen, noted and found
pub told_of : (stops : List Stop) (turn : Turn) (accesses : List Access) (t u b : BoardState) (next to : ℕ) (old new : List Watched) (number : Option ℕ)
    → stops_of old ≡ stops → turn.asked ≡ asked_by stops → turn.before ≡ seen_of turn.asked t.plain → turn.after ≡ seen_of turn.asked b.plain
    → b ≡ u → accesses ≡ accesses_next t.plain → next ≡ turn.before.clock + 1 → IsOneTurn (not turn.asked.wires) next to t u turn.begun
    → (clock_of b.plain ≡ turn.before.clock + 1 → LooksOn turn accesses b old new number)
    → (turn.before.clock + 1 < clock_of b.plain → number ≡ standing (stops_of old) b.plain)
    → (turn.before.clock + 1 < clock_of b.plain → new ≡ old) → Told turn accesses t u old new number
told_of stops turn accesses t u b next to old new number are asked before after here noted at one looks leap copied =
    subst (λ (v : BoardState). Told turn accesses t v old new number) here (record {
      made = record {
        within = next;
        end = to;
        one = subst (λ (v : BoardState). IsOneTurn (not turn.asked.wires) next to t v turn.begun) (sym here) one;
        before = before;
        after = after;
      };
      within = at ∙ ap (λ n. n + 1) (ap (λ (x : Seen). x.clock) before ∙ seen_clock turn.asked t.plain);
      asked = asked ∙ ap asked_by (sym are);
      noted = noted;
      clock = looks;
      leap = leap;
      copied = copied;
    })

-- the turns of a run to a stop: the first one, of one clock, needn't be paid for by work

turns_first : (edges : Bool) (begun : Option Begun) (within to end : ℕ) (s t u : BoardState) (n : ℕ) → t.turns ≡ s.turns
    → (turn : IsOneTurn edges within to t u begun) → MostTurns 2 end s u (n + turn.passed)
turns_first edges begun within to end s t u n same turn =
    let one = turn.turns in record { before_end = λ early. omega (arith, one, same); whole = omega (arith, one, same) }

turns_later : (edges : Bool) (begun : Option Begun) (within to end : ℕ) (s t u : BoardState) (n : ℕ) → MostTurns 2 end s t n → Ran n s t → to ≡ end
    → (turn : IsOneTurn edges within to t u begun) → MostTurns 2 end s u (n + turn.passed)
turns_later edges begun within to end s t u n so_far ran at =
    subst (λ e. (turn : IsOneTurn edges within e t u begun) → MostTurns 2 end s u (n + turn.passed)) (sym at)
    (λ turn. more_turns within 2 end n s t u so_far ran turn)

turns_on : (edges : Bool) (begun : Option Begun) (within to end : ℕ) (s t u : BoardState) (n k : ℕ) → (n ≡ 0 → t.turns ≡ s.turns) → MostTurns 2 end s t n
    → Ran n s t → (turn : IsOneTurn edges within to t u begun) → (0 < n → to ≡ end) → turn.passed ≡ k → MostTurns 2 end s u (n + k)
turns_on edges begun within to end s t u n k none so_far ran turn at is =
    subst (λ j. MostTurns 2 end s u (n + j)) is (elim (cases_lt 0 n) [
      | inl later ↦ turns_later edges begun within to end s t u n so_far ran (at later) turn
      | inr first ↦ turns_first edges begun within to end s t u n (none (omega (arith, first))) turn
    ])

few : {end : ℕ} {s t : BoardState} (n : ℕ) → MostTurns 2 end s t n → FewTurns n s t
few n turns = let whole = turns.whole in omega (arith, whole)

-- a run so far that has met no stop

pub record Met (stops : List Stop) (end : ℕ) (s t : BoardState) (watches : List Watched) : Type 0 where
  pub passed : ℕ
  pub ran : Ran passed s t
  pub within : clock_of t.plain ≤ end
  pub turns : MostTurns 2 end s t passed
  pub unturned : passed ≡ 0 → t.turns ≡ s.turns
  pub none : NoneMet stops passed s.plain
  pub stops_are : stops_of watches ≡ stops
  pub copies : AreCopies watches t.plain
  pub watched : All IsWatched watches

pub met_none : (stops : List Stop) (end : ℕ) (s : BoardState) (watches : List Watched) → length s.trail ≤ 32
    → clock_of s.plain ≤ end → stops_of watches ≡ stops → AreCopies watches s.plain → All IsWatched watches → Met stops end s s watches
met_none stops end s watches few within are copies watched = record {
  passed = 0;
  ran = ran_none s few;
  within = within;
  turns = record { before_end = λ early. omega arith; whole = omega arith };
  unturned = λ start. refl;
  none = λ j some least. absurd (omega (arith, some, least));
  stops_are = are;
  copies = copies;
  watched = watched;
}

-- what is met some clocks after a board that is itself some clocks later
pub met_on : (stops : List Stop) (m j : ℕ) (s p : Plain) (here : Option ℕ)
    → p ≡ after_clocks s m → 1 ≤ j → meeting_at stops p j ≡ here → meeting_at stops s (m + j) ≡ here
met_on stops m j s p here is some met =
    let before : after_clocks s (m + j - 1) ≡ after_clocks p (j - 1) =
    ap (after_clocks s) (omega (arith, some)) ∙ iterate_add after_clock m (j - 1) s ∙ ap (λ q. after_clocks q (j - 1)) (sym is) in
    let now : after_clocks s (m + j) ≡ after_clocks p j = iterate_add after_clock m j s ∙ ap (λ q. after_clocks q j) (sym is) in
    (λ i. meeting stops (before i) (now i)) ∙ met

pub none_on : (stops : List Stop) (m n : ℕ) (s p : Plain) → p ≡ after_clocks s m → NoneMet stops m s → NoneMet stops n p → NoneMet stops (m + n) s
none_on stops m n s p is first second j some within =
    elim (cases_lt m j) [
      | inl later ↦
          let place : m + (j - m) ≡ j = omega (arith, later) in
          ap (meeting_at stops s) (sym place)
          ∙ met_on stops m (j - m) s p None is (omega (arith, later)) (second (j - m) (omega (arith, later)) (omega (arith, later, within)))
      | inr sooner ↦ first j some sooner
    ]

-- no stop holds as a condition at the present clock, unless that is the start
none_standing : (stops : List Stop) (n : ℕ) (s t : BoardState) → Ran n s t → NoneMet stops n s.plain → 1 ≤ n → standing stops t.plain ≡ None
none_standing stops n s t ran none some =
    ap (standing stops) ran.plain ∙ none_stands stops (after_clocks s.plain (n - 1)) (after_clocks s.plain n) (none n some (omega arith))

-- nothing is met on the way of one more turn
none_between : (stops : List Stop) (end : ℕ) (s t u : BoardState) (old new : List Watched) (number : Option ℕ) → (so_far : Met stops end s t old)
    → (turn : Turned stops t u new number) → (so_far.passed ≡ 0 → turn.passed ≡ 1) → NoneMet stops (turn.passed - 1) t.plain
none_between stops end s t u old new number so_far turn first j some within =
    elim (cases_lt 0 so_far.passed) [
      | inl later ↦ turn.between j some (omega (arith, some, within)) ∙ none_standing stops so_far.passed s t so_far.ran so_far.none later
      | inr none ↦ let one = first (omega (arith, none)) in absurd (omega (arith, one, some, within))
    ]

last_none : (stops : List Stop) (n : ℕ) (p : Plain) → 1 ≤ n → NoneMet stops (n - 1) p → meeting_at stops p n ≡ None → NoneMet stops n p
last_none stops n p more none here j some within =
    elim (cases_lt j n) [
      | inl before ↦ none j some (omega (arith, before))
      | inr at ↦ ap (meeting_at stops p) (omega (arith, at, within)) ∙ here
    ]

pub met_more : (stops : List Stop) (end : ℕ) (s t u : BoardState) (old new : List Watched)
    → (so_far : Met stops end s t old) → (turn : Turned stops t u new None) → (so_far.passed ≡ 0 → turn.passed ≡ 1)
    → MostTurns 2 end s u (so_far.passed + turn.passed) → clock_of u.plain ≤ end
    → KeepsStops old new → Met stops end s u new
met_more stops end s t u old new so_far turn first turns within keeps = record {
  passed = so_far.passed + turn.passed;
  ran = runs_join so_far.passed turn.passed s t u so_far.ran turn.ran;
  within = within;
  turns = turns;
  unturned = λ start. let some = turn.some in absurd (omega (arith, start, some));
  none = none_on stops so_far.passed turn.passed s.plain t.plain so_far.ran.plain so_far.none
      (last_none stops turn.passed t.plain turn.some (none_between stops end s t u old new None so_far turn first) turn.there);
  stops_are = keeps.stops ∙ so_far.stops_are;
  copies = turn.copies;
  watched = keeps.watched;
}

pub ran_to_stop : (stops : List Stop) (end : ℕ) (s t u : BoardState) (old new : List Watched) (number : ℕ)
    → (so_far : Met stops end s t old) → (turn : Turned stops t u new (Some number)) → (so_far.passed ≡ 0 → turn.passed ≡ 1)
    → MostTurns 2 end s u (so_far.passed + turn.passed) → clock_of u.plain ≤ end
    → RanToStop stops end s u (Some number)
ran_to_stop stops end s t u old new number so_far turn first turns within =
    let some = turn.some in record {
      passed = so_far.passed + turn.passed;
      turns = few (so_far.passed + turn.passed) turns;
      ran = runs_join so_far.passed turn.passed s t u so_far.ran turn.ran;
      within = within;
      ended = (
        omega (arith, some),
        subst (λ n. NoneMet stops n s.plain) (omega (arith, some)) (none_on stops so_far.passed
            (turn.passed - 1) s.plain t.plain so_far.ran.plain so_far.none (none_between stops end s t u old new (Some number) so_far turn first)),
        met_on stops so_far.passed turn.passed s.plain t.plain (Some number) so_far.ran.plain some turn.there,
      );
    }

pub ran_to_end : (stops : List Stop) (end : ℕ) (s t : BoardState) (watches : List Watched)
    → Met stops end s t watches → end ≤ clock_of t.plain → RanToStop stops end s t None
ran_to_end stops end s t watches so_far past =
    let clock = so_far.ran.clock in
    let within = so_far.within in record {
      passed = so_far.passed;
      ran = so_far.ran;
      turns = few so_far.passed so_far.turns;
      within = so_far.within;
      ended = (omega (arith, clock, within, past), so_far.none);
    }

pub ran_short : (stops : List Stop) (end : ℕ) (s t u : BoardState) (watches : List Watched) → Met stops end s t watches
    → clock_of t.plain < end → IsHeldBack t u → RanShort stops end s u
ran_short stops end s t u watches so_far before held = subst (λ (v : BoardState). RanShort stops end s v) (sym held.kept) (record {
  passed = so_far.passed;
  ran = so_far.ran;
  turns = few so_far.passed so_far.turns;
  before_end = before;
  changes_next = held.changes_next;
  full = held.full;
  none = so_far.none;
})

-- what a turn's end meets, whatever it is

pub ran_some : (stops : List Stop) (end : ℕ) (s t u : BoardState) (old new : List Watched) (number : Option ℕ)
    → is_some number ≡ true → (so_far : Met stops end s t old) → (turn : Turned stops t u new number)
    → (so_far.passed ≡ 0 → turn.passed ≡ 1) → MostTurns 2 end s u (so_far.passed + turn.passed) → clock_of u.plain ≤ end
    → RanToStop stops end s u number
ran_some stops end s t u old new None some so_far turn first turns within = let never : false ≡ true = some in absurd (cc)
ran_some stops end s t u old new (Some number) some so_far turn first turns within =
    ran_to_stop stops end s t u old new number so_far turn first turns within

pub met_none_more : (stops : List Stop) (end : ℕ) (s t u : BoardState) (old new : List Watched) (number : Option ℕ)
    → is_some number ≡ false → (so_far : Met stops end s t old) → (turn : Turned stops t u new number) → (so_far.passed ≡ 0 → turn.passed ≡ 1)
    → MostTurns 2 end s u (so_far.passed + turn.passed) → clock_of u.plain ≤ end
    → KeepsStops old new → Met stops end s u new
met_none_more stops end s t u old new None none so_far turn first turns within keeps =
    met_more stops end s t u old new so_far turn first turns within keeps
met_none_more stops end s t u old new (Some number) none so_far turn first turns within keeps = let never : true ≡ false = none in absurd (cc)

-- a turn from a run's start is one clock
pub first_once : (stops : List Stop) (to : ℕ) (t u : BoardState) (new : List Watched) (number : Option ℕ)
    → (turn : Turned stops t u new number) → clock_of u.plain ≤ to → to ≡ clock_of t.plain + 1 → turn.passed ≡ 1
first_once stops to t u new number turn within is =
    let some = turn.some in
    let clock = turn.ran.clock in omega (arith, some, clock, within, is)

-- the next turn of a run that has met no stop: from the run's start it is one clock
pub looks_on : (stops : List Stop) (turn : Turn) (accesses : List Access) (next to end start : ℕ) (s t u : BoardState) (b : BoardState)
    (old new : List Watched) (number : Option ℕ) → (so_far : Met stops end s t old) → turn.asked ≡ asked_by stops
    → turn.before ≡ seen_of turn.asked t.plain → turn.after ≡ seen_of turn.asked b.plain → b ≡ u
    → accesses ≡ accesses_next t.plain → next ≡ turn.before.clock + 1 → IsOneTurn (not turn.asked.wires) next to t u turn.begun
    → (clock_of b.plain ≡ turn.before.clock + 1 → LooksOn turn accesses b old new number)
    → (turn.before.clock + 1 < clock_of b.plain → number ≡ standing (stops_of old) b.plain) → (turn.before.clock + 1 < clock_of b.plain → new ≡ old)
    → start ≡ clock_of s.plain → (turn.before.clock ≡ start → to ≡ turn.before.clock + 1) → (start < turn.before.clock → to ≡ end) → to ≤ end
    → (there : Turned stops t u new number)
    × ((so_far.passed ≡ 0 → there.passed ≡ 1) × (MostTurns 2 end s u (so_far.passed + there.passed) × (clock_of u.plain ≤ end)))
looks_on stops turn accesses next to end start s t u b old new number
    so_far asked before after here noted at one looks leap copied from first later within =
    let here_is : turn.before.clock ≡ clock_of t.plain = ap (λ (x : Seen). x.clock) before ∙ seen_clock turn.asked t.plain in
    let there = turned stops turn accesses t u old new number so_far.stops_are
    (told_of stops turn accesses t u b next to old new number so_far.stops_are asked before after here noted at one looks leap copied)
    so_far.copies so_far.watched in
    let before_end = one.before_end in
    let clock = one.ran.clock in
    let gone = so_far.ran.clock in
    let there_clock = there.ran.clock in (
      there,
      (
        (λ none. first_once stops to t u new number there (omega (arith, before_end, clock))
            (first (omega (arith, here_is, gone, none, from)) ∙ ap (λ n. n + 1) here_is)),
        (
          turns_on (not turn.asked.wires) turn.begun next to end s t u so_far.passed there.passed so_far.unturned so_far.turns
              so_far.ran one (λ some. later (omega (arith, here_is, gone, some, from))) (omega (arith, clock, there_clock)),
          omega (arith, before_end, clock, within),
        ),
      ),
    )
