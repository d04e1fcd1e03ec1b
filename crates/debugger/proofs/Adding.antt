-- Boards that get one more key stand at their clocks as if the first one had had it.
use Rattle.std.proofs.Common.{◌≡◌, ℕ, suc, ◌+◌, ◌<◌, ◌≤◌, List, [], ◌∷◌, ◌++◌, length, take, drop, get_or, set, refl, sym, ap, ◌∙◌, subst, arith}
use Rattle.std.specs.Prelude.{All, Contains}
use Rattle.std.proofs.lemmas.List.{drop-set, drop-set-lt, drop_all, drop_at, get_or-take, length-append}
use Rattle.std.proofs.lemmas.List.{length-drop, length-set, length-take, take-set, take-take, take_at}
use Rattle.std.proofs.lemmas.List.Elements.{All-cons, All-contains, All-nil, All-same, All-weaker, Contains-get_or}
use Rattle.board_types.specs.declared.keys.StampedKey.{StampedKey}
use Rattle.board_plain.specs.Board.{BoardState}
use Rattle.board_plain.specs.Plain.{Plain, changes_in, clock_of}
use Rattle.board_plain.specs.Stops.{HasAddress}
use Rattle.board_plain.specs.Trail.{last, trail_in}
use Rattle.board_plain.specs.declared.speaker.SpeakerChange.{SpeakerChange}
use Rattle.board_plain.specs.declared.stop.Condition.{Condition}
use Rattle.board_plain.specs.declared.trail.TrailEntry.{TrailEntry}
use Rattle.debugger_meaning.specs.SessionInvariant.{IsSession}
use Rattle.debugger_meaning.specs.Stands.{SessionState, Shown, shown_of, Stands, StandsAfter, StandsAt}
use Rattle.debugger.specs.CopiesWithKey.{board_with, HasKey, HaveKey}
use Rattle.events.specs.WithKey.{inserted, with_key}
use Rattle.events.proofs.KeyToCome.{changes_stay, entries_stay, key_waits}

abbrev shown_with : Shown → StampedKey → Shown
shown_with first key = record first { plain = with_key first.plain key }

clock_same : (s : Plain) (key : StampedKey) → clock_of (with_key s key) ≡ clock_of s
unfolding clock_of with_key
clock_same s key = refl

-- what a board with the longer list of keys is
pub made_with : (board new : BoardState) (keys : List StampedKey) (key : StampedKey)
    → new ≡ record board { plain = record board.plain { keys = keys } } → keys ≡ inserted board.plain.keys key → new ≡ board_with board key
unfolding with_key
made_with board new keys key made is = made ∙ ap (λ (ks : List StampedKey). record board { plain = record board.plain { keys = ks } }) is

-- the law of a key that is to come, for a board before its stamp
stands_with : (first : Shown) (board : BoardState) (key : StampedKey) (n : ℕ) → clock_of board.plain < key.stamp → StandsAt n first board
    → StandsAt n (shown_with first key) (board_with board key)
stands_with first board key n early at =
    let before : clock_of first.plain + n < key.stamp = let clock = at.clock in omega (arith, clock, early) in record {
      plain = ap (λ (s : Plain). with_key s key) at.plain ∙ sym (key_waits n first.plain key before);
      clock = clock_same board.plain key ∙ at.clock ∙ ap (λ c. c + n) (sym (clock_same first.plain key));
      changes = at.changes ∙ ap (λ (xs : List SpeakerChange). first.changes ++ xs) (sym (changes_stay n first.plain key before));
      trail = at.trail ∙ ap (λ (xs : List TrailEntry). last 32 (first.trail ++ xs)) (sym (entries_stay n first.plain key before));
    }

pub stands_after_with : (first : Shown) (board : BoardState) (key : StampedKey)
    → clock_of board.plain < key.stamp → StandsAfter first board → StandsAfter (shown_with first key) (board_with board key)
stands_after_with first board key early at = (at.0, stands_with first board key at.0 early at.1)

one_stands : (first : Shown) (old : List BoardState) (key : StampedKey) (board : BoardState)
    → All (StandsAfter first) old → HasKey key old board → StandsAfter (shown_with first key) board
one_stands first old key board all has =
    subst (StandsAfter (shown_with first key)) (sym has.is)
    (stands_after_with first has.before key has.early (All-contains (StandsAfter first) old has.before all has.there))

-- a session is still one after its parts get the key
pub session_with : (first board new_first new_board : BoardState) (kept new_kept : List BoardState) (stops : List Condition) (key : StampedKey)
    → clock_of board.plain < key.stamp → IsSession first board kept stops → new_first ≡ board_with first key
    → new_board ≡ board_with board key → HaveKey key kept new_kept → IsSession new_first new_board new_kept stops
session_with first board new_first new_board kept new_kept stops key early all is_first is_board have =
    subst (λ (f : BoardState). IsSession f new_board new_kept stops) (sym is_first)
    (subst (λ (b : BoardState). IsSession (board_with first key) b new_kept stops) (sym is_board)
    (record {
      addresses = all.addresses;
      stands = stands_after_with (shown_of first) board key early all.stands;
      copies = All-weaker (HasKey key kept) (StandsAfter (shown_with (shown_of first) key))
          (λ copy has. one_stands (shown_of first) kept key copy all.copies has) new_kept have;
    }))

-- the copies, from the last one to the first: those before a place are as they were, those from there on have the key
pub record Adds (key : StampedKey) (old : List BoardState) (index : ℕ) (now : List BoardState) : Type 0 where
  pub within : index ≤ length now
  pub fewer : length now ≤ length old
  pub before : take index now ≡ take index old
  pub after : HaveKey key old (drop index now)

pub adds_none : (key : StampedKey) (old : List BoardState) (index : ℕ) → index ≡ length old → Adds key old index old
adds_none key old index all = record {
  within = omega (arith, all);
  fewer = omega arith;
  before = refl;
  after = All-same (HasKey key old) (drop index old) [] (drop_all index old (omega (arith, all))) (All-nil (HasKey key old));
}

pub added_all : (key : StampedKey) (old now : List BoardState) (index : ℕ) → index ≡ 0 → Adds key old index now → HaveKey key old now
added_all key old now index none adds = subst (λ i. HaveKey key old (drop i now)) none adds.after

fewer_same : (index : ℕ) (xs ys : List BoardState) → take (index + 1) xs ≡ take (index + 1) ys → take index xs ≡ take index ys
fewer_same index xs ys same =
    sym (take-take index (index + 1) xs (omega arith)) ∙ ap (take index) same ∙ take-take index (index + 1) ys (omega arith)

there_before : (index : ℕ) (xs ys : List BoardState) (d : BoardState)
    → index < length ys → take (index + 1) xs ≡ take (index + 1) ys → Contains ys (get_or xs index d)
there_before index xs ys d within same =
    subst (Contains ys)
    (sym (get_or-take (index + 1) ys index d (omega arith))
    ∙ ap (λ (zs : List BoardState). get_or zs index d) (sym same) ∙ get_or-take (index + 1) xs index d (omega arith))
    (Contains-get_or ys index d within)

-- the copy at a place got the key
pub adds_more : (key : StampedKey) (old now next : List BoardState) (index : ℕ) (was got : BoardState) → was ≡ get_or now index was
    → clock_of was.plain < key.stamp → got ≡ board_with was key → next ≡ set now index got → Adds key old (index + 1) now → Adds key old index next
adds_more key old now next index was got at early gets made adds =
    let size : length next ≡ length now = ap length made ∙ length-set now index got in
    let few : length now ≤ length old = adds.fewer in
    let long : index + 1 ≤ length now = adds.within in
    let there : Contains old was = subst (Contains old) (sym at) (there_before index now old was (omega (arith, long, few)) adds.before) in
    let has : HasKey key old got = record { before = was; there = there; early = early; is = gets } in record {
      within = omega (arith, size, long);
      fewer = omega (arith, size, few);
      before = ap (take index) made ∙ take-set now index got ∙ fewer_same index now old adds.before;
      after = All-same (HasKey key old) (drop index next) (got ∷ drop (index + 1) now) (ap (drop index) made ∙ drop-set now index got (omega (arith, long)))
          (All-cons (HasKey key old) got (drop (index + 1) now) has adds.after);
    }

-- the copy at a place went
pub adds_less : (key : StampedKey) (old now mid next : List BoardState) (index : ℕ) (got : BoardState)
    → mid ≡ set now index got → next ≡ take index mid ++ drop (index + 1) mid → Adds key old (index + 1) now → Adds key old index next
adds_less key old now mid next index got made left adds =
    let few : length now ≤ length old = adds.fewer in
    let long : index + 1 ≤ length now = adds.within in
    let front : take index mid ≡ take index now = ap (take index) made ∙ take-set now index got in
    let rest : drop (index + 1) mid ≡ drop (index + 1) now = ap (drop (index + 1)) made ∙ drop-set-lt (index + 1) now index got (omega arith) in
    let joined : take index mid ++ drop (index + 1) mid ≡ take index now ++ drop (index + 1) now = λ i. front i ++ rest i in
    let parts : next ≡ take index now ++ drop (index + 1) now = left ∙ joined in
    let least = length-take index now in
    let size_front : length (take index now) ≡ index = omega (arith, least, long) in
    let following = length-drop (index + 1) now in
    let both : length next ≡ length (take index now) + length (drop (index + 1) now) =
    ap length parts ∙ length-append (take index now) (drop (index + 1) now) in
    record {
      within = omega (arith, both, size_front);
      fewer = omega (arith, both, size_front, following, few, long);
      before = ap (take index) parts ∙ take_at (take index now) (drop (index + 1) now) index size_front ∙ fewer_same index now old adds.before;
      after = All-same (HasKey key old) (drop index next) (drop (index + 1) now)
          (ap (drop index) parts ∙ drop_at (take index now) (drop (index + 1) now) index size_front) adds.after;
    }
