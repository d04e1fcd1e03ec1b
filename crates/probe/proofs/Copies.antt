-- The copies of stops' bytes are made anew or renewed, one after another.
use Rattle.std.proofs.Common.{◌≡◌, ◌≢◌, ℕ, ◌+◌, ◌<◌, ◌≤◌, List, length, length-set, get_or, get_or-set_other, set, refl, sym, ◌∙◌, subst, arith}
use Rattle.std.specs.Prelude.{All}
use Rattle.std.specs.List.{AllWithin}
use Rattle.std.proofs.lemmas.List.Elements.{All-set, AllWithin-from_all, AllWithin-more_set, AllWithin-none}
use Rattle.std.proofs.Math.Seq.{map-set_same}
use Rattle.board_plain.specs.Plain.{Plain, after_clock}
use Rattle.events.specs.declared.access.Access.{Access}
use Rattle.events.specs.Accesses.{accesses_next}
use Rattle.probe.specs.declared.bytes.Copied.{Copied}
use Rattle.probe_texts.specs.declared.stops.Stop.{Stop}
use Rattle.probe_texts.specs.declared.stops.Stop.TheVariants.{Standing, When, Changes}
use Rattle.probe.specs.declared.watched.Watched.{Watched}
use Rattle.probe.specs.Met.{AreRenewed, IsCopy, IsCovered}
use Rattle.std.specs.List.{list_all}
use Rattle.std.proofs.lemmas.List.Folds.{list_all-map}
use Rattle.probe_texts.specs.Requests.{is_standing}
use Rattle.probe.specs.Watched.{all_standing, AreCopies, IsWatched, KeepsStops, StaysCopied, stops_of}
use Rattle.probe.proofs.Changing.{copy_renewed}

-- a copy of the same bytes covers the same stops

covers_on : (old new : Copied) (stop : Stop) → new.first ≡ old.first → length new.bytes.items ≡ length old.bytes.items → IsCovered old stop → IsCovered new stop
covers_on old new (Standing condition) first count covered = covered
covers_on old new (When kinds) first count covered = covered
covers_on old new (Changes address size) first count covered =
    let from = covered.0 in
    let to = covered.1 in (omega (arith, first, from), omega (arith, first, count, to))

watched_still : (old : Watched) (new : Copied) → new.first ≡ old.copied.first → length new.bytes.items ≡ length old.copied.bytes.items → IsWatched old
    → IsWatched (record { stop = old.stop; copied = new })
watched_still old new first count is =
    let room = is.room in record {
      within = is.within;
      covered = covers_on old.copied new old.stop first count is.covered;
      room = omega (arith, room, first, count);
    }

pub keeps_none : (watches : List Watched) → All IsWatched watches → KeepsStops watches watches
keeps_none watches watched = record { stops = refl; watched = watched }

pub keeps_more : (old now : List Watched) (i : ℕ) (new : Copied) (d : Watched)
    → i < length now → new.first ≡ (get_or now i d).copied.first → length new.bytes.items ≡ length (get_or now i d).copied.bytes.items → KeepsStops old now
    → KeepsStops old (set now i (record { stop = (get_or now i d).stop; copied = new }))
keeps_more old now i new d within first count keeps =
    let w : Watched = record { stop = (get_or now i d).stop; copied = new } in record {
      stops = map-set_same (λ (x : Watched). x.stop) now i w d refl ∙ keeps.stops;
      watched = All-set IsWatched now i w (watched_still (get_or now i d) new first count (keeps.watched i d within)) keeps.watched;
    }

pub keeps_both : (old now new : List Watched) → KeepsStops old now → KeepsStops now new → KeepsStops old new
keeps_both old now new first second = record { stops = second.stops ∙ first.stops; watched = second.watched }

-- copies made anew

abbrev pub Copies : Plain → Watched → Type 0
Copies t watched = IsCopy watched.copied t

pub copies_more : (now : List Watched) (i : ℕ) (w : Watched) (t : Plain)
    → i < length now → IsCopy w.copied t → AllWithin (Copies t) now 0 i → AllWithin (Copies t) (set now i w) 0 (i + 1)
copies_more now i w t within copy so_far = AllWithin-more_set now i w within (Copies t) so_far copy

pub copies_all : (now : List Watched) (i : ℕ) (t : Plain) → length now ≤ i → AllWithin (Copies t) now 0 i → AreCopies now t
copies_all now i t past so_far = λ k d within. so_far k d (omega arith) (omega (arith, within, past))

-- copies renewed

-- the first copies are those of a board, and the others those of the board a clock before
abbrev pub IsRenewedTo : ℕ → List Access → Plain → List Watched → List Watched → Type 0
IsRenewedTo i accesses t old now =
    (s : Plain) → accesses ≡ accesses_next s → t ≡ after_clock s → AreCopies old s → AllWithin (Copies t) now 0 i × AllWithin (Copies s) now i (length now)

pub renewed_none : (accesses : List Access) (t : Plain) (old : List Watched) → IsRenewedTo 0 accesses t old old
renewed_none accesses t old = λ s are at copies. (AllWithin-none (Copies t) old 0, AllWithin-from_all (Copies s) old copies)

rest_stays : (now : List Watched) (i : ℕ) (w : Watched) (k : ℕ) (e : Watched) (s : Plain)
    → i + 1 ≤ k → k < length (set now i w) → AllWithin (Copies s) now i (length now) → IsCopy (get_or (set now i w) k e).copied s
rest_stays now i w k e s low high so_far =
    let other : k ≢ i = omega (arith, low) in
    subst (λ (x : Watched). IsCopy x.copied s) (sym (get_or-set_other now i k w e other))
    (so_far k e (omega (arith, low)) (omega (arith, high, length-set now i w)))

pub renewed_more : (i : ℕ) (accesses : List Access) (t : Plain) (old now : List Watched) (new : Copied) (d : Watched)
    → i < length now → AreRenewed accesses t (get_or now i d).copied new → IsRenewedTo i accesses t old now
    → IsRenewedTo (i + 1) accesses t old (set now i (record { stop = (get_or now i d).stop; copied = new }))
renewed_more i accesses t old now new d within renewed so_far = λ s are at copies.
    let parts = so_far s are at copies in
    let was : Watched = get_or now i d in
    let w : Watched = record { stop = was.stop; copied = new } in
    let copy : IsCopy new t = subst (IsCopy new) (sym at)
    (copy_renewed was.copied new s (parts.1 i d (omega arith) within)
    (subst (λ p. AreRenewed (accesses_next s) p was.copied new) at (subst (λ xs. AreRenewed xs t was.copied new) are renewed)))
    in (
      AllWithin-more_set now i w within (Copies t) parts.0 copy,
      λ k e low high. rest_stays now i w k e s low high (parts.1),
    )

pub renewed_all : (i : ℕ) (accesses : List Access) (t : Plain) (old now : List Watched)
    → length now ≤ i → IsRenewedTo i accesses t old now → StaysCopied accesses t old now
renewed_all i accesses t old now past so_far = λ s are at copies. copies_all now i t past (so_far s are at copies).0

pub standing_is : (watches : List Watched) → list_all is_standing (stops_of watches) ≡ all_standing watches
standing_is watches = list_all-map is_standing (λ (w : Watched). w.stop) watches
