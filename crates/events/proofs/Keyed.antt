-- What becomes of keys' codes, against the keyboard.
use Rattle.keyboard.specs.QueueParts.{after_sending, count_after_loss, has_room, sends}
use Rattle.std.proofs.Common.{◌≡◌, ℕ, zero, suc, ◌+◌, Bool, true, false, if◌then◌else◌, List, []}
use Rattle.std.proofs.Common.{◌∷◌, ◌++◌, None, refl, sym, ap, ◌∙◌, append_assoc, append-nil}
use Rattle.std.specs.Prelude.{drop, fold, slice_get}
use Rattle.std.specs.List.{flat_map}
use Rattle.std.proofs.lemmas.List.Sums.{fold-append}
use Rattle.board_types.specs.Bits.{has_bit}
use Rattle.board_types.specs.Iterate.{gathered, iterate}
use Rattle.keyboard.specs.Keyboard as keys
use Rattle.keyboard.specs.Keyboard.{KeyboardState, after_clearing}
use Rattle.ppi8255.specs.Ppi.{lines_b}
use Rattle.wiring.specs.Chips.{ChipsState}
use Rattle.board_plain.specs.Plain.{Plain, after_clock, after_clocks, clock_of, lost_codes, state_of}
use Rattle.board_plain.specs.Trail.{trail_next}
use Rattle.events.specs.declared.event.Event.TheVariants.{Became, Began, Keyed, Reached}
use Rattle.events.specs.declared.event.KeyEvent.TheVariants.{Arrives, IsLost}
use Rattle.events.specs.Accesses.{accesses_next}
use Rattle.events.specs.Events.{all_wires, arrival_events, chips_reached, code_latched, codes_next, events_next, latch_events}
use Rattle.events.proofs.Queue.{arrived_keyboard, gathered_in, next_queue, reached_queue}
use Rattle.events.specs.ClockLaws.{come_by, latched_by, lost_by, queued_by, CodesAreTold, LossesAreTold, QueueIsTold}
use Rattle.events.proofs.Parts.{arrived_of, joined, none_if, none_in, none_latched, none_wired, settled_of, told_in}
use Rattle.events.proofs.Told.{keeps_state, latched_next}

-- the codes arrive

one_comes : (clock code : ℕ) (room : Bool) → come_by (Keyed clock (if room then Arrives else IsLost) code) ≡ code ∷ []
one_comes clock code true = refl
one_comes clock code false = refl

all_come : (clock : ℕ) (k : KeyboardState) (codes : List ℕ) → flat_map come_by (arrival_events clock k codes) ≡ codes
all_come clock k [] = refl
all_come clock k (code ∷ codes) = λ i. one_comes clock code (has_room k) i ++ all_come clock (keys.after_arrival k code) codes i

one_waits : (clock code : ℕ) (k : KeyboardState) (room : Bool) → k.waiting ++ queued_by (Keyed clock (if room then Arrives else IsLost) code)
    ≡ (if room then record k { waiting = k.waiting ++ code ∷ [] } else record k { lost = count_after_loss k.lost }).waiting
one_waits clock code k true = refl
one_waits clock code k false = append-nil k.waiting

all_wait : (clock : ℕ) (codes : List ℕ) (k : KeyboardState)
    → k.waiting ++ flat_map queued_by (arrival_events clock k codes) ≡ (fold keys.after_arrival k codes).waiting
unfolding keys.after_arrival
all_wait clock [] k = append-nil k.waiting
all_wait clock (code ∷ codes) k =
    let next : KeyboardState = keys.after_arrival k code in
    sym (append_assoc k.waiting (queued_by (Keyed clock (if has_room k then Arrives else IsLost) code)) (flat_map queued_by (arrival_events clock next codes)))
    ∙ ap (λ ws. ws ++ flat_map queued_by (arrival_events clock next codes)) (one_waits clock code k (has_room k))
    ∙ all_wait clock codes next

abbrev counted : ℕ → List ℕ → ℕ
counted lost codes = fold (λ n code. count_after_loss n) lost codes

one_is_lost : (clock code : ℕ) (k : KeyboardState) (room : Bool) → counted k.lost (lost_by (Keyed clock (if room then Arrives else IsLost) code))
    ≡ (if room then record k { waiting = k.waiting ++ code ∷ [] } else record k { lost = count_after_loss k.lost }).lost
one_is_lost clock code k true = refl
one_is_lost clock code k false = refl

all_lost : (clock : ℕ) (codes : List ℕ) (k : KeyboardState)
    → counted k.lost (flat_map lost_by (arrival_events clock k codes)) ≡ (fold keys.after_arrival k codes).lost
unfolding keys.after_arrival
all_lost clock [] k = refl
all_lost clock (code ∷ codes) k =
    let next : KeyboardState = keys.after_arrival k code in
    fold-append (λ n c. count_after_loss n) k.lost (lost_by (Keyed clock (if has_room k then Arrives else IsLost) code))
    (flat_map lost_by (arrival_events clock next codes))
    ∙ ap (λ n. counted n (flat_map lost_by (arrival_events clock next codes))) (one_is_lost clock code k (has_room k))
    ∙ all_lost clock codes next

-- the keyboard settles

sent : (clock : ℕ) (waiting : List ℕ) → waiting ≡ flat_map latched_by (latch_events clock (slice_get waiting 0)) ++ drop 1 waiting
sent clock [] = refl
sent clock (code ∷ codes) = refl

latched_as : (clock : ℕ) (k : KeyboardState) (clears sending : Bool)
    → k.waiting ≡ flat_map latched_by (latch_events clock (if clears then None else (if sending then slice_get k.waiting 0 else None)))
    ++ (if clears then after_clearing k else (if sending then after_sending k else k)).waiting
latched_as clock k true sending = refl
latched_as clock k false true = sent clock k.waiting
latched_as clock k false false = refl

latched : (clock : ℕ) (k : KeyboardState) (port_b : ℕ)
    → k.waiting ≡ flat_map latched_by (latch_events clock (code_latched k port_b)) ++ (keys.after_settling k port_b).waiting
unfolding keys.after_settling
latched clock k port_b = latched_as clock k (has_bit port_b 7) (sends k port_b)

kept_lost : (k : KeyboardState) (clears sending : Bool) → (if clears then after_clearing k else (if sending then after_sending k else k)).lost ≡ k.lost
kept_lost k true sending = refl
kept_lost k false true = refl
kept_lost k false false = refl

lost_stays : (k : KeyboardState) (port_b : ℕ) → (keys.after_settling k port_b).lost ≡ k.lost
unfolding keys.after_settling
lost_stays k port_b = kept_lost k (has_bit port_b 7) (sends k port_b)

-- each code comes

codes_of_clock : (s : Plain) → flat_map come_by (events_next s) ≡ codes_next s
codes_of_clock s =
    joined come_by s [] [] [] (codes_next s) [] []
    (none_in come_by Began (λ entry. refl) (trail_next s))
    (none_in come_by (Reached (clock_of s)) (λ access. refl) (accesses_next s))
    (none_if come_by (Became (clock_of s) (state_of (after_clock s))) refl (keeps_state s))
    (all_come (clock_of s + 1) (chips_reached s).keyboard (codes_next s))
    (none_latched come_by (λ clock code. refl) (clock_of s + 1) (latched_next s))
    (none_wired come_by (λ clock wire level. refl) (clock_of s + 1) s (after_clock s) all_wires)
    ∙ append-nil (codes_next s ++ []) ∙ append-nil (codes_next s)

pub codes_are_told : CodesAreTold
codes_are_told s n = told_in come_by codes_next codes_of_clock s n

-- the queue

abbrev queued_next : Plain → List ℕ
queued_next s = flat_map queued_by (arrived_of s)

abbrev leaving_next : Plain → List ℕ
leaving_next s = flat_map latched_by (settled_of s)

abbrev losses_next : Plain → List ℕ
losses_next s = flat_map lost_by (arrived_of s)

queued_of_clock : (s : Plain) → flat_map queued_by (events_next s) ≡ queued_next s
queued_of_clock s =
    joined queued_by s [] [] [] (queued_next s) [] []
    (none_in queued_by Began (λ entry. refl) (trail_next s))
    (none_in queued_by (Reached (clock_of s)) (λ access. refl) (accesses_next s))
    (none_if queued_by (Became (clock_of s) (state_of (after_clock s))) refl (keeps_state s))
    refl
    (none_latched queued_by (λ clock code. refl) (clock_of s + 1) (latched_next s))
    (none_wired queued_by (λ clock wire level. refl) (clock_of s + 1) s (after_clock s) all_wires)
    ∙ append-nil (queued_next s ++ []) ∙ append-nil (queued_next s)

losses_of_clock : (s : Plain) → flat_map lost_by (events_next s) ≡ losses_next s
losses_of_clock s =
    joined lost_by s [] [] [] (losses_next s) [] []
    (none_in lost_by Began (λ entry. refl) (trail_next s))
    (none_in lost_by (Reached (clock_of s)) (λ access. refl) (accesses_next s))
    (none_if lost_by (Became (clock_of s) (state_of (after_clock s))) refl (keeps_state s))
    refl
    (none_latched lost_by (λ clock code. refl) (clock_of s + 1) (latched_next s))
    (none_wired lost_by (λ clock wire level. refl) (clock_of s + 1) s (after_clock s) all_wires)
    ∙ append-nil (losses_next s ++ []) ∙ append-nil (losses_next s)

none_leaves : (clock : ℕ) (k : KeyboardState) (codes : List ℕ) → flat_map latched_by (arrival_events clock k codes) ≡ []
none_leaves clock k [] = refl
none_leaves clock k (code ∷ codes) = λ i. none_leaves_as clock code (has_room k) i ++ none_leaves clock (keys.after_arrival k code) codes i
  where
    none_leaves_as : (at key : ℕ) (room : Bool) → latched_by (Keyed at (if room then Arrives else IsLost) key) ≡ []
    none_leaves_as at key true = refl
    none_leaves_as at key false = refl

leaving_of_clock : (s : Plain) → flat_map latched_by (events_next s) ≡ leaving_next s
leaving_of_clock s =
    joined latched_by s [] [] [] [] (leaving_next s) []
    (none_in latched_by Began (λ entry. refl) (trail_next s))
    (none_in latched_by (Reached (clock_of s)) (λ access. refl) (accesses_next s))
    (none_if latched_by (Became (clock_of s) (state_of (after_clock s))) refl (keeps_state s))
    (none_leaves (clock_of s + 1) (chips_reached s).keyboard (codes_next s))
    refl
    (none_wired latched_by (λ clock wire level. refl) (clock_of s + 1) s (after_clock s) all_wires)
    ∙ append-nil (leaving_next s)

queue_of_clock : (s : Plain) → s.chips.keyboard.waiting ++ queued_next s ≡ leaving_next s ++ (after_clock s).chips.keyboard.waiting
queue_of_clock s =
    let arrived : ChipsState = gathered_in s in
    ap (λ ws. ws ++ queued_next s) (sym (reached_queue s).waiting)
    ∙ all_wait (clock_of s + 1) (codes_next s) (chips_reached s).keyboard
    ∙ ap (λ (k : KeyboardState). k.waiting) (sym (arrived_keyboard (codes_next s) (chips_reached s)))
    ∙ latched (clock_of s + 1) arrived.keyboard (lines_b arrived.ppi)
    ∙ ap (λ ws. leaving_next s ++ ws) (sym (next_queue s).waiting)

-- what comes to a queue and leaves one clock, and then the next
queue_on : (w a b l m v u : List ℕ) → w ++ a ≡ l ++ v → v ++ b ≡ m ++ u → w ++ (a ++ b) ≡ (l ++ m) ++ u
queue_on w a b l m v u first second =
    sym (append_assoc w a b) ∙ ap (λ xs. xs ++ b) first ∙ append_assoc l v b ∙ ap (λ xs. l ++ xs) second ∙ sym (append_assoc l m u)

queue_of_clocks : (n : ℕ) (s : Plain)
    → s.chips.keyboard.waiting ++ gathered after_clock queued_next n s ≡ gathered after_clock leaving_next n s ++ (after_clocks s n).chips.keyboard.waiting
unfolding iterate gathered
queue_of_clocks zero s = append-nil s.chips.keyboard.waiting
queue_of_clocks (suc n) s =
    queue_on s.chips.keyboard.waiting (gathered after_clock queued_next n s) (queued_next (after_clocks s n))
    (gathered after_clock leaving_next n s) (leaving_next (after_clocks s n)) _ _ (queue_of_clocks n s) (queue_of_clock (after_clocks s n))

pub queue_is_told : QueueIsTold
queue_is_told s n =
    ap (λ codes. s.chips.keyboard.waiting ++ codes) (told_in queued_by queued_next queued_of_clock s n)
    ∙ queue_of_clocks n s
    ∙ ap (λ codes. codes ++ (after_clocks s n).chips.keyboard.waiting) (sym (told_in latched_by leaving_next leaving_of_clock s n))

-- the codes that are lost

losses_next_counted : (s : Plain) → (after_clock s).chips.keyboard.lost ≡ counted s.chips.keyboard.lost (losses_next s)
losses_next_counted s =
    let arrived : ChipsState = gathered_in s in
    (next_queue s).lost
    ∙ lost_stays arrived.keyboard (lines_b arrived.ppi)
    ∙ ap (λ (k : KeyboardState). k.lost) (arrived_keyboard (codes_next s) (chips_reached s))
    ∙ sym (all_lost (clock_of s + 1) (codes_next s) (chips_reached s).keyboard)
    ∙ ap (λ n. counted n (losses_next s)) (reached_queue s).lost

losses_of_clocks : (n : ℕ) (s : Plain) → (after_clocks s n).chips.keyboard.lost ≡ counted s.chips.keyboard.lost (gathered after_clock losses_next n s)
unfolding iterate gathered
losses_of_clocks zero s = refl
losses_of_clocks (suc n) s =
    losses_next_counted (after_clocks s n)
    ∙ ap (λ lost. counted lost (losses_next (after_clocks s n))) (losses_of_clocks n s)
    ∙ sym (fold-append (λ lost code. count_after_loss lost) s.chips.keyboard.lost (gathered after_clock losses_next n s) (losses_next (after_clocks s n)))

pub losses_are_told : LossesAreTold
unfolding lost_codes
losses_are_told s n =
    losses_of_clocks n s ∙ ap (λ codes. counted s.chips.keyboard.lost codes) (sym (told_in lost_by losses_next losses_of_clock s n))
