-- Clocks that may be leapt over: what a board is after them, and that nothing is seen of them.
use Rattle.wiring.specs.EachWire.{is_requested}
use Rattle.std.proofs.Common.{◌≡◌, ℕ, zero, suc, ◌+◌, ◌-◌, ◌<◌, ◌≤◌, inl, inr, Bool, false}
use Rattle.std.proofs.Common.{if◌then◌else◌, List, [], ◌∷◌, ◌++◌, Some, refl, sym, ap, ◌∙◌, subst, arith}
use Rattle.std.specs.Prelude.{◌&&◌, ◌==◌, cond, nat_eq}
use Rattle.std.specs.List.{position_from}
use Rattle.std.proofs.lemmas.Bool.Decides.{nat_tests}
use Rattle.board_types.proofs.Iterate.{iterate_more, gathered_zero, gathered_more}
use Rattle.board_types.specs.Bits.{has_bit}
use Rattle.board_types.specs.Iterate.{iterate, gathered}
use Rattle.board_types.specs.LineLevel.{from_bool, is_high}
use Rattle.board_types.specs.declared.line.Line.{Line}
use Rattle.execute_meaning.specs.Boundaries.{boundary_of, is_halted}
use Rattle.execute_meaning.specs.Cpu.{CpuState}
use Rattle.execute_meaning.specs.Meaning.{StepResult}
use Rattle.mda_text.proofs.Raster.{clocks_move_beam}
use Rattle.mda_text.specs.Mda.{text_byte}
use Rattle.memory.specs.Map as map
use Rattle.memory.specs.Regions.{is_text_address}
use Rattle.pit8253.proofs.PitTicks.{each_counter}
use Rattle.pit8253.specs.Pit.{PitState}
use Rattle.ppi8255.specs.Ppi.{lines_b}
use Rattle.wiring.proofs.Clocks.{clock_of_clocks}
use Rattle.wiring.proofs.Leap.{clocks_leap}
use Rattle.wiring.specs.Chips.{ChipsState}
use Rattle.wiring.specs.Edges.{ticks_between}
use Rattle.wiring.specs.Ports.{byte_at}
use Rattle.wiring.specs.Speaker.{is_speaker_high}
use Rattle.wiring.specs.Wires as wires
use Rattle.board_plain.specs.declared.act.Act.{Act}
use Rattle.board_plain.specs.declared.act.Act.TheVariants.{Nothing}
use Rattle.board_plain.specs.declared.stop.Condition.{Condition}
use Rattle.board_plain.specs.declared.stop.Condition.TheVariants.{Free, At, Byte, Sound, Halted}
use Rattle.board_plain.specs.BoardLaws.{NoKeyComes, WiresHold}
use Rattle.board.specs.UnseenClocks.{passed_by}
use Rattle.board.specs.UneventfulClocks.{AreUneventful, StaysIdle, after_leap}
use Rattle.board_plain.specs.Plain.{Plain, after_act, after_clock, after_clocks, byte_of, change_next, changes_in}
use Rattle.board_plain.specs.Plain.{chips_after_clock, clock_of, codes_at, is_free, next_act, speaker_level, state_of}
use Rattle.board_plain.specs.Stops.{holding, holds}
use Rattle.board_plain.specs.Trail.{entry_at, event_of, trail_in, trail_next}
use Rattle.board_plain.proofs.Quiet.{clock_alone, holds_later, none_comes, nothing_by}
use Rattle.board.proofs.Ticking.{no_change}

-- the processor does nothing while it is busy or idle

pub not_free : (n : ℕ) → 1 ≤ n → nat_eq n 0 ≡ false
not_free n some = grind (arith, nat_tests)

pub busy_by : (free : Bool) (a : Act) → free ≡ false → (if free then a else Nothing) ≡ Nothing
busy_by free a is = ap (λ f. if f then a else Nothing) is

idle_clock : (s : Plain) (b : ℕ) (c : ChipsState) → next_act (record s { busy = b; chips = c }) ≡ Nothing → chips_after_clock c s.keys ≡ wires.after_clock c
    → after_clock (record s { busy = b; chips = c }) ≡ record s { busy = b - 1; chips = wires.after_clock c }
unfolding after_clock
idle_clock s b c nothing alone =
    ap (λ (a : Act).
    let acted : StepResult ChipsState = after_act s.clocks s.cpu b c a in
    record { cpu = acted.cpu; busy = acted.clocks - 1; chips = chips_after_clock acted.bus s.keys; keys = s.keys; clocks = s.clocks })
    nothing
    ∙ ap (λ t. record s { busy = b - 1; chips = t }) alone

-- clocks in each of which it does nothing, while no key comes; `most` is their number at the end
pub idle_clocks : (most n : ℕ) (s : Plain) → n ≤ most → WiresHold s.chips → NoKeyComes s most
    → ((i : ℕ) → i < n → next_act (record s { busy = s.busy - i; chips = wires.after_clocks s.chips i }) ≡ Nothing)
    → after_clocks s n ≡ record s { busy = s.busy - n; chips = wires.after_clocks s.chips n }
unfolding iterate clock_of
idle_clocks most zero s within holds no_key nothing =
    let same : s.busy ≡ s.busy - 0 = omega arith in ap (λ b. record s { busy = b }) same
idle_clocks most (suc n) s within holds no_key nothing =
    let c : ChipsState = wires.after_clocks s.chips n in
    let less : s.busy - n - 1 ≡ s.busy - suc n = omega arith in
    let no_codes : codes_at s.keys (c.clock + 1) ≡ [] =
    ap (λ clock. codes_at s.keys (clock + 1)) (clock_of_clocks n s.chips) ∙ none_comes s.keys s.chips.clock most n (omega (arith, within)) no_key in
    ap after_clock (idle_clocks most n s (omega (arith, within)) holds no_key (λ i before. nothing i (omega (arith, before))))
    ∙ idle_clock s (s.busy - n) c (nothing n (omega arith)) (clock_alone c s.keys (holds_later n s.chips holds) no_codes)
    ∙ ap (λ b. record s { busy = b; chips = wires.after_clock c }) less

-- fewer clocks may be leapt over too

idle_for : (s : Plain) (n k : ℕ) → k ≤ n → StaysIdle s n → StaysIdle s k
idle_for s n k within (inl busy) = inl (omega (arith, within, busy))
idle_for s n k within (inr idle) = inr idle

pub are_uneventful_for : (s : Plain) (n k : ℕ) → k ≤ n → AreUneventful s n → AreUneventful s k
are_uneventful_for s n k within are_uneventful = record {
  idle = idle_for s n k within are_uneventful.idle;
  no_key = λ j d inside.
      elim (are_uneventful.no_key j d inside) [
        | inl before ↦ inl before
        | inr later ↦ inr (omega (arith, within, later))
      ];
  out_0 = λ j few. are_uneventful.out_0 j (omega (arith, few, within));
  out_2 = λ j few. are_uneventful.out_2 j (omega (arith, few, within));
}

requests_stay : (s : Plain) (n : ℕ) → WiresHold s.chips → AreUneventful s n → is_requested (wires.after_clocks s.chips n) ≡ is_requested s.chips
requests_stay s n holds are_uneventful = ap (λ (c : ChipsState). is_requested c) (clocks_leap n s.chips holds.settled are_uneventful.out_0)

idle_act : (s : Plain) (n i : ℕ) → WiresHold s.chips → AreUneventful s n → i < n → StaysIdle s n
    → next_act (record s { busy = s.busy - i; chips = wires.after_clocks s.chips i }) ≡ Nothing
unfolding next_act
idle_act s n i holds are_uneventful before (inl busy) =
    busy_by (nat_eq (s.busy - i) 0) _ (not_free (s.busy - i) (omega (arith, before, busy)))
idle_act s n i holds are_uneventful before (inr idle) =
    nothing_by (nat_eq (s.busy - i) 0) s.cpu (wires.after_clocks s.chips i) _
    (ap (boundary_of s.cpu) (requests_stay s i holds (are_uneventful_for s n i (omega (arith, before)) are_uneventful)) ∙ idle.1)

idle_then : (s : Plain) (n k : ℕ) → k ≤ n → WiresHold s.chips → AreUneventful s n
    → after_clocks s k ≡ record s { busy = s.busy - k; chips = wires.after_clocks s.chips k }
idle_then s n k within holds are_uneventful =
    idle_clocks n k s within holds are_uneventful.no_key (λ i before. idle_act s n i holds are_uneventful (omega (arith, before, within)) are_uneventful.idle)

pub does_nothing : (s : Plain) (n i : ℕ) → WiresHold s.chips → AreUneventful s n → i < n → next_act (after_clocks s i) ≡ Nothing
does_nothing s n i holds are_uneventful before =
    ap next_act (idle_then s n i (omega (arith, before)) holds are_uneventful) ∙ idle_act s n i holds are_uneventful before are_uneventful.idle

-- n clocks that may be leapt over, all at once
pub board_leaps : (n : ℕ) (s : Plain) → WiresHold s.chips → AreUneventful s n → after_clocks s n ≡ after_leap s n
unfolding after_leap
board_leaps n s holds are_uneventful =
    idle_then s n n (omega arith) holds are_uneventful
    ∙ ap (λ c. record s { busy = s.busy - n; chips = c }) (clocks_leap n s.chips holds.settled are_uneventful.out_0)

pub clock_of_leap : (s : Plain) (n : ℕ) → clock_of (after_leap s n) ≡ clock_of s + n
unfolding clock_of after_leap
clock_of_leap s n = refl

-- OUT0 and OUT2 stay

pub out_0_stays : (s : Plain) (n : ℕ) → AreUneventful s n → (after_leap s n).chips.pit.counter_0.out ≡ s.chips.pit.counter_0.out
unfolding after_leap
out_0_stays s n are_uneventful =
    let ticks : ℕ = ticks_between s.chips.clock (s.chips.clock + n) in
    ap (λ (q : PitState). q.counter_0.out) (each_counter ticks s.chips.pit) ∙ are_uneventful.out_0 ticks (omega arith)

pub out_2_stays : (s : Plain) (n : ℕ) → AreUneventful s n → (after_leap s n).chips.pit.counter_2.out ≡ s.chips.pit.counter_2.out
unfolding after_leap
out_2_stays s n are_uneventful =
    let ticks : ℕ = ticks_between s.chips.clock (s.chips.clock + n) in
    ap (λ (q : PitState). q.counter_2.out) (each_counter ticks s.chips.pit) ∙ are_uneventful.out_2 ticks (omega arith)

level_with : (s : Plain) (n : ℕ) → (after_leap s n).chips.pit.counter_2.out ≡ s.chips.pit.counter_2.out → speaker_level (after_leap s n) ≡ speaker_level s
unfolding speaker_level is_speaker_high after_leap
level_with s n same = ap (λ (out : Line). from_bool (has_bit (lines_b s.chips.ppi) 1 && is_high out)) same

pub level_stays : (s : Plain) (n k : ℕ) → k ≤ n → WiresHold s.chips → AreUneventful s n → speaker_level (after_clocks s k) ≡ speaker_level s
level_stays s n k within holds are_uneventful =
    let less : AreUneventful s k = are_uneventful_for s n k within are_uneventful in
    ap speaker_level (board_leaps k s holds less) ∙ level_with s k (out_2_stays s k less)

-- nothing is listed

pub none_gathered : {S A : Type 0} (step : S → S) (seen : S → List A) (n : ℕ) (s : S)
    → ((i : ℕ) → i < n → seen (iterate step i s) ≡ []) → gathered step seen n s ≡ []
none_gathered step seen zero s none = gathered_zero step seen s
none_gathered step seen (suc n) s none =
    let more : suc n ≡ n + 1 = omega arith in
    ap (λ k. gathered step seen k s) more ∙ gathered_more step seen n s
    ∙ ap (λ xs. xs ++ seen (iterate step n s)) (none_gathered step seen n s (λ i before. none i (omega (arith, before))))
    ∙ none n (omega arith)

pub no_changes : (s : Plain) (n : ℕ) → WiresHold s.chips → AreUneventful s n → changes_in s n ≡ []
no_changes s n holds are_uneventful =
    none_gathered after_clock change_next n s (λ i before.
    no_change (after_clocks s i)
    (ap speaker_level (sym (iterate_more after_clock i s)) ∙ level_stays s n (i + 1) (omega (arith, before)) holds are_uneventful
    ∙ sym (level_stays s n i (omega (arith, before)) holds are_uneventful)))

pub nothing_begins : (p : Plain) → next_act p ≡ Nothing → trail_next p ≡ []
unfolding trail_next
nothing_begins p nothing = ap (λ (a : Act). entry_at p (event_of p.cpu p.chips a)) nothing

pub no_entries : (s : Plain) (n : ℕ) → WiresHold s.chips → AreUneventful s n → trail_in s n ≡ []
no_entries s n holds are_uneventful =
    none_gathered after_clock trail_next n s (λ i before. nothing_begins (after_clocks s i) (does_nothing s n i holds are_uneventful before))

-- no condition changes, short of the end

-- what conditions look at is the same
pub record LooksSame (s t : Plain) : Type 0 where
  pub cpu : t.cpu ≡ s.cpu
  pub free : is_free t ≡ is_free s
  pub bytes : (address : ℕ) → byte_of t address ≡ byte_of s address
  pub level : speaker_level t ≡ speaker_level s

one_same : (condition : Condition) (s t : Plain) → LooksSame s t → holds condition t ≡ holds condition s
unfolding holds state_of
one_same Free s t same = same.free
one_same (At cs ip) s t same = λ k. same.free k && ((same.cpu k).registers.cs == cs) && ((same.cpu k).registers.ip == ip)
one_same (Byte address value) s t same = ap (λ b. b == value) (same.bytes address)
one_same Sound s t same = ap is_high same.level
one_same Halted s t same = ap (λ (p : CpuState). is_halted p.state) same.cpu

same_position : {K : Type 0} (t u : K → Bool) (i : ℕ) (xs : List K) → ((x : K) → t x ≡ u x) → position_from t i xs ≡ position_from u i xs
same_position t u i [] same = refl
same_position t u i (x ∷ xs) same =
    ap (λ here. cond here (Some i) (position_from t (i + 1) xs)) (same x) ∙ ap (λ rest. cond (u x) (Some i) rest) (same_position t u (i + 1) xs same)

pub holding_same : (stops : List Condition) (s t : Plain) → LooksSame s t → holding stops t ≡ holding stops s
unfolding holding
holding_same stops s t same =
    same_position (λ condition. holds condition t) (λ condition. holds condition s) 1 stops (λ condition. one_same condition s t same)

-- bytes stay while only the beam moves
pub bytes_stay : (s t : Plain) (beam : ℕ) → t.chips.memory ≡ s.chips.memory
    → t.chips.mda ≡ record s.chips.mda { raster = beam } → (address : ℕ) → byte_of t address ≡ byte_of s address
unfolding byte_of byte_at text_byte
bytes_stay s t beam memory mda address =
    λ k. if is_text_address address then text_byte (mda k) (address - 0xB0000) else map.byte_at (memory k) address

-- a busy processor stays busy before its step's end
pub busy_still : (busy n k : ℕ) → k < n → n ≤ busy → nat_eq (busy - k) 0 ≡ nat_eq busy 0
busy_still busy n k before within = not_free (busy - k) (omega (arith, before, within)) ∙ sym (not_free busy (omega (arith, before, within)))

pub free_still : (busy k : ℕ) → busy ≡ 0 → nat_eq (busy - k) 0 ≡ nat_eq busy 0
free_still busy k free = let same : busy - k ≡ busy = omega (arith, free) in ap (λ b. nat_eq b 0) same

free_by : (s : Plain) (n k : ℕ) → k < n → StaysIdle s n → nat_eq (s.busy - k) 0 ≡ nat_eq s.busy 0
free_by s n k before (inl busy) = busy_still s.busy n k before busy
free_by s n k before (inr idle) = free_still s.busy k idle.0

looks_same : (s : Plain) (n k : ℕ) → k < n → AreUneventful s n → speaker_level (after_leap s k) ≡ speaker_level s → LooksSame s (after_leap s k)
unfolding after_leap
looks_same s n k before are_uneventful level = record {
  cpu = refl;
  free = free_by s n k before are_uneventful.idle;
  bytes = bytes_stay s (after_leap s k) _ refl (clocks_move_beam s.chips.mda k);
  level = level;
}

pub holding_stays : (stops : List Condition) (s : Plain) (n k : ℕ) → k < n → WiresHold s.chips → AreUneventful s n
    → holding stops (after_clocks s k) ≡ holding stops s
holding_stays stops s n k before wired are_uneventful =
    let less : AreUneventful s k = are_uneventful_for s n k (omega (arith, before)) are_uneventful in
    let level : speaker_level (after_leap s k) ≡ speaker_level s = level_with s k (out_2_stays s k less) in
    ap (holding stops) (board_leaps k s wired less) ∙ holding_same stops s (after_leap s k) (looks_same s n k before are_uneventful level)

-- the parts after a leap

pub leap_by : (n : ℕ) (s : Plain) → WiresHold s.chips → AreUneventful s n → after_leap s n ≡ passed_by s n
unfolding after_leap passed_by
leap_by n s holds are_uneventful = ap (λ c. record s { busy = s.busy - n; chips = c }) (sym (clocks_leap n s.chips holds.settled are_uneventful.out_0))

pub wires_later : (s t : ChipsState) (n : ℕ) → WiresHold s → t ≡ wires.after_clocks s n → WiresHold t
wires_later s t n wired after = subst (λ (c : ChipsState). WiresHold c) (sym after) (holds_later n s wired)
