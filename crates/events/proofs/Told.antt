-- What happens, against the trail, the speaker's list and memory.
use Rattle.wiring.specs.EachWire.{requested_type}
use Rattle.std.proofs.Common.{◌≡◌, ◌≢◌, ℕ, zero, suc, ◌+◌, Bool, true, false, if◌then◌else◌, List}
use Rattle.std.proofs.Common.{[], ◌∷◌, ◌++◌, map, Option, refl, sym, ap, ◌∙◌, append-nil, arith}
use Rattle.std.specs.Prelude.{◌&&◌, nat_eq, fold}
use Rattle.std.specs.Bool.{beq}
use Rattle.std.specs.List.{flat_map}
use Rattle.std.proofs.lemmas.Bool.Decides.{nat_tests}
use Rattle.std.proofs.lemmas.List.Concat.{flat_map-append}
use Rattle.std.proofs.lemmas.List.Sums.{fold-append}
use Rattle.board_types.specs.Iterate.{iterate, gathered}
use Rattle.board_types.specs.LineLevel.{is_high}
use Rattle.board_types.specs.declared.choice.ClockTable.{ClockTable}
use Rattle.board_types.specs.declared.keys.StampedKey.{StampedKey}
use Rattle.board_types.specs.declared.line.Line.{Line}
use Rattle.board_types.specs.declared.line.Line.TheVariants.{Low, High}
use Rattle.execute_meaning.specs.Cpu.{CpuState}
use Rattle.execute_meaning.specs.declared.boundary.Cause.TheVariants as causes
use Rattle.mda_text.specs.Mda as mda
use Rattle.ppi8255.specs.Ppi.{lines_b}
use Rattle.wiring.specs.BusLaws.{chips_keep_bytes}
use Rattle.wiring.specs.Chips.{ChipsState}
use Rattle.wiring.specs.Ports.{byte_at, chips_bus, is_writable}
use Rattle.wiring.specs.Wires as wires
use Rattle.wiring.specs.Wires.{after_acknowledge, after_arrival, after_arrivals, after_key_settling}
use Rattle.board_plain.specs.declared.act.Act.{Act}
use Rattle.board_plain.specs.declared.act.Act.TheVariants.{Nothing, Request, SingleStep, Iteration, Instruction}
use Rattle.board_plain.specs.declared.trail.TrailEntry.{TrailEntry}
use Rattle.board_plain.specs.Plain.{Plain, after_act, after_clock, after_clocks, byte_of, change_next}
use Rattle.board_plain.specs.Plain.{chips_after_clock, clock_of, codes_at, next_act, speaker_level, state_of}
use Rattle.board_plain.specs.Trail.{trail_next}
use Rattle.events.specs.declared.access.Access.{Access}
use Rattle.events.specs.declared.access.Access.TheVariants.{Write, In, Out}
use Rattle.events.specs.declared.event.Event.TheVariants.{Became, Began, Reached, Wired}
use Rattle.events.specs.declared.event.Wire.{Wire}
use Rattle.events.specs.declared.event.Wire.TheVariants.{Out0, Out2, Ir0, Ir1, Int, Speaker}
use Rattle.events.specs.Accesses.{accesses_next, after_noted}
use Rattle.events.specs.Events.{all_wires, chips_reached, code_latched, codes_next, events_next, is_same_state, level_of, wire_event}
use Rattle.events.specs.Noting.{after_access}
use Rattle.events.proofs.Noted.{makes_accesses}
use Rattle.events.specs.ClockLaws.{begun_by, byte_after, changed_by, MemoryIsWritten, SpeakerIsTold, TrailIsTold, written_by}
use Rattle.events.proofs.Parts.{joined, none_arrives, none_if, none_in, none_latched, none_wired, reached_of, told_in, wired_of}

-- whether the processor's state stays, and the code that moves into the latch, in the next clock

abbrev pub keeps_state : Plain → Bool
keeps_state s = is_same_state (state_of s) (state_of (after_clock s))

abbrev pub latched_next : Plain → Option ℕ
latched_next s = let after : ChipsState = after_arrivals (chips_reached s) (codes_next s) in code_latched after.keyboard (lines_b after.ppi)

-- the trail

entries_of : (xs : List TrailEntry) → flat_map begun_by (map Began xs) ≡ xs
entries_of [] = refl
entries_of (x ∷ xs) = ap (λ ys. x ∷ ys) (entries_of xs)

trail_of_clock : (s : Plain) → flat_map begun_by (events_next s) ≡ trail_next s
trail_of_clock s =
    joined begun_by s (trail_next s) [] [] [] [] [] (entries_of (trail_next s))
    (none_in begun_by (Reached (clock_of s)) (λ access. refl) (accesses_next s))
    (none_if begun_by (Became (clock_of s) (state_of (after_clock s))) refl (keeps_state s))
    (none_arrives begun_by (λ clock what code. refl) (clock_of s + 1) (chips_reached s).keyboard (codes_next s))
    (none_latched begun_by (λ clock code. refl) (clock_of s + 1) (latched_next s))
    (none_wired begun_by (λ clock wire level. refl) (clock_of s + 1) s (after_clock s) all_wires)
    ∙ append-nil (trail_next s ++ []) ∙ append-nil (trail_next s)

pub trail_is_told : TrailIsTold
trail_is_told s n = told_in begun_by trail_next trail_of_clock s n

-- the speaker's list

speaker_wire : (clock : ℕ) (a b : Line) → flat_map changed_by (if beq (is_high a) (is_high b) then [] else Wired clock Speaker (is_high b) ∷ [])
    ≡ (if beq (is_high b) (is_high a) then [] else record { clock = clock; level = b } ∷ [])
speaker_wire clock Low Low = refl
speaker_wire clock Low High = refl
speaker_wire clock High Low = refl
speaker_wire clock High High = refl

-- wires of which nothing is listed, before the others
past : (s t : Plain) (clock : ℕ) (wire : Wire) (rest : List Wire) → changed_by (Wired clock wire (level_of t wire)) ≡ []
    → flat_map changed_by (flat_map (wire_event clock s t) (wire ∷ rest)) ≡ flat_map changed_by (flat_map (wire_event clock s t) rest)
past s t clock wire rest none =
    flat_map-append changed_by (wire_event clock s t wire) (flat_map (wire_event clock s t) rest)
    ∙ ap (λ xs. xs ++ flat_map changed_by (flat_map (wire_event clock s t) rest))
    (none_if changed_by (Wired clock wire (level_of t wire)) none (beq (level_of s wire) (level_of t wire)))

speaker_of_wires : (s : Plain) → flat_map changed_by (wired_of s) ≡ change_next s
unfolding change_next level_of
speaker_of_wires s =
    let t : Plain = after_clock s in
    let clock : ℕ = clock_of s + 1 in
    past s t clock Out0 (Out2 ∷ Ir0 ∷ Ir1 ∷ Int ∷ Speaker ∷ []) refl
    ∙ past s t clock Out2 (Ir0 ∷ Ir1 ∷ Int ∷ Speaker ∷ []) refl
    ∙ past s t clock Ir0 (Ir1 ∷ Int ∷ Speaker ∷ []) refl
    ∙ past s t clock Ir1 (Int ∷ Speaker ∷ []) refl
    ∙ past s t clock Int (Speaker ∷ []) refl
    ∙ ap (flat_map changed_by) (append-nil (wire_event clock s t Speaker))
    ∙ speaker_wire clock (speaker_level s) (speaker_level t)

speaker_of_clock : (s : Plain) → flat_map changed_by (events_next s) ≡ change_next s
speaker_of_clock s =
    joined changed_by s [] [] [] [] [] (change_next s)
    (none_in changed_by Began (λ entry. refl) (trail_next s))
    (none_in changed_by (Reached (clock_of s)) (λ access. refl) (accesses_next s))
    (none_if changed_by (Became (clock_of s) (state_of (after_clock s))) refl (keeps_state s))
    (none_arrives changed_by (λ clock what code. refl) (clock_of s + 1) (chips_reached s).keyboard (codes_next s))
    (none_latched changed_by (λ clock code. refl) (clock_of s + 1) (latched_next s))
    (speaker_of_wires s)

pub speaker_is_told : SpeakerIsTold
speaker_is_told s n = told_in changed_by change_next speaker_of_clock s n

-- the bytes that are written

abbrev pub written_next : Plain → List (ℕ × ℕ)
written_next s = flat_map written_by (reached_of s)

writes_of_clock : (s : Plain) → flat_map written_by (events_next s) ≡ written_next s
writes_of_clock s =
    joined written_by s [] (written_next s) [] [] [] []
    (none_in written_by Began (λ entry. refl) (trail_next s))
    refl
    (none_if written_by (Became (clock_of s) (state_of (after_clock s))) refl (keeps_state s))
    (none_arrives written_by (λ clock what code. refl) (clock_of s + 1) (chips_reached s).keyboard (codes_next s))
    (none_latched written_by (λ clock code. refl) (clock_of s + 1) (latched_next s))
    (none_wired written_by (λ clock wire level. refl) (clock_of s + 1) s (after_clock s) all_wires)
    ∙ append-nil (written_next s ++ []) ∙ append-nil (written_next s)

-- a byte after one access

same_here : (a b : ℕ) → nat_eq a b ≡ true → a ≡ b
same_here a b is = grind (arith, nat_tests, is)

other_there : (a b : ℕ) → nat_eq a b ≡ false → b ≢ a
other_there a b is = grind (arith, nat_tests, is)

after_one_write : (c : ChipsState) (address to byte : ℕ) (takes here : Bool) → is_writable c address ≡ takes → nat_eq to address ≡ here
    → byte_at (chips_bus.after_write c to byte) address ≡ (if takes && here then byte else byte_at c address)
after_one_write c address to byte true true is at =
    ap (λ a. byte_at (chips_bus.after_write c a byte) address) (same_here to address at) ∙ chips_keep_bytes.written c address byte is
after_one_write c address to byte false true is at =
    ap (λ a. byte_at (chips_bus.after_write c a byte) address) (same_here to address at) ∙ chips_keep_bytes.refused c address byte is
after_one_write c address to byte true false is at = chips_keep_bytes.others c to byte address (other_there to address at)
after_one_write c address to byte false false is at = chips_keep_bytes.others c to byte address (other_there to address at)

after_one : (c : ChipsState) (address clock : ℕ) (takes : Bool) (access : Access) → is_writable c address ≡ takes
    → byte_at (after_access chips_bus c access) address ≡ fold (byte_after takes address) (byte_at c address) (written_by (Reached clock access))
after_one c address clock takes (Write to byte) is = after_one_write c address to byte takes (nat_eq to address) is refl
after_one c address clock takes (In port byte) is = chips_keep_bytes.input_keeps c port address
after_one c address clock takes (Out port byte) is = chips_keep_bytes.output_keeps c port byte address

takes_after_one : (c : ChipsState) (address : ℕ) (access : Access) → is_writable (after_access chips_bus c access) address ≡ is_writable c address
takes_after_one c address (Write to byte) = chips_keep_bytes.fixed c to byte address
takes_after_one c address (In port byte) = chips_keep_bytes.input_fixed c port address
takes_after_one c address (Out port byte) = chips_keep_bytes.output_fixed c port byte address

-- a byte after several accesses

after_several : (c : ChipsState) (address clock : ℕ) (takes : Bool) (accesses : List Access) → is_writable c address ≡ takes
    → byte_at (fold (after_access chips_bus) c accesses) address
    ≡ fold (byte_after takes address) (byte_at c address) (flat_map written_by (map (Reached clock) accesses))
after_several c address clock takes [] is = refl
after_several c address clock takes (a ∷ more) is =
    after_several (after_access chips_bus c a) address clock takes more (takes_after_one c address a ∙ is)
    ∙ ap (λ b. fold (byte_after takes address) b (flat_map written_by (map (Reached clock) more))) (after_one c address clock takes a is)
    ∙ sym (fold-append (byte_after takes address) (byte_at c address) (written_by (Reached clock a)) (flat_map written_by (map (Reached clock) more)))

takes_after_several : (c : ChipsState) (address : ℕ) (accesses : List Access)
    → is_writable (fold (after_access chips_bus) c accesses) address ≡ is_writable c address
takes_after_several c address [] = refl
takes_after_several c address (a ∷ more) = takes_after_several (after_access chips_bus c a) address more ∙ takes_after_one c address a

-- the chips' part of a clock writes nothing

record SameMemory (s t : ChipsState) (address : ℕ) : Type 0 where
  byte : byte_at s address ≡ byte_at t address
  takes : is_writable s address ≡ is_writable t address

memory_then : (s t u : ChipsState) (address : ℕ) → SameMemory s t address → SameMemory t u address → SameMemory s u address
memory_then s t u address first second = record { byte = first.byte ∙ second.byte; takes = first.takes ∙ second.takes }

after_code : (s : ChipsState) (code address : ℕ) → SameMemory (after_arrival s code) s address
unfolding after_arrival byte_at is_writable mda.text_byte
after_code s code address = record { byte = refl; takes = refl }

after_codes : (codes : List ℕ) (s : ChipsState) (address : ℕ) → SameMemory (after_arrivals s codes) s address
after_codes [] s address = record { byte = refl; takes = refl }
after_codes (code ∷ codes) s address =
    memory_then _ (after_arrival s code) s address (after_codes codes (after_arrival s code) address) (after_code s code address)

after_wires : (s : ChipsState) (address : ℕ) → SameMemory (wires.after_clock s) s address
unfolding wires.after_clock wires.after_settling byte_at is_writable mda.text_byte
after_wires s address = record { byte = refl; takes = refl }

after_settled : (s : ChipsState) (address : ℕ) → SameMemory (after_key_settling s) s address
unfolding after_key_settling wires.after_settling byte_at is_writable mda.text_byte
after_settled s address = record { byte = refl; takes = refl }

passed : (c : ChipsState) (keys : List StampedKey) (address : ℕ) → SameMemory (chips_after_clock c keys) c address
unfolding chips_after_clock
passed c keys address =
    let went : ChipsState = wires.after_clock c in
    let arrived : ChipsState = after_arrivals went (codes_at keys (c.clock + 1)) in
    memory_then _ arrived c address (after_settled arrived address)
    (memory_then arrived went c address (after_codes (codes_at keys (c.clock + 1)) went address) (after_wires c address))

-- an acknowledge writes nothing
acknowledged : (s : ChipsState) (address : ℕ) → SameMemory (after_acknowledge s) s address
unfolding after_acknowledge byte_at is_writable mda.text_byte
acknowledged s address = record { byte = refl; takes = refl }

-- the bus over which the processor's part makes its accesses, and that it makes them
record Made (c after : ChipsState) (accesses : List Access) (address : ℕ) : Type 0 where
  start : ChipsState
  same : SameMemory start c address
  made : after ≡ fold (after_access chips_bus) start accesses

made_by : (table : ClockTable) (cpu : CpuState) (busy : ℕ) (c : ChipsState) (act : Act) (address : ℕ)
    → Made c (after_act table cpu busy c act).bus (after_noted table cpu busy c act).bus.accesses address
made_by table cpu busy c Nothing address = record { start = c; same = record { byte = refl; takes = refl }; made = refl }
made_by table cpu busy c Request address = record {
  start = after_acknowledge c;
  same = acknowledged c address;
  made = ((makes_accesses chips_bus).enter table cpu (after_acknowledge c) (requested_type c) causes.Request).made;
}
made_by table cpu busy c SingleStep address = record {
  start = c;
  same = record { byte = refl; takes = refl };
  made = ((makes_accesses chips_bus).enter table cpu c 1 causes.SingleStep).made;
}
made_by table cpu busy c Iteration address = record {
  start = c;
  same = record { byte = refl; takes = refl };
  made = ((makes_accesses chips_bus).again cpu c).made;
}
made_by table cpu busy c (Instruction decoded) address = record {
  start = c;
  same = record { byte = refl; takes = refl };
  made = ((makes_accesses chips_bus).step table cpu c decoded).made;
}

-- a clock

pub byte_of_clock : (s : Plain) (address : ℕ) (takes : Bool) → is_writable s.chips address ≡ takes
    → byte_of (after_clock s) address ≡ fold (byte_after takes address) (byte_of s address) (written_next s)
unfolding byte_of after_clock accesses_next
byte_of_clock s address takes is =
    let m = made_by s.clocks s.cpu s.busy s.chips (next_act s) address in
    let accesses : List Access = (after_noted s.clocks s.cpu s.busy s.chips (next_act s)).bus.accesses in
    (passed (after_act s.clocks s.cpu s.busy s.chips (next_act s)).bus s.keys address).byte
    ∙ ap (λ c. byte_at c address) m.made
    ∙ after_several m.start address (clock_of s) takes accesses (m.same.takes ∙ is)
    ∙ ap (λ b. fold (byte_after takes address) b (flat_map written_by (map (Reached (clock_of s)) accesses))) m.same.byte

takes_next : (s : Plain) (address : ℕ) → is_writable (after_clock s).chips address ≡ is_writable s.chips address
unfolding after_clock
takes_next s address =
    let m = made_by s.clocks s.cpu s.busy s.chips (next_act s) address in
    (passed (after_act s.clocks s.cpu s.busy s.chips (next_act s)).bus s.keys address).takes
    ∙ ap (λ c. is_writable c address) m.made
    ∙ takes_after_several m.start address (after_noted s.clocks s.cpu s.busy s.chips (next_act s)).bus.accesses
    ∙ m.same.takes

takes_later : (n : ℕ) (s : Plain) (address : ℕ) → is_writable (after_clocks s n).chips address ≡ is_writable s.chips address
unfolding iterate
takes_later zero s address = refl
takes_later (suc n) s address = takes_next (after_clocks s n) address ∙ takes_later n s address

byte_of_clocks : (n : ℕ) (s : Plain) (address : ℕ)
    → byte_of (after_clocks s n) address ≡ fold (byte_after (is_writable s.chips address) address) (byte_of s address) (gathered after_clock written_next n s)
unfolding iterate gathered
byte_of_clocks zero s address = refl
byte_of_clocks (suc n) s address =
    let takes : Bool = is_writable s.chips address in
    let p : Plain = after_clocks s n in
    byte_of_clock p address takes (takes_later n s address)
    ∙ ap (λ b. fold (byte_after takes address) b (written_next p)) (byte_of_clocks n s address)
    ∙ sym (fold-append (byte_after takes address) (byte_of s address) (gathered after_clock written_next n s) (written_next p))

pub memory_is_written : MemoryIsWritten
memory_is_written s n address =
    byte_of_clocks n s address
    ∙ ap (λ writes. fold (byte_after (is_writable s.chips address) address) (byte_of s address) writes)
    (sym (told_in written_by written_next writes_of_clock s n))
