-- At power-on the wires have settled, and the keyboard, and keys that arrive before anything else leave them so.
use Rattle.std.proofs.Common.{◌≡◌, ℕ, Bool, true, false, if◌then◌else◌, List, [], ◌∷◌, Option, None, refl, sym, ap, ◌∙◌, arith}
use Rattle.std.specs.Prelude.{is_some}
use Rattle.std.proofs.lemmas.Grind.{common_steps}
use Rattle.board_types.specs.Bits.{has_bit}
use Rattle.board_types.specs.LineLevel.{from_bool}
use Rattle.board_types.specs.declared.choice.TimerKind.{TimerKind}
use Rattle.pic8259.specs.Pic.{PicState, after_line}
use Rattle.pit8253.specs.Counter as counter
use Rattle.pit8253.specs.Pit as pit
use Rattle.pit8253.specs.Pit.{PitState}
use Rattle.ppi8255.specs.Ppi as ppi
use Rattle.ppi8255.specs.Ppi.{PpiState, lines_b}
use Rattle.keyboard.specs.Keyboard as keys
use Rattle.keyboard.specs.Keyboard.{KeyboardState, after_clearing}
use Rattle.wiring.specs.Chips.{ChipsState, power_on}
use Rattle.wiring.specs.Wires.{after_settling, after_arrival, after_arrivals}
use Rattle.wiring.specs.EachWire.{after_latch_wire, after_gate_wire}
use Rattle.wiring.specs.WiringLaws.{KeysSettled}

-- a key that arrives only waits
latch_kept : (k : KeyboardState) (code : ℕ) → (keys.after_arrival k code).latch ≡ k.latch
unfolding keys.after_arrival
latch_kept k code = grind (arith, common_steps)

cleared_same : (k : KeyboardState) → k.latch ≡ None → after_clearing k ≡ k
cleared_same k empty = ap (λ l. record k { latch = l }) (sym empty)

cleared_if : (b : Bool) (k : KeyboardState) → k.latch ≡ None → (if b then after_clearing k else k) ≡ k
cleared_if true k empty = cleared_same k empty
cleared_if false k empty = refl

latch_wire_same : (k : KeyboardState) (ppi : PpiState) → k.latch ≡ None → after_latch_wire k ppi ≡ k
latch_wire_same k ppi empty = cleared_if (has_bit (lines_b ppi) 7) k empty

abbrev with_parts : ChipsState → KeyboardState → PitState → PicState → ChipsState
with_parts s k pit pic = record s { keyboard = k; pit = pit; pic = pic }

-- the request lines with some latch
abbrev requests_at : PicState → PitState → Option ℕ → PicState
requests_at pic pit latch = after_line (after_line pic 0 pit.counter_0.out) 1 (from_bool (is_some latch))

arrival_settled : (s : ChipsState) (code : ℕ) → after_settling s ≡ s → s.keyboard.latch ≡ None → after_settling (after_arrival s code) ≡ after_arrival s code
unfolding after_settling after_arrival
arrival_settled s code still empty =
    let after : KeyboardState = keys.after_arrival s.keyboard code in
    let timer : PitState = after_gate_wire s.pit s.ppi in
    let none : after.latch ≡ None = latch_kept s.keyboard code ∙ empty in
    let pit : timer ≡ s.pit = ap (λ (t : ChipsState). t.pit) still in
    let pic : requests_at s.pic timer (after_latch_wire s.keyboard s.ppi).latch ≡ s.pic = ap (λ (t : ChipsState). t.pic) still in
    let was : (after_latch_wire s.keyboard s.ppi).latch ≡ None = ap (λ (k : KeyboardState). k.latch) (latch_wire_same s.keyboard s.ppi empty) ∙ empty in
    ap (λ (k : KeyboardState). with_parts s k timer (requests_at s.pic timer k.latch)) (latch_wire_same after s.ppi none)
    ∙ ap (λ latch. with_parts s after timer (requests_at s.pic timer latch)) (none ∙ sym was)
    ∙ ap (λ pic. with_parts s after timer pic) pic
    ∙ ap (λ pit. with_parts s after pit s.pic) pit

arrival_empty : (s : ChipsState) (code : ℕ) → s.keyboard.latch ≡ None → (after_arrival s code).keyboard.latch ≡ None
unfolding after_arrival
arrival_empty s code empty = latch_kept s.keyboard code ∙ empty

arrivals_settled : (codes : List ℕ) (s : ChipsState) → after_settling s ≡ s → s.keyboard.latch ≡ None
    → after_settling (after_arrivals s codes) ≡ after_arrivals s codes
arrivals_settled [] s still empty = still
arrivals_settled (code ∷ codes) s still empty = arrivals_settled codes (after_arrival s code) (arrival_settled s code still empty) (arrival_empty s code empty)

first_settled : (image : List (ℕ × ℕ)) (size sw1 sw2 : ℕ) (kind : TimerKind)
    → after_settling (power_on image size sw1 sw2 kind) ≡ power_on image size sw1 sw2 kind
unfolding after_settling power_on pit.power_on pit.after_gate counter.after_gate after_line
first_settled image size sw1 sw2 kind = refl

empty_first : (image : List (ℕ × ℕ)) (size sw1 sw2 : ℕ) (kind : TimerKind) → (power_on image size sw1 sw2 kind).keyboard.latch ≡ None
unfolding power_on
empty_first image size sw1 sw2 kind = refl

pub power_on_settled : (image : List (ℕ × ℕ)) (size sw1 sw2 : ℕ) (kind : TimerKind) (codes : List ℕ)
    → after_settling (after_arrivals (power_on image size sw1 sw2 kind) codes) ≡ after_arrivals (power_on image size sw1 sw2 kind) codes
power_on_settled image size sw1 sw2 kind codes =
    arrivals_settled codes (power_on image size sw1 sw2 kind) (first_settled image size sw1 sw2 kind) (empty_first image size sw1 sw2 kind)

-- line 6 of port B is 0, so no code moves
ppi_after_arrival : (s : ChipsState) (code : ℕ) → (after_arrival s code).ppi ≡ s.ppi
unfolding after_arrival
ppi_after_arrival s code = refl

ppi_after_arrivals : (codes : List ℕ) (s : ChipsState) → (after_arrivals s codes).ppi ≡ s.ppi
ppi_after_arrivals [] s = refl
ppi_after_arrivals (code ∷ codes) s = ppi_after_arrivals codes (after_arrival s code) ∙ ppi_after_arrival s code

ppi_first : (image : List (ℕ × ℕ)) (size sw1 sw2 : ℕ) (kind : TimerKind) → (power_on image size sw1 sw2 kind).ppi ≡ ppi.power_on sw1 sw2
unfolding power_on
ppi_first image size sw1 sw2 kind = refl

quiet : (k : KeyboardState) (sw1 sw2 : ℕ) → keys.after_settling k (lines_b (ppi.power_on sw1 sw2)) ≡ k
unfolding keys.after_settling
quiet k sw1 sw2 = refl

pub power_on_keys_settled : (image : List (ℕ × ℕ)) (size sw1 sw2 : ℕ) (kind : TimerKind) (codes : List ℕ)
    → KeysSettled (after_arrivals (power_on image size sw1 sw2 kind) codes)
power_on_keys_settled image size sw1 sw2 kind codes =
    ap (λ (ports : PpiState). keys.after_settling (after_arrivals (power_on image size sw1 sw2 kind) codes).keyboard (lines_b ports))
    (ppi_after_arrivals codes (power_on image size sw1 sw2 kind) ∙ ppi_first image size sw1 sw2 kind)
    ∙ quiet (after_arrivals (power_on image size sw1 sw2 kind) codes).keyboard sw1 sw2
