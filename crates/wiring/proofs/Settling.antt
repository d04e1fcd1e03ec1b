-- The wires, and the keyboard before them, settle once and for all.
use Rattle.keyboard.specs.QueueParts.{after_sending}
use Rattle.std.proofs.Common.{◌≡◌, ◌≢◌, ◌<◌, ℕ, Bool, true, false, if◌then◌else◌, List, [], ◌∷◌, Option, None, Some, refl, sym, ap, ◌∙◌, arith}
use Rattle.std.specs.Prelude.{◌&&◌, is_some, is_none}
use Rattle.board_types.specs.Bits.{has_bit}
use Rattle.board_types.specs.LineLevel.{from_bool}
use Rattle.keyboard.specs.Keyboard as keys
use Rattle.keyboard.specs.Keyboard.{KeyboardState, after_clearing}
use Rattle.pic8259.specs.Pic.{PicState}
use Rattle.pit8253.specs.Pit.{PitState}
use Rattle.ppi8255.specs.Ppi.{PpiState, lines_b}
use Rattle.wiring.specs.Chips.{ChipsState}
use Rattle.wiring.specs.Wires.{after_settling, after_key_settling}
use Rattle.wiring.specs.EachWire.{port_b_line, after_latch_wire, after_gate_wire, after_request_wires}
use Rattle.wiring.specs.WiringLaws.{SettlesOnce, KeysSettleOnce}
use Rattle.wiring.proofs.Gates.{gate_2_twice}
use Rattle.wiring.proofs.Requests.{both_lines_twice}

cleared_twice : (b : Bool) (k : KeyboardState)
    → (if b then after_clearing (if b then after_clearing k else k) else (if b then after_clearing k else k)) ≡ (if b then after_clearing k else k)
cleared_twice true k = refl
cleared_twice false k = refl

latch_twice : (k : KeyboardState) (ppi : PpiState) → after_latch_wire (after_latch_wire k ppi) ppi ≡ after_latch_wire k ppi
latch_twice k ppi = cleared_twice (has_bit (lines_b ppi) 7) k

pub below : (n m : ℕ) → n < m → n ≢ m
below n m less same = omega arith

pub above : (n m : ℕ) → n < m → m ≢ n
above n m less same = omega arith

requests_twice : (pic : PicState) (pit : PitState) (k : KeyboardState)
    → after_request_wires (after_request_wires pic pit k) pit k ≡ after_request_wires pic pit k
requests_twice pic pit k =
    let one : 0 < 1 = omega arith in
    both_lines_twice pic 1 0 (from_bool (is_some k.latch)) pit.counter_0.out (above 0 1 one) (below 0 1 one)

pub settles_once : SettlesOnce
unfolding after_settling
settles_once s =
    let keyboard : KeyboardState = after_latch_wire s.keyboard s.ppi in
    let pit : PitState = after_gate_wire s.pit s.ppi in
    let pic : PicState = after_request_wires s.pic pit keyboard in
    let twice : PitState = after_gate_wire pit s.ppi in
    ap (λ k. record s { keyboard = k; pit = twice; pic = after_request_wires pic twice k }) (latch_twice s.keyboard s.ppi)
    ∙ ap (λ p. record s { keyboard = keyboard; pit = p; pic = after_request_wires pic p keyboard }) (gate_2_twice s.pit (port_b_line s.ppi 0))
    ∙ ap (λ c. record s { keyboard = keyboard; pit = pit; pic = c }) (requests_twice s.pic pit keyboard)

-- the keyboard settled, by lines 7 and 6 of port B
abbrev settled_by : Bool → Bool → KeyboardState → KeyboardState
settled_by seventh sixth k = if seventh then after_clearing k else (if sixth && is_none k.latch then after_sending k else k)

-- a code that moved in, or none that waited, leaves nothing to move
moved_twice : (sixth : Bool) (waiting : List ℕ) (latch : Option ℕ) (lost : ℕ)
    → (let t : KeyboardState = settled_by false sixth (record { waiting = waiting; latch = latch; lost = lost }) in settled_by false sixth t ≡ t)
moved_twice false waiting latch lost = refl
moved_twice true waiting (Some code) lost = refl
moved_twice true [] None lost = refl
moved_twice true (code ∷ codes) None lost = refl

keys_twice : (seventh sixth : Bool) (k : KeyboardState) → settled_by seventh sixth (settled_by seventh sixth k) ≡ settled_by seventh sixth k
keys_twice true sixth k = refl
keys_twice false sixth k = moved_twice sixth k.waiting k.latch k.lost

keys_again : (k : KeyboardState) (port_b : ℕ) → keys.after_settling (keys.after_settling k port_b) port_b ≡ keys.after_settling k port_b
unfolding keys.after_settling
keys_again k port_b = keys_twice (has_bit port_b 7) (has_bit port_b 6) k

-- the wires empty no latch that the keyboard has settled
cleared_by : (b : Bool) (k other : KeyboardState)
    → (if b then after_clearing (if b then after_clearing k else other) else (if b then after_clearing k else other)) ≡ (if b then after_clearing k else other)
cleared_by true k other = refl
cleared_by false k other = refl

latch_again : (k : KeyboardState) (ppi : PpiState) → after_latch_wire (keys.after_settling k (lines_b ppi)) ppi ≡ keys.after_settling k (lines_b ppi)
unfolding keys.after_settling
latch_again k ppi = cleared_by (has_bit (lines_b ppi) 7) k _

pub keys_settle_once : KeysSettleOnce
unfolding after_key_settling after_settling
keys_settle_once s =
    ap (λ k. keys.after_settling k (lines_b s.ppi)) (latch_again s.keyboard s.ppi)
    ∙ keys_again s.keyboard (lines_b s.ppi)
    ∙ sym (latch_again s.keyboard s.ppi)

-- if the keyboard and the wires have settled, nothing changes
pub keys_stay : (s : ChipsState) → keys.after_settling s.keyboard (lines_b s.ppi) ≡ s.keyboard → after_settling s ≡ s → s ≡ after_key_settling s
unfolding after_key_settling
keys_stay s keyboard still = sym (ap (λ k. after_settling (record s { keyboard = k })) keyboard ∙ still)
