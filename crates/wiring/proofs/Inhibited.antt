-- While nothing is written and no key comes, a timer whose input is inhibited changes nothing of what is requested.
use Rattle.std.proofs.Common.{◌≡◌, ℕ, zero, suc, ◌+◌, ◌<◌, sym, ap, ◌∙◌, arith}
use Rattle.std.specs.Prelude.{is_some}
use Rattle.board_types.proofs.Iterate.{iterate_zero, iterate_more}
use Rattle.board_types.specs.LineLevel.{from_bool}
use Rattle.keyboard.specs.Keyboard.{KeyboardState}
use Rattle.pic8259.proofs.Inhibited.{stays_inhibited, unheard}
use Rattle.pic8259.specs.Inhibited.{is_inhibited}
use Rattle.pic8259.specs.Pic.{PicState, after_line, is_requesting}
use Rattle.wiring.specs.Alone.{IsTimerInhibited}
use Rattle.wiring.specs.Chips.{ChipsState}
use Rattle.wiring.specs.WiringLaws.{KeysSettled}
use Rattle.wiring.specs.Wires.{pit_after_clock, after_settling, after_clock, after_clocks}
use Rattle.wiring.specs.EachWire.{after_gate_wire, after_latch_wire, is_requested}
use Rattle.wiring.proofs.Alone.{keys_settled_later}
use Rattle.wiring.proofs.Latch.{latch_settled}
use Rattle.wiring.proofs.Requests.{line_twice, lines_either}
use Rattle.wiring.proofs.Settling.{above, below}
use Rattle.wiring.proofs.Ticks.{settled_later}

-- the timer's input stays inhibited

inhibited_next : (s : ChipsState) → IsTimerInhibited s → IsTimerInhibited (after_clock s)
unfolding after_clock after_settling
inhibited_next s is =
    let keyboard : KeyboardState = after_latch_wire s.keyboard s.ppi in
    let out = (after_gate_wire (pit_after_clock s.pit (s.clock + 1)) s.ppi).counter_0.out in
    stays_inhibited (after_line s.pic 0 out) 0 1 (from_bool (is_some keyboard.latch)) ∙ stays_inhibited s.pic 0 0 out ∙ is

pub inhibited_later : (s : ChipsState) (n : ℕ) → IsTimerInhibited s → IsTimerInhibited (after_clocks s n)
inhibited_later s zero is = ap (λ (t : ChipsState). is_inhibited t.pic 0) (iterate_zero after_clock s) ∙ is
inhibited_later s (suc n) is =
    let more : suc n ≡ n + 1 = omega arith in
    ap (λ (t : ChipsState). is_inhibited t.pic 0) (ap (λ k. after_clocks s k) more ∙ iterate_more after_clock n s)
    ∙ inhibited_next (after_clocks s n) (inhibited_later s n is)

-- settled wires have brought the keyboard's line to the controller
line_1_stays : (s : ChipsState) → after_settling s ≡ s → KeysSettled s → after_line s.pic 1 (from_bool (is_some s.keyboard.latch)) ≡ s.pic
unfolding after_settling
line_1_stays s still keys =
    let out = (after_gate_wire s.pit s.ppi).counter_0.out in
    let line = from_bool (is_some s.keyboard.latch) in
    let settled : after_line (after_line s.pic 0 out) 1 line ≡ s.pic =
    ap (λ (k : KeyboardState). after_line (after_line s.pic 0 out) 1 (from_bool (is_some k.latch))) (sym (latch_settled s keys))
    ∙ ap (λ (t : ChipsState). t.pic) still in
    ap (λ (p : PicState). after_line p 1 line) (sym settled) ∙ line_twice (after_line s.pic 0 out) 1 line ∙ settled

-- in a clock the controller's lines follow OUT0 alone; while that is inhibited, the request stays
request_next : (s : ChipsState) → after_settling s ≡ s → KeysSettled s → IsTimerInhibited s → is_requested (after_clock s) ≡ is_requested s
unfolding after_clock after_settling
request_next s still keys is =
    let out = (after_gate_wire (pit_after_clock s.pit (s.clock + 1)) s.ppi).counter_0.out in
    let line = from_bool (is_some s.keyboard.latch) in
    let one : 0 < 1 = omega arith in
    ap (λ (k : KeyboardState). is_requesting (after_line (after_line s.pic 0 out) 1 (from_bool (is_some k.latch)))) (latch_settled s keys)
    ∙ ap is_requesting (lines_either s.pic 1 0 line out (above 0 1 one) (below 0 1 one) ∙ ap (λ (p : PicState). after_line p 0 out) (line_1_stays s still keys))
    ∙ ap is_some (unheard s.pic 0 out is)

pub request_stays : (s : ChipsState) (n : ℕ) → after_settling s ≡ s → KeysSettled s → IsTimerInhibited s → is_requested (after_clocks s n) ≡ is_requested s
request_stays s zero still keys is = ap is_requested (iterate_zero after_clock s)
request_stays s (suc n) still keys is =
    let more : suc n ≡ n + 1 = omega arith in
    ap is_requested (ap (λ k. after_clocks s k) more ∙ iterate_more after_clock n s)
    ∙ request_next (after_clocks s n) (settled_later n s still) (keys_settled_later s n keys) (inhibited_later s n is)
    ∙ request_stays s n still keys is
