-- Clocks in which nothing happens but to the wires.
use Rattle.keyboard.specs.QueueParts.{after_sending}
use Rattle.std.proofs.Common.{◌≡◌, ℕ, ◌+◌, ◌<◌, Bool, true, false, if◌then◌else◌, List, [], ◌++◌, map, Option, None, Some, refl, sym, ap, ◌∙◌}
use Rattle.std.specs.Prelude.{◌&&◌, is_none, slice_get}
use Rattle.board_types.specs.Bits.{has_bit}
use Rattle.board_types.specs.Iterate.{iterate}
use Rattle.board_types.specs.declared.state.State.{State}
use Rattle.board_types.specs.declared.state.State.TheVariants.{Running, Halted, Jammed}
use Rattle.keyboard.specs.Keyboard as keys
use Rattle.keyboard.specs.Keyboard.{KeyboardState, after_clearing}
use Rattle.ppi8255.specs.Ppi.{lines_b}
use Rattle.wiring.proofs.Clocks.{clock_of_clocks}
use Rattle.wiring.specs.Chips.{ChipsState}
use Rattle.wiring.specs.WiringLaws.{KeysSettled}
use Rattle.wiring.specs.Wires as wires
use Rattle.board_plain.specs.declared.act.Act.{Act}
use Rattle.board_plain.specs.declared.act.Act.TheVariants.{Nothing}
use Rattle.board_plain.specs.BoardLaws.{NoKeyComes, WiresHold}
use Rattle.board_plain.specs.Plain.{Plain, after_act, after_clock, after_clocks, clock_of, codes_at, next_act, state_of}
use Rattle.board_plain.proofs.Quiet.{holds_later, none_comes}
use Rattle.board_plain.proofs.Wires.{all_hold}
use Rattle.events.specs.declared.event.Event.TheVariants.{Began, Reached}
use Rattle.events.specs.Accesses.{accesses_next, after_noted}
use Rattle.events.specs.Events.{chips_reached, code_latched, key_events, latch_events, state_events, unwired_next}
use Rattle.board.specs.UnseenClocks.{passed_by}
use Rattle.board.proofs.Leap.{nothing_begins}

-- a processor that does nothing makes no access, and stays as it is

pub no_access : (s : Plain) → next_act s ≡ Nothing → accesses_next s ≡ []
unfolding accesses_next
no_access s nothing = ap (λ (a : Act). (after_noted s.clocks s.cpu s.busy s.chips a).bus.accesses) nothing

cpu_stays : (s : Plain) → next_act s ≡ Nothing → (after_clock s).cpu ≡ s.cpu
unfolding after_clock
cpu_stays s nothing = ap (λ (a : Act). (after_act s.clocks s.cpu s.busy s.chips a).cpu) nothing

state_stays : (s : Plain) → next_act s ≡ Nothing → state_of (after_clock s) ≡ state_of s
unfolding state_of
state_stays s nothing = ap (λ cpu. cpu.state) (cpu_stays s nothing)

no_state_event : (clock : ℕ) (state : State) → state_events clock state state ≡ []
no_state_event clock Running = refl
no_state_event clock Halted = refl
no_state_event clock Jammed = refl

-- no code comes, and none moves into the latch of a keyboard that has settled

sent_none : (latch first : Option ℕ) → is_none latch ≡ true → first ≡ latch → first ≡ None
sent_none None first is same = same
sent_none (Some code) first is same = let never : false ≡ true = is in cc

not_sent : (k : KeyboardState) (sent : Bool) → sent ≡ is_none k.latch → (if sent then after_sending k else k) ≡ k
    → (if sent then slice_get k.waiting 0 else None) ≡ None
not_sent k true is same = sent_none k.latch (slice_get k.waiting 0) (sym is) (ap (λ (t : KeyboardState). t.latch) same)
not_sent k false is same = refl

no_code_by : (k : KeyboardState) (cleared line : Bool)
    → (if cleared then after_clearing k else (if line && is_none k.latch then after_sending k else k)) ≡ k
    → (if cleared then None else (if line && is_none k.latch then slice_get k.waiting 0 else None)) ≡ None
no_code_by k true line same = refl
no_code_by k false true same = not_sent k (is_none k.latch) refl same
no_code_by k false false same = refl

no_code : (k : KeyboardState) (port_b : ℕ) → keys.after_settling k port_b ≡ k → code_latched k port_b ≡ None
unfolding keys.after_settling
no_code k port_b same = no_code_by k (has_bit port_b 7) (has_bit port_b 6) same

no_key_event : (clock : ℕ) (c : ChipsState) (codes : List ℕ) → codes ≡ [] → KeysSettled c → key_events clock c codes ≡ []
no_key_event clock c codes none settled =
    ap (λ xs. key_events clock c xs) none ∙ ap (latch_events clock) (no_code c.keyboard (lines_b c.ppi) settled)

reached_idle : (s : Plain) → next_act s ≡ Nothing → chips_reached s ≡ wires.after_clock s.chips
reached_idle s nothing = ap (λ (a : Act). wires.after_clock (after_act s.clocks s.cpu s.busy s.chips a).bus) nothing

-- nothing happens
uneventful : (s : Plain) → next_act s ≡ Nothing → codes_at s.keys (clock_of s + 1) ≡ [] → KeysSettled (wires.after_clock s.chips) → unwired_next s ≡ []
unfolding unwired_next
uneventful s nothing codes settled =
    (λ i. map Began (nothing_begins s nothing i)
    ++ (map (Reached (clock_of s)) (no_access s nothing i)
    ++ (state_events (clock_of s) (state_of s) (state_stays s nothing i)
    ++ key_events (clock_of s + 1) (reached_idle s nothing i) (codes_at s.keys (clock_of s + 1)))))
    ∙ (λ i. no_state_event (clock_of s) (state_of s) i
    ++ no_key_event (clock_of s + 1) (wires.after_clock s.chips) (codes_at s.keys (clock_of s + 1)) codes settled i)

settled_once : (c : ChipsState) → WiresHold (wires.after_clocks c 1) → KeysSettled (wires.after_clock c)
unfolding iterate
settled_once c holds = holds.keys

-- nothing happens in clocks in which the processor does nothing and no key comes
pub quiet_clock : (s : Plain) (n k : ℕ) → k < n → WiresHold s.chips → NoKeyComes s n
    → after_clocks s k ≡ passed_by s k → next_act (after_clocks s k) ≡ Nothing → unwired_next (after_clocks s k) ≡ []
unfolding clock_of passed_by
quiet_clock s n k before holds no_key here nothing =
    let p : Plain = after_clocks s k in
    uneventful p nothing
    (ap (λ (q : Plain). codes_at q.keys (q.chips.clock + 1)) here
    ∙ ap (λ clock. codes_at s.keys (clock + 1)) (clock_of_clocks k s.chips) ∙ none_comes s.keys s.chips.clock n k before no_key)
    (settled_once p.chips (holds_later 1 p.chips (all_hold k s holds)))
