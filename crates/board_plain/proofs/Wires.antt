-- The wires at every clock of a board.
use Rattle.wiring.specs.EachWire.{requested_type}
use Rattle.std.proofs.Common.{◌≡◌, ℕ, ◌+◌, ◌*◌, zero, suc, List, [], ◌∷◌, refl, sym, ap, ◌∙◌, subst}
use Rattle.board_types.specs.declared.choice.ClockTable.{ClockTable}
use Rattle.board_types.specs.declared.choice.TimerKind.{TimerKind}
use Rattle.board_types.specs.Iterate.{iterate}
use Rattle.board_types.specs.declared.keys.StampedKey.{StampedKey}
use Rattle.execute_meaning.specs.Cpu.{CpuState}
use Rattle.execute_meaning.specs.Boundaries.{after_enter}
use Rattle.execute_meaning.specs.Meaning.{StepResult}
use Rattle.execute_meaning.specs.declared.boundary.Cause.{Cause}
use Rattle.execute_meaning.specs.declared.boundary.Cause.TheVariants as causes
use Rattle.execute_meaning.proofs.Writes.{again_keeps_any, enter_keeps_any, step_keeps_any}
use Rattle.wiring.proofs.FixedWires.{wires_stay}
use Rattle.wiring.proofs.PowerOn.{power_on_settled, power_on_keys_settled}
use Rattle.wiring.proofs.Settling.{settles_once, keys_settle_once}
use Rattle.wiring.specs.Chips as chips
use Rattle.wiring.specs.Chips.{ChipsState}
use Rattle.wiring.specs.WiringLaws.{FixedWires, KeysSettled}
use Rattle.wiring.specs.Ports.{chips_bus}
use Rattle.wiring.specs.Wires as wires
use Rattle.wiring.specs.Wires.{after_settling, after_arrival, after_arrivals, after_key_settling, after_acknowledge}
use Rattle.board_plain.specs.declared.act.Act.{Act}
use Rattle.board_plain.specs.declared.act.Act.TheVariants.{Nothing, Request, SingleStep, Iteration, Instruction}
use Rattle.board_plain.specs.declared.config.Config.{Config}
use Rattle.board_plain.specs.BoardLaws.{WiresHold, WiresAlwaysHold}
use Rattle.board_plain.specs.Plain.{Plain, after_act, after_clock, after_clocks, chips_after_clock, codes_at, next_act, power_on}

-- the wires that nothing drives

fixed_after_arrivals : (codes : List ℕ) (s : ChipsState) → FixedWires s → FixedWires (after_arrivals s codes)
fixed_after_arrivals [] s holds = holds
fixed_after_arrivals (code ∷ codes) s holds = fixed_after_arrivals codes (after_arrival s code) (wires_stay.key s code holds)

fixed_after_enter : (table : ClockTable) (cpu : CpuState) (s : ChipsState) (kind : ℕ) (cause : Cause) → FixedWires s
    → FixedWires (after_enter chips_bus table cpu s kind cause).bus
fixed_after_enter table cpu s kind cause holds = enter_keeps_any chips_bus table FixedWires wires_stay.byte cpu s kind cause holds

fixed_after_act : (table : ClockTable) (cpu : CpuState) (busy : ℕ) (s : ChipsState) (next : Act) → FixedWires s
    → FixedWires (after_act table cpu busy s next).bus
fixed_after_act table cpu busy s Nothing holds = holds
fixed_after_act table cpu busy s Request holds =
    fixed_after_enter table cpu (after_acknowledge s) (requested_type s) causes.Request (wires_stay.request s holds)
fixed_after_act table cpu busy s SingleStep holds = fixed_after_enter table cpu s 1 causes.SingleStep holds
fixed_after_act table cpu busy s Iteration holds = again_keeps_any chips_bus FixedWires wires_stay.byte cpu s holds
fixed_after_act table cpu busy s (Instruction decoded) holds =
    step_keeps_any chips_bus table FixedWires wires_stay.byte wires_stay.input wires_stay.output cpu s decoded holds

fixed_after_clock : (s : ChipsState) (keys : List StampedKey) → FixedWires s → FixedWires (chips_after_clock s keys)
unfolding chips_after_clock
fixed_after_clock s keys holds = wires_stay.keys _ (fixed_after_arrivals (codes_at keys (s.clock + 1)) (wires.after_clock s) (wires_stay.clock s holds))

-- settled wires

settled_after_clock : (s : ChipsState) (keys : List StampedKey) → after_settling (chips_after_clock s keys) ≡ chips_after_clock s keys
unfolding chips_after_clock after_key_settling
settled_after_clock s keys = settles_once _

keys_after_clock : (s : ChipsState) (keys : List StampedKey) → KeysSettled (chips_after_clock s keys)
unfolding chips_after_clock
keys_after_clock s keys = keys_settle_once _

-- the chips after a clock, whatever the processor did in it
pub holds_next : (table : ClockTable) (cpu : CpuState) (busy : ℕ) (s : ChipsState)
    (next : Act) (acted : StepResult ChipsState) (keys : List StampedKey) (t : ChipsState)
    → acted ≡ after_act table cpu busy s next → t ≡ chips_after_clock acted.bus keys → WiresHold s → WiresHold t
holds_next table cpu busy s next acted keys t is after holds =
    let fixed : FixedWires acted.bus = subst (λ (r : StepResult ChipsState). FixedWires r.bus) (sym is) (fixed_after_act table cpu busy s next holds.fixed) in
    let all : WiresHold (chips_after_clock acted.bus keys) = record {
      settled = settled_after_clock acted.bus keys;
      keys = keys_after_clock acted.bus keys;
      fixed = fixed_after_clock acted.bus keys fixed;
    } in
    subst WiresHold (sym after) all

pub one_holds : (s : Plain) → WiresHold s.chips → WiresHold (after_clock s).chips
unfolding after_clock
one_holds s holds = holds_next s.clocks s.cpu s.busy s.chips (next_act s) (after_act s.clocks s.cpu s.busy s.chips (next_act s)) s.keys _ refl refl holds

pub all_hold : (n : ℕ) (s : Plain) → WiresHold s.chips → WiresHold (after_clocks s n).chips
unfolding iterate
all_hold zero s holds = holds
all_hold (suc n) s holds = one_holds (after_clocks s n) (all_hold n s holds)

-- at power-on

first_holds : (image : List (ℕ × ℕ)) (size sw1 sw2 : ℕ) (kind : TimerKind) (codes : List ℕ)
    → WiresHold (after_arrivals (chips.power_on image size sw1 sw2 kind) codes)
first_holds image size sw1 sw2 kind codes = record {
  settled = power_on_settled image size sw1 sw2 kind codes;
  keys = power_on_keys_settled image size sw1 sw2 kind codes;
  fixed = fixed_after_arrivals codes _ (wires_stay.first image size sw1 sw2 kind);
}

pub holds_first : (image : List (ℕ × ℕ)) (size sw1 sw2 : ℕ) (kind : TimerKind) (codes : List ℕ) (s t : ChipsState)
    → s ≡ chips.power_on image size sw1 sw2 kind → t ≡ after_arrivals s codes → WiresHold t
holds_first image size sw1 sw2 kind codes s t is after =
    subst WiresHold (sym (after ∙ ap (λ (u : ChipsState). after_arrivals u codes) is)) (first_holds image size sw1 sw2 kind codes)

power_on_holds : (image : List (ℕ × ℕ)) (config : Config) (keys : List StampedKey) → WiresHold (power_on image config keys).chips
unfolding power_on
power_on_holds image config keys = first_holds image (1024 * config.ram_kb) config.sw1 config.sw2 config.timer (codes_at keys 0)

pub wires_always_hold : WiresAlwaysHold
wires_always_hold image config keys n = all_hold n (power_on image config keys) (power_on_holds image config keys)
