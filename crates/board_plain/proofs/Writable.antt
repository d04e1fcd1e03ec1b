-- Which addresses take bytes, at every clock of a board.
use Rattle.wiring.specs.EachWire.{requested_type}
use Rattle.std.proofs.Common.{◌≡◌, ℕ, ◌+◌, ◌*◌, ◌-◌, ◌<◌, ◌≤◌, ◌⊎◌, inl, inr, zero, suc, true}
use Rattle.std.proofs.Common.{false, if◌then◌else◌, List, [], ◌∷◌, length, refl, ap, ◌∙◌, arith}
use Rattle.std.specs.Prelude.{nat_lt}
use Rattle.std.proofs.lemmas.Grind.{common_steps}
use Rattle.std.proofs.lemmas.Bool.Decides.{nat_tests}
use Rattle.board_types.specs.declared.choice.ClockTable.{ClockTable}
use Rattle.board_types.specs.declared.choice.TimerKind.{TimerKind}
use Rattle.board_types.specs.Iterate.{iterate}
use Rattle.board_types.specs.declared.keys.StampedKey.{StampedKey}
use Rattle.execute_meaning.specs.Cpu.{CpuState}
use Rattle.execute_meaning.specs.Boundaries.{after_enter}
use Rattle.execute_meaning.specs.declared.boundary.Cause.{Cause}
use Rattle.execute_meaning.specs.declared.boundary.Cause.TheVariants as causes
use Rattle.execute_meaning.proofs.Writes.{again_keeps_any, enter_keeps_any, step_keeps_any}
use Rattle.mda_text.proofs.ScreenLaws.{is_blank}
use Rattle.mda_text.specs.Mda as mda
use Rattle.memory.specs.Regions.{is_text_address, IsTextAddress}
use Rattle.memory.specs.Map as map
use Rattle.memory.specs.Map.{IsRamSize}
use Rattle.memory.proofs.Writes.{ram_written, whole_at_power_on}
use Rattle.wiring.specs.BusLaws.{SameBytes, same_writable, chips_keep_bytes}
use Rattle.wiring.specs.Chips.{ChipsState}
use Rattle.wiring.specs.Chips as chips
use Rattle.wiring.specs.Ports.{chips_bus, is_writable}
use Rattle.wiring.specs.Wires as wires
use Rattle.wiring.specs.Wires.{after_arrival, after_arrivals, after_key_settling, after_acknowledge}
use Rattle.board_plain.specs.declared.act.Act.{Act}
use Rattle.board_plain.specs.declared.act.Act.TheVariants.{Nothing, Request, SingleStep, Iteration, Instruction}
use Rattle.board_plain.specs.declared.config.Config.{Config}
use Rattle.board_plain.specs.BoardLaws.{MemoryTakesBytes}
use Rattle.board_plain.specs.Plain.{Plain, after_act, after_clock, after_clocks, chips_after_clock, codes_at, next_act, power_on}

-- an address that takes bytes goes on taking them

same_after_arrival : (s : ChipsState) (code : ℕ) → SameBytes (after_arrival s code) s
unfolding after_arrival
same_after_arrival s code = record { memory = refl; text = refl }

same_after_clock : (s : ChipsState) → SameBytes (wires.after_clock s) s
unfolding wires.after_clock wires.after_settling
same_after_clock s = record { memory = refl; text = refl }

same_after_keys : (s : ChipsState) → SameBytes (after_key_settling s) s
unfolding after_key_settling wires.after_settling
same_after_keys s = record { memory = refl; text = refl }

after_codes : (codes : List ℕ) (s : ChipsState) (address : ℕ) → is_writable (after_arrivals s codes) address ≡ is_writable s address
after_codes [] s address = refl
after_codes (code ∷ codes) s address =
    after_codes codes (after_arrival s code) address ∙ same_writable (after_arrival s code) s address (same_after_arrival s code)

chips_take : (s : ChipsState) (keys : List StampedKey) (address : ℕ) → is_writable (chips_after_clock s keys) address ≡ is_writable s address
unfolding chips_after_clock
chips_take s keys address =
    same_writable _ _ address (same_after_keys (after_arrivals (wires.after_clock s) (codes_at keys (s.clock + 1))))
    ∙ after_codes (codes_at keys (s.clock + 1)) (wires.after_clock s) address
    ∙ same_writable (wires.after_clock s) s address (same_after_clock s)

byte_takes : (s t : ChipsState) (address other byte : ℕ) → is_writable t address ≡ is_writable s address
    → is_writable (chips_bus.after_write t other byte) address ≡ is_writable s address
byte_takes s t address other byte same = chips_keep_bytes.fixed t other byte address ∙ same

enter_takes : (table : ClockTable) (cpu : CpuState) (s : ChipsState) (kind : ℕ) (cause : Cause) (address : ℕ)
    → is_writable (after_enter chips_bus table cpu s kind cause).bus address ≡ is_writable s address
enter_takes table cpu s kind cause address =
    enter_keeps_any chips_bus table (λ (t : ChipsState). is_writable t address ≡ is_writable s address)
    (λ t other byte same. byte_takes s t address other byte same) cpu s kind cause refl

same_after_acknowledge : (s : ChipsState) → SameBytes (after_acknowledge s) s
unfolding after_acknowledge
same_after_acknowledge s = record { memory = refl; text = refl }

act_takes : (table : ClockTable) (cpu : CpuState) (busy : ℕ) (s : ChipsState) (next : Act) (address : ℕ)
    → is_writable (after_act table cpu busy s next).bus address ≡ is_writable s address
act_takes table cpu busy s Nothing address = refl
act_takes table cpu busy s Request address =
    enter_takes table cpu (after_acknowledge s) (requested_type s) causes.Request address
    ∙ same_writable (after_acknowledge s) s address (same_after_acknowledge s)
act_takes table cpu busy s SingleStep address = enter_takes table cpu s 1 causes.SingleStep address
act_takes table cpu busy s Iteration address =
    again_keeps_any chips_bus (λ (t : ChipsState). is_writable t address ≡ is_writable s address)
    (λ t other byte same. byte_takes s t address other byte same) cpu s refl
act_takes table cpu busy s (Instruction decoded) address =
    step_keeps_any chips_bus table (λ (t : ChipsState). is_writable t address ≡ is_writable s address)
    (λ t other byte same. byte_takes s t address other byte same)
    (λ t port same. chips_keep_bytes.input_fixed t port address ∙ same)
    (λ t port byte same. chips_keep_bytes.output_fixed t port byte address ∙ same)
    cpu s decoded refl

pub one_takes : (s : Plain) (address : ℕ) → is_writable (after_clock s).chips address ≡ is_writable s.chips address
unfolding after_clock
one_takes s address =
    chips_take (after_act s.clocks s.cpu s.busy s.chips (next_act s)).bus s.keys address ∙ act_takes s.clocks s.cpu s.busy s.chips (next_act s) address

all_take : (n : ℕ) (s : Plain) (address : ℕ) → is_writable (after_clocks s n).chips address ≡ is_writable s.chips address
unfolding iterate
all_take zero s address = refl
all_take (suc n) s address = one_takes (after_clocks s n) address ∙ all_take n s address

-- at power-on

text_first : (image : List (ℕ × ℕ)) (size sw1 sw2 : ℕ) (kind : TimerKind) (address : ℕ) → IsTextAddress address
    → is_writable (chips.power_on image size sw1 sw2 kind) address ≡ true
unfolding is_writable chips.power_on
text_first image size sw1 sw2 kind address text = let whole = is_blank.size in grind (arith, nat_tests, common_steps, whole)

not_text : (address : ℕ) → address < 0xA0000 → is_text_address address ≡ false
not_text address below = grind (arith, nat_tests)

ram_within : (image : List (ℕ × ℕ)) (size address : ℕ) → address < size → address < (map.power_on image size).ram_size
unfolding map.power_on
ram_within image size address within = within

ram_first : (image : List (ℕ × ℕ)) (size sw1 sw2 : ℕ) (kind : TimerKind) (address : ℕ) → size ≤ 0xA0000 → address < size
    → is_writable (chips.power_on image size sw1 sw2 kind) address ≡ true
unfolding is_writable chips.power_on
ram_first image size sw1 sw2 kind address least within =
    ap (λ b. if b then nat_lt (address - 0xB0000) (length mda.power_on.bytes) else map.is_writable (map.power_on image size) address)
    (not_text address (omega arith))
    ∙ ram_written (map.power_on image size) address (whole_at_power_on image size least) (ram_within image size address within)

takes_first : (image : List (ℕ × ℕ)) (config : Config) (address : ℕ) → IsRamSize config.ram_kb → (address < 1024 * config.ram_kb) ⊎ IsTextAddress address
    → is_writable (chips.power_on image (1024 * config.ram_kb) config.sw1 config.sw2 config.timer) address ≡ true
takes_first image config address size at =
    elim at [
      | inl ram ↦ ram_first image (1024 * config.ram_kb) config.sw1 config.sw2 config.timer address (let most = size.most in omega arith) ram
      | inr text ↦ text_first image (1024 * config.ram_kb) config.sw1 config.sw2 config.timer address text
    ]

power_on_takes : (image : List (ℕ × ℕ)) (config : Config) (keys : List StampedKey) (address : ℕ)
    → IsRamSize config.ram_kb → (address < 1024 * config.ram_kb) ⊎ IsTextAddress address → is_writable (power_on image config keys).chips address ≡ true
unfolding power_on
power_on_takes image config keys address size at = after_codes (codes_at keys 0) _ address ∙ takes_first image config address size at

pub memory_takes_bytes : MemoryTakesBytes
memory_takes_bytes image config keys n address size at =
    all_take n (power_on image config keys) address ∙ power_on_takes image config keys address size at
