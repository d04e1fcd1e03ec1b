-- The speaker's level at the next clock, known from the port writes of what the processor does.
use Rattle.wiring.specs.EachWire.{requested_type}
use Rattle.std.proofs.Common.{◌≡◌, ℕ, ◌+◌, ◌-◌, Bool, true, false, if◌then◌else◌, List, [], ◌∷◌, refl, sym, ap, ◌∙◌, subst}
use Rattle.board_types.specs.declared.choice.ClockTable.{ClockTable}
use Rattle.board_types.specs.LineLevel.{from_bool}
use Rattle.board_types.specs.declared.keys.StampedKey.{StampedKey}
use Rattle.bus.specs.PortWriteBus.{after_port_writes}
use Rattle.decode.specs.declared.decoding.Decoding.{Decoding as Decoded}
use Rattle.execute_meaning.specs.Cpu.{CpuState}
use Rattle.execute_meaning.specs.Meaning.{after_step}
use Rattle.execute_meaning.specs.Boundaries.{after_enter}
use Rattle.execute_meaning.specs.declared.boundary.Cause.{Cause}
use Rattle.execute_meaning.specs.declared.boundary.Cause.TheVariants as causes
use Rattle.execute_meaning.specs.PortWrites.{port_writes_of}
use Rattle.execute_meaning.specs.ProcessorLaws.{EachAccessKeeps, WritesAlone}
use Rattle.execute_meaning.proofs.Writes.{port_writes_tell, again_keeps_any, enter_keeps_any}
use Rattle.mda_text.specs.Mda.{with_text_byte}
use Rattle.memory.specs.Regions.{is_text_address}
use Rattle.memory.specs.Map as map
use Rattle.wiring.specs.Chips.{ChipsState}
use Rattle.wiring.specs.WiringLaws.{SoundsAlike}
use Rattle.wiring.specs.Ports.{chips_bus, with_byte, after_input, after_output}
use Rattle.wiring.specs.Speaker.{is_speaker_high, is_speaker_high_after}
use Rattle.wiring.specs.Wires.{after_settling, after_acknowledge}
use Rattle.wiring.proofs.Entries.{no_entry_touches}
use Rattle.wiring.proofs.Alike.{alike_after_input, alike_after_output, depends_on_writes, no_key_touches}
use Rattle.wiring.proofs.Settling.{settles_once}
use Rattle.wiring.proofs.Unread.{unread}
use Rattle.board_plain.specs.declared.act.Act.{Act}
use Rattle.board_plain.specs.declared.act.Act.TheVariants.{Nothing, Request, SingleStep, Iteration, Instruction}
use Rattle.board_plain.specs.BoardLaws.{writes_of, WiresHold, LevelIsPredicted}
use Rattle.board_plain.specs.Plain.{Plain, after_act, after_clock, chips_after_clock, codes_at, next_act, speaker_level}

-- what the speaker's next level depends on, beside some other board's rest
abbrev sounding : ChipsState → ChipsState → ChipsState
sounding rest s = record rest { clock = s.clock; ppi = s.ppi; pit = record rest.pit { counter_2 = unread s.pit.counter_2 } }

same_sounding : (rest s t : ChipsState) → SoundsAlike s t → sounding rest s ≡ sounding rest t
same_sounding rest s t alike =
    ap (λ clock. record rest { clock = clock; ppi = s.ppi; pit = record rest.pit { counter_2 = unread s.pit.counter_2 } }) alike.clock
    ∙ ap (λ ppi. record rest { clock = t.clock; ppi = ppi; pit = record rest.pit { counter_2 = unread s.pit.counter_2 } }) alike.ppi
    ∙ ap (λ c. record rest { clock = t.clock; ppi = t.ppi; pit = record rest.pit { counter_2 = c } }) alike.counter_2

sounds_as : (rest s : ChipsState) → SoundsAlike (sounding rest s) s
sounds_as rest s = record { clock = refl; ppi = refl; counter_2 = refl }

sounds_from : (rest s : ChipsState) → SoundsAlike s (sounding rest s)
sounds_from rest s = record { clock = refl; ppi = refl; counter_2 = refl }

alike_then : (s t u : ChipsState) → SoundsAlike s t → SoundsAlike t u → SoundsAlike s u
alike_then s t u first second = record {
  clock = first.clock ∙ second.clock;
  ppi = first.ppi ∙ second.ppi;
  counter_2 = first.counter_2 ∙ second.counter_2;
}

-- each access of the bus leaves settled wires settled

with_byte_by : (b : Bool) (s t u : ChipsState) → after_settling t ≡ t → after_settling u ≡ u → after_settling (if b then t else u) ≡ (if b then t else u)
with_byte_by true s t u first second = first
with_byte_by false s t u first second = second

settled_with_byte : (s : ChipsState) (address byte : ℕ) → after_settling s ≡ s → after_settling (with_byte s address byte) ≡ with_byte s address byte
unfolding with_byte after_settling
settled_with_byte s address byte still =
    with_byte_by (is_text_address address) s _ _
    (ap (λ (t : ChipsState). record t { mda = with_text_byte s.mda (address - 0xB0000) byte }) still)
    (ap (λ (t : ChipsState). record t { memory = map.with_byte s.memory address byte }) still)

pub accesses_settle : EachAccessKeeps chips_bus after_settling (λ s. s)
unfolding after_input after_output
accesses_settle = record {
  write = settled_with_byte;
  input = λ s port still. settles_once _;
  output = λ s port byte still. settles_once _;
}

-- if the wires have settled, only port writes change what the level depends on

sounding_by : (b : Bool) (rest s t u : ChipsState) → sounding rest t ≡ sounding rest s → sounding rest u ≡ sounding rest s
    → sounding rest (if b then t else u) ≡ sounding rest s
sounding_by true rest s t u first second = first
sounding_by false rest s t u first second = second

sounding_with_byte : (rest s : ChipsState) (address byte : ℕ) → sounding rest (with_byte s address byte) ≡ sounding rest s
unfolding with_byte
sounding_with_byte rest s address byte = sounding_by (is_text_address address) rest s _ _ refl refl

writes_alone : (rest : ChipsState) → WritesAlone chips_bus after_settling (λ s. s) (sounding rest) (λ t port byte. sounding rest (after_output t port byte))
writes_alone rest = record {
  write = λ s address byte still. sounding_with_byte rest s address byte;
  input = λ s port still. same_sounding rest _ _ (alike_after_input s port) ∙ ap (sounding rest) still;
  output = λ s port byte still. same_sounding rest _ _ (alike_after_output s (sounding rest s) port byte (sounds_from rest s));
}

-- port writes leave that part alike, whether they are made on it alone or on all
writes_sound : (rest s t : ChipsState) (writes : List (ℕ × ℕ)) → SoundsAlike t s
    → SoundsAlike (after_port_writes (λ u port byte. sounding rest (after_output u port byte)) t writes) (after_port_writes after_output s writes)
writes_sound rest s t [] alike = alike
writes_sound rest s t (w ∷ writes) alike =
    writes_sound rest (after_output s w.0 w.1) (sounding rest (after_output t w.0 w.1)) writes
    (alike_then _ _ _ (sounds_as rest (after_output t w.0 w.1)) (alike_after_output t s w.0 w.1 alike))

none_more : (s : ChipsState) (writes : List (ℕ × ℕ)) → is_speaker_high_after (after_port_writes after_output s writes) [] ≡ is_speaker_high_after s writes
unfolding is_speaker_high_after
none_more s writes = refl

step_predicted : (table : ClockTable) (cpu : CpuState) (s : ChipsState) (decoded : Decoded) → after_settling s ≡ s
    → is_speaker_high_after (after_step chips_bus table cpu s decoded).bus [] ≡ is_speaker_high_after s (port_writes_of cpu decoded)
step_predicted table cpu s decoded still =
    let after : ChipsState = (after_step chips_bus table cpu s decoded).bus in
    let writes : List (ℕ × ℕ) = port_writes_of cpu decoded in
    depends_on_writes after (sounding s after) [] (sounds_from s after)
    ∙ ap (λ t. is_speaker_high_after t []) (port_writes_tell chips_bus after_settling (λ t. t) (sounding s)
    (λ t port byte. sounding s (after_output t port byte)) accesses_settle (writes_alone s) table cpu s decoded still)
    ∙ depends_on_writes _ (after_port_writes after_output s writes) [] (writes_sound s s (sounding s s) writes (sounds_as s s))
    ∙ none_more s writes

-- a memory write leaves what the level depends on
byte_alike : (s : ChipsState) (address byte : ℕ) → SoundsAlike (with_byte s address byte) s
byte_alike s address byte =
    alike_then _ _ _ (sounds_from s (with_byte s address byte)) (subst (λ t. SoundsAlike t s) (sym (sounding_with_byte s s address byte)) (sounds_as s s))

byte_predicted : (s t : ChipsState) (address byte : ℕ) → is_speaker_high_after t [] ≡ is_speaker_high_after s []
    → is_speaker_high_after (with_byte t address byte) [] ≡ is_speaker_high_after s []
byte_predicted s t address byte same = depends_on_writes (with_byte t address byte) t [] (byte_alike t address byte) ∙ same

enter_predicted : (table : ClockTable) (cpu : CpuState) (s : ChipsState) (kind : ℕ) (cause : Cause)
    → is_speaker_high_after (after_enter chips_bus table cpu s kind cause).bus [] ≡ is_speaker_high_after s []
enter_predicted table cpu s kind cause =
    enter_keeps_any chips_bus table (λ (t : ChipsState). is_speaker_high_after t [] ≡ is_speaker_high_after s []) (byte_predicted s) cpu s kind cause refl

act_predicted : (table : ClockTable) (cpu : CpuState) (busy : ℕ) (s : ChipsState) (next : Act) → after_settling s ≡ s
    → is_speaker_high_after (after_act table cpu busy s next).bus [] ≡ is_speaker_high_after s (writes_of cpu next)
act_predicted table cpu busy s Nothing still = refl
act_predicted table cpu busy s Request still = enter_predicted table cpu (after_acknowledge s) (requested_type s) causes.Request ∙ no_entry_touches s []
act_predicted table cpu busy s SingleStep still = enter_predicted table cpu s 1 causes.SingleStep
act_predicted table cpu busy s Iteration still =
    again_keeps_any chips_bus (λ (t : ChipsState). is_speaker_high_after t [] ≡ is_speaker_high_after s []) (byte_predicted s) cpu s refl
act_predicted table cpu busy s (Instruction decoded) still = step_predicted table cpu s decoded still

clock_predicted : (s : ChipsState) (keys : List StampedKey) → is_speaker_high (chips_after_clock s keys) ≡ is_speaker_high_after s []
unfolding chips_after_clock
clock_predicted s keys = no_key_touches s [] (codes_at keys (s.clock + 1))

pub predicted : LevelIsPredicted
unfolding after_clock speaker_level
predicted s holds =
    ap from_bool
    (clock_predicted (after_act s.clocks s.cpu s.busy s.chips (next_act s)).bus s.keys ∙ act_predicted s.clocks s.cpu s.busy s.chips (next_act s) holds.settled)

pub predicted_by : (s : Plain) (next : Act) (high : Bool) → WiresHold s.chips → next ≡ next_act s
    → high ≡ is_speaker_high_after s.chips (writes_of s.cpu next) → from_bool high ≡ speaker_level (after_clock s)
predicted_by s next high holds is told =
    ap from_bool told ∙ ap (λ n. from_bool (is_speaker_high_after s.chips (writes_of s.cpu n))) is ∙ sym (predicted s holds)
