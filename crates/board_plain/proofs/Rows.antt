-- The definition of work on a board worked out by hand: CLI and HLT at FFFF:0000 are two steps, begun in the clocks 0
-- and 2, and nothing else is done in the first five clocks.
use Rattle.execute_machine.specs.Flags.{popped_flags}
use Rattle.std.proofs.Common.{◌≡◌, ℕ, suc, ◌+◌, ◌-◌, ◌<◌, List, [], ◌∷◌, map, refl, ap, ◌∙◌, arith}
use Rattle.std.specs.Prelude.{⊤}
use Rattle.std.specs.List.{range_with_len}
use Rattle.board_types.specs.Address.{physical, offset_after}
use Rattle.board_types.specs.declared.choice.ClockTable.TheVariants.{C1}
use Rattle.board_types.specs.declared.choice.TimerKind.TheVariants.{I8253}
use Rattle.board_types.specs.Iterate.{iterate, total}
use Rattle.isa.specs.Clocks.{clocks_of}
use Rattle.isa.specs.Encoding.{encoding, form_length}
use Rattle.isa.specs.OpcodeBytes.{row_at}
use Rattle.isa.specs.Table.{rows}
use Rattle.isa.specs.WordCounts.{clocks_in, data_words, whole_words}
use Rattle.decode.specs.declared.decoding.Decoding.{Decoding as Decoded}
use Rattle.decode.specs.Decoding.{decoded_after, decoded_from, form_at, values_at}
use Rattle.execute_meaning.specs.Boundaries.{boundary_of}
use Rattle.execute_meaning.specs.Meaning.{StepResult, after_found, after_operation, after_step, after_whole, is_taken, lacks_quotient}
use Rattle.execute_control.specs.ControlMeaning.{after_flag_operation}
use Rattle.keyboard.specs.Keyboard as keyboard
use Rattle.memory.specs.Map.{address_count}
use Rattle.memory.proofs.Writes.{on_at_power_on}
use Rattle.pic8259.specs.Pic as pic
use Rattle.pit8253.specs.Counter as counter
use Rattle.pit8253.specs.Pit as pit
use Rattle.wiring.specs.Chips.{ChipsState}
use Rattle.wiring.specs.Chips as chips
use Rattle.wiring.specs.Ports.{byte_at}
use Rattle.wiring.specs.Wires as wires
use Rattle.board_plain.specs.declared.act.Act.{Act}
use Rattle.board_plain.specs.declared.act.Act.TheVariants.{Nothing, Instruction}
use Rattle.board_plain.specs.declared.config.Config.{Config}
use Rattle.board_plain.specs.Plain.{Plain, after_act, after_clock, chips_after_clock, clock_of, next_act, power_on}
use Rattle.board_plain.specs.Work.{edges_next, edges_of, jams_of, keys_next, steps_next, steps_of, work_in, work_next}

-- a clock, and its work, from what the processor does in it

after_acting : Plain → Act → Plain
after_acting s act =
    let acted : StepResult ChipsState = after_act s.clocks s.cpu s.busy s.chips act in
    record {
      cpu = acted.cpu;
      busy = acted.clocks - 1;
      chips = chips_after_clock acted.bus s.keys;
      keys = s.keys;
      clocks = s.clocks;
    }

clock_by : (s : Plain) (act : Act) → next_act s ≡ act → after_clock s ≡ after_acting s act
unfolding after_clock after_acting
clock_by s act is = ap (after_acting s) is

work_acting : Plain → Act → ℕ
work_acting s act =
    steps_of act + jams_of act
    + (edges_of s.chips.pit.counter_0.out (after_acting s act).chips.pit.counter_0.out
    + edges_of s.chips.pit.counter_2.out (after_acting s act).chips.pit.counter_2.out)
    + keys_next s

work_by : (s : Plain) (act : Act) (n : ℕ) → next_act s ≡ act → work_acting s act ≡ n → work_next s ≡ n
unfolding work_next steps_next edges_next after_clock after_acting work_acting
work_by s act n is told = ap (work_acting s) is ∙ told

-- what a row unfolds
unfoldable on_clocks : ⊤
unfolding rows row_at form_at values_at decoded_after decoded_from form_length encoding clocks_of clocks_in data_words whole_words boundary_of
    popped_flags after_found after_operation after_step after_whole is_taken lacks_quotient after_flag_operation keyboard.after_settling
    pic.level_to_take pic.after_line counter.after_tick counter.after_gate pit.power_on pit.after_tick pit.after_gate chips.power_on
    wires.after_settling wires.after_clock wires.after_key_settling chips_after_clock clock_of keys_next power_on next_act after_acting work_acting
on_clocks = tt

abbrev image : List (ℕ × ℕ)
image = (0xFFFF0, 0xFA) ∷ (0xFFFF1, 0xF4) ∷ []

abbrev config : Config
config = record { ram_kb = 64; sw1 = 0; sw2 = 0; timer = I8253; clocks = C1 }

-- what stands at the two addresses, whatever follows
cli : Decoded
cli = decoded_from (0xFA ∷ [])

hlt : Decoded
hlt = decoded_from (0xF4 ∷ [])

is_cli : (rest : List ℕ) → decoded_from (0xFA ∷ rest) ≡ cli
unfolding on_clocks cli
is_cli rest = refl

is_hlt : (rest : List ℕ) → decoded_from (0xF4 ∷ rest) ≡ hlt
unfolding on_clocks hlt
is_hlt rest = refl

-- the board at the first clocks
at_0 : Plain
at_0 = power_on image config []

at_1 : Plain
at_1 = after_acting at_0 (Instruction cli)

at_2 : Plain
at_2 = after_acting at_1 Nothing

at_3 : Plain
at_3 = after_acting at_2 (Instruction hlt)

at_4 : Plain
at_4 = after_acting at_3 Nothing

-- the bytes of the two instructions
has_both : (0xFFFF0 < address_count) × (0xFFFF1 < address_count)
unfolding address_count
has_both = (omega arith, omega arith)

cli_byte : byte_at at_0.chips 0xFFFF0 ≡ 0xFA
unfolding on_clocks byte_at at_0
cli_byte = on_at_power_on image 65536 0xFFFF0 has_both.0

hlt_byte : byte_at at_2.chips 0xFFFF1 ≡ 0xF4
unfolding on_clocks byte_at at_0 at_1 at_2 cli
hlt_byte = on_at_power_on image 65536 0xFFFF1 has_both.1

-- the bytes after the one at FFFF:IP
following : ChipsState → ℕ → List ℕ
following chips ip = map (λ k. byte_at chips (physical 0xFFFF (offset_after ip k))) (range_with_len 1 14)

act_0 : next_act at_0 ≡ Instruction cli
unfolding on_clocks at_0 following
act_0 =
    ap (λ byte. Instruction (decoded_from (byte ∷ following at_0.chips 0))) cli_byte ∙ ap Instruction (is_cli (following at_0.chips 0))

act_1 : next_act at_1 ≡ Nothing
unfolding on_clocks at_0 at_1 cli
act_1 = refl

act_2 : next_act at_2 ≡ Instruction hlt
unfolding on_clocks at_0 at_1 at_2 cli following
act_2 =
    ap (λ byte. Instruction (decoded_from (byte ∷ following at_2.chips 1))) hlt_byte ∙ ap Instruction (is_hlt (following at_2.chips 1))

act_3 : next_act at_3 ≡ Nothing
unfolding on_clocks at_0 at_1 at_2 at_3 cli hlt
act_3 = refl

act_4 : next_act at_4 ≡ Nothing
unfolding on_clocks at_0 at_1 at_2 at_3 at_4 cli hlt
act_4 = refl

work_0 : work_acting at_0 (Instruction cli) ≡ 1
unfolding on_clocks at_0 cli
work_0 = refl

work_1 : work_acting at_1 Nothing ≡ 0
unfolding on_clocks at_0 at_1 cli
work_1 = refl

work_2 : work_acting at_2 (Instruction hlt) ≡ 1
unfolding on_clocks at_0 at_1 at_2 cli hlt
work_2 = refl

work_3 : work_acting at_3 Nothing ≡ 0
unfolding on_clocks at_0 at_1 at_2 at_3 cli hlt
work_3 = refl

work_4 : work_acting at_4 Nothing ≡ 0
unfolding on_clocks at_0 at_1 at_2 at_3 at_4 cli hlt
work_4 = refl

-- the clocks one after another
after_1 : iterate after_clock 1 at_0 ≡ at_1
unfolding iterate at_1
after_1 = clock_by at_0 (Instruction cli) act_0

next : (n : ℕ) (s t : Plain) (act : Act) → iterate after_clock n at_0 ≡ s → next_act s ≡ act → after_acting s act ≡ t → iterate after_clock (suc n) at_0 ≡ t
unfolding iterate
next n s t act is acts made = ap after_clock is ∙ clock_by s act acts ∙ made

after_2 : iterate after_clock 2 at_0 ≡ at_2
unfolding at_2
after_2 = next 1 at_1 at_2 Nothing after_1 act_1 refl

after_3 : iterate after_clock 3 at_0 ≡ at_3
unfolding at_3
after_3 = next 2 at_2 at_3 (Instruction hlt) after_2 act_2 refl

after_4 : iterate after_clock 4 at_0 ≡ at_4
unfolding at_4
after_4 = next 3 at_3 at_4 Nothing after_3 act_3 refl

two_steps : work_in at_0 5 ≡ 2
unfolding total iterate
two_steps =
    let w_0 : work_next at_0 ≡ 1 = work_by at_0 (Instruction cli) 1 act_0 work_0 in
    let w_1 : work_next (iterate after_clock 1 at_0) ≡ 0 = ap work_next after_1 ∙ work_by at_1 Nothing 0 act_1 work_1 in
    let w_2 : work_next (iterate after_clock 2 at_0) ≡ 1 = ap work_next after_2 ∙ work_by at_2 (Instruction hlt) 1 act_2 work_2 in
    let w_3 : work_next (iterate after_clock 3 at_0) ≡ 0 = ap work_next after_3 ∙ work_by at_3 Nothing 0 act_3 work_3 in
    let w_4 : work_next (iterate after_clock 4 at_0) ≡ 0 = ap work_next after_4 ∙ work_by at_4 Nothing 0 act_4 work_4 in
    omega (arith, w_0, w_1, w_2, w_3, w_4)
