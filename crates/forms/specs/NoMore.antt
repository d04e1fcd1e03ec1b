-- No more is told of an instruction than happens. For each row of the table there is an instruction, with a register or
-- with memory, of which each thing that is told does happen from some start: each register and flag changes, each place
-- is reached, each number of clocks is taken.
-- Laws: claims above the definitions, each proved as the contract of a function.
use Rattle.std.specs.Prelude.{ℕ, ◌≡◌, ◌+◌, ◌==◌, Bool, true, false, not, ◌&&◌, ◌||◌, if◌then◌else◌, List, [], ◌∷◌}
use Rattle.std.specs.Prelude.{Contains}
use Rattle.std.specs.List.{list_all, list_any}
use Rattle.board_types.specs.Address.{offset_after}
use Rattle.board_types.specs.declared.choice.ClockTable.TheVariants.{C1, C2}
use Rattle.board_types.specs.declared.regs.Flags.{Flags}
use Rattle.board_types.specs.declared.state.State.{State}
use Rattle.board_types.specs.declared.state.State.TheVariants.{Halted}
use Rattle.execute_machine.specs.Flags.{differ, flags_of}
use Rattle.execute_machine.specs.Registers.{segment_register, word_register}
use Rattle.isa.specs.declared.form.Instr.{Instr}
use Rattle.isa.specs.declared.form.Place.{Place}
use Rattle.isa.specs.declared.form.Place.TheVariants.{Absent, Direct, Register}
use Rattle.isa.specs.declared.form.Prefix.{Prefix}
use Rattle.isa.specs.declared.form.Prefix.TheVariants.{Repeat}
use Rattle.isa.specs.declared.form.Repeat.TheVariants.{Rep}
use Rattle.isa.specs.declared.layout.CodePart.{CodePart}
use Rattle.isa.specs.declared.layout.CodePart.TheVariants as code_parts
use Rattle.isa.specs.declared.layout.Field.{Field}
use Rattle.isa.specs.declared.layout.Field.TheVariants as fields
use Rattle.isa.specs.declared.layout.PlacePart.{PlacePart}
use Rattle.isa.specs.declared.layout.PlacePart.TheVariants as place_parts
use Rattle.isa.specs.declared.layout.RegPart.{RegPart}
use Rattle.isa.specs.declared.layout.RegPart.TheVariants as reg_parts
use Rattle.isa.specs.declared.layout.Second.{Second}
use Rattle.isa.specs.declared.layout.Second.TheVariants as seconds
use Rattle.isa.specs.declared.register.SegmentRegister.{SegmentRegister}
use Rattle.isa.specs.declared.register.SegmentRegister.TheVariants.{Es, Cs, Ss, Ds}
use Rattle.isa.specs.declared.register.WordRegister.{WordRegister}
use Rattle.isa.specs.declared.register.WordRegister.TheVariants.{Ax, Cx, Dx, Bx, Sp, Bp, Si, Di}
use Rattle.isa.specs.declared.row.Row.{Row}
use Rattle.isa.specs.Encoding.{IsInstr}
use Rattle.isa.specs.Layout.{code_part, field_part, second_part}
use Rattle.isa.specs.Table.{rows}
use Rattle.forms.specs.declared.flow.Flow.{Flow}
use Rattle.forms.specs.declared.flow.Flow.TheVariants.{Branch, MayEnter, Halt, Repeat as Repeats}
use Rattle.forms.specs.declared.stack.StackMove.{StackMove}
use Rattle.forms.specs.declared.stack.StackMove.TheVariants.{Or, Loads}
use Rattle.forms.specs.declared.step_clocks.StepClocks.{StepClocks}
use Rattle.forms.specs.declared.step_clocks.StepClocks.TheVariants.{Either, Counted, Repeated}
use Rattle.forms.specs.Changed.{alters_of, sets_segment, sets_word}
use Rattle.forms.specs.Flow.{flow_of}
use Rattle.forms.specs.StackMove.{move_of}
use Rattle.forms.specs.Starts.{Run, runs_of}
use Rattle.forms.specs.StepClocks.{clocks_told}

-- what an instruction of a row names: a register in the opcode or in r/m, or memory, one in reg, a segment register;
-- and whether it has a repeat prefix
pub record Names : Type 0 where
  pub named : ℕ
  pub in_memory : Bool
  pub reg : ℕ
  pub segment : ℕ
  pub repeated : Bool

abbrev pub code_for : Names → CodePart → ℕ
code_for n code_parts.Fixed = 0
code_for n code_parts.Register = n.named
code_for n code_parts.Segment = n.segment
code_for n code_parts.SegmentNotCs = n.segment

abbrev pub reg_for : Names → RegPart → ℕ
reg_for n (reg_parts.Digit digit) = 0
reg_for n reg_parts.Register = n.reg
reg_for n reg_parts.Segment = n.segment
reg_for n reg_parts.SegmentNotCs = n.segment

abbrev pub place_for : Names → PlacePart → Place
place_for n place_parts.Any = if n.in_memory then Direct else Register n.named
place_for n place_parts.Memory = Direct

abbrev pub reg_in : Names → Second → ℕ
reg_in n (seconds.Addressing part named) = reg_for n part
reg_in n second = 0

abbrev pub place_in : Names → Second → Place
place_in n (seconds.Addressing part named) = place_for n named
place_in n second = Absent

abbrev pub displacement_for : Place → ℕ
displacement_for Direct = 0x1234
displacement_for place = 0

abbrev pub number_for : Field → ℕ
number_for fields.Absent = 0
number_for fields.Byte = 0x12
number_for fields.Word = 0x1234
number_for fields.Far = 0x1234

abbrev pub segment_for : Field → ℕ
segment_for fields.Far = 0x5678
segment_for field = 0

abbrev pub prefixes_for : Bool → List Prefix
prefixes_for repeated = if repeated then Repeat Rep ∷ [] else []

-- an instruction of a row
abbrev pub instance_of : Names → Row → Instr
instance_of n row = record {
  prefixes = record { items = prefixes_for n.repeated };
  form = record {
    row = row;
    code = code_for n (code_part row);
    reg = reg_in n (second_part row);
    place = place_in n (second_part row);
  };
  values = record {
    displacement = displacement_for (place_in n (second_part row));
    number = number_for (field_part row);
    segment = segment_for (field_part row);
  };
}

-- with BX or BL, with memory, with a repeat prefix, and with SP
abbrev pub with_bx : Names
with_bx = record { named = 3; in_memory = false; reg = 2; segment = 3; repeated = false }

abbrev pub with_memory : Names
with_memory = record with_bx { in_memory = true }

abbrev pub with_repeat : Names
with_repeat = record with_bx { repeated = true }

abbrev pub with_sp : Names
with_sp = record with_bx { named = 4 }

abbrev pub with_sp_in_reg : Names
with_sp_in_reg = record with_bx { reg = 4 }

-- each register that is told changes in a run

abbrev pub word_registers : List WordRegister
word_registers = Ax ∷ Cx ∷ Dx ∷ Bx ∷ Sp ∷ Bp ∷ Si ∷ Di ∷ []

abbrev pub changes_word : WordRegister → Run → Bool
changes_word register run = not (word_register run.after register == word_register run.before register)

abbrev pub words_change : Instr → List Run → Bool
words_change i runs =
    list_all (λ register. not (sets_word i register) || list_any (changes_word register) runs) word_registers

abbrev pub segment_registers : List SegmentRegister
segment_registers = Es ∷ Cs ∷ Ss ∷ Ds ∷ []

abbrev pub changes_segment : SegmentRegister → Run → Bool
changes_segment register run = not (segment_register run.after register == segment_register run.before register)

abbrev pub segments_change : Instr → List Run → Bool
segments_change i runs =
    list_all (λ register. not (sets_segment i register) || list_any (changes_segment register) runs) segment_registers

-- each flag that is told changes in a run

abbrev pub each_flag : List (Flags → Bool)
each_flag =
    (λ f. f.carry) ∷ (λ f. f.parity) ∷ (λ f. f.auxiliary_carry) ∷ (λ f. f.zero) ∷ (λ f. f.sign) ∷ (λ f. f.trap)
    ∷ (λ f. f.interrupt_enable) ∷ (λ f. f.direction) ∷ (λ f. f.overflow) ∷ []

abbrev pub changes_flag : (Flags → Bool) → Run → Bool
changes_flag flag run = differ (flag (flags_of run.after.flags)) (flag (flags_of run.before.flags))

abbrev pub flags_change : Instr → List Run → Bool
flags_change i runs =
    list_all (λ flag. not (flag (alters_of i)) || list_any (changes_flag flag) runs) each_flag

-- an instruction that may lead to two places leads to each in a run, and one that halts halts

abbrev pub goes_on : Run → Bool
goes_on run = run.after.cs == run.before.cs && run.after.ip == run.before.ip

abbrev pub leads_both_ways : List Run → Bool
leads_both_ways runs = list_any goes_on runs && list_any (λ run. not (goes_on run)) runs

abbrev pub is_halted : State → Bool
is_halted Halted = true
is_halted state = false

abbrev pub flow_happens : Flow → List Run → Bool
flow_happens Branch runs = leads_both_ways runs
flow_happens MayEnter runs = leads_both_ways runs
flow_happens Repeats runs = leads_both_ways runs
flow_happens Halt runs = list_any (λ run. is_halted run.state) runs
flow_happens flow runs = true

-- SP moves and stays, or moves by what isn't the same in each run

abbrev pub moves_alike : Run → Run → Bool
moves_alike run other =
    offset_after run.after.sp other.before.sp == offset_after other.after.sp run.before.sp

abbrev pub load_happens : StackMove → List Run → Bool
load_happens Loads runs = list_any (λ run. list_any (λ other. not (moves_alike run other)) runs) runs
load_happens move runs = true

abbrev pub move_happens : StackMove → List Run → Bool
move_happens (Or bytes) runs =
    list_any (changes_word Sp) runs && list_any (λ run. not (changes_word Sp run)) runs
move_happens move runs = load_happens move runs

-- each number of clocks is taken in a run, and two that are told differ

abbrev pub takes_clocks : (Run → ℕ) → List Run → ℕ → Bool
takes_clocks clocks_of runs clocks = list_any (λ run. clocks_of run == clocks) runs

abbrev pub clocks_happen : StepClocks → (Run → ℕ) → List Run → Bool
clocks_happen (Either taken not_taken) clocks_of runs =
    not (taken == not_taken) && takes_clocks clocks_of runs taken && takes_clocks clocks_of runs not_taken
clocks_happen (Counted clocks) clocks_of runs = list_any (λ run. not (clocks_of run == clocks)) runs
clocks_happen (Repeated once each) clocks_of runs =
    not (each == 0) && takes_clocks clocks_of runs once && takes_clocks clocks_of runs (once + each)
clocks_happen told clocks_of runs = true

-- all that is told of an instruction happens in these runs

abbrev pub happens_in : Instr → List Run → Bool
happens_in i runs =
    words_change i runs && segments_change i runs && flags_change i runs && flow_happens (flow_of i) runs
    && move_happens (move_of i) runs && clocks_happen (clocks_told i C1) (λ run. run.first_clocks) runs
    && clocks_happen (clocks_told i C2) (λ run. run.second_clocks) runs

unfoldable pub happens : Instr → Bool
happens i = happens_in i (runs_of i)

-- if SP is told to be loaded, SP is
unfoldable pub loads_sp : Instr → Bool
loads_sp i = load_happens (move_of i) (runs_of i)

-- all that is told of an instruction of the table happens
pub record Happens (i : Instr) (row : Row) : Type 0 where
  pub is_instr : IsInstr i
  pub of_row : i.form.row ≡ row
  pub each : happens i ≡ true

pub record LoadsSp (i : Instr) (row : Row) : Type 0 where
  pub is_instr : IsInstr i
  pub of_row : i.form.row ≡ row
  pub each : loads_sp i ≡ true

-- No more is told than happens, of each row: of an instruction with a register, one with memory, one with a repeat
-- prefix, and of a load of SP if the instruction names SP.
pub record NoMoreIsTold (row : Row) : Type 0 where
  pub with_bx : Happens (instance_of with_bx row) row
  pub with_memory : Happens (instance_of with_memory row) row
  pub with_repeat : Happens (instance_of with_repeat row) row
  pub with_sp : LoadsSp (instance_of with_sp row) row
  pub with_sp_in_reg : LoadsSp (instance_of with_sp_in_reg row) row

abbrev pub NoMore : Type 0
NoMore = (row : Row) → Contains rows row → NoMoreIsTold row
