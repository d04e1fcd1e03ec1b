-- What the flag register means while flags aren't computed yet.
-- To be believed by callers of this crate: the headline does not rest on it.
use Rattle.std.specs.Prelude.{ℕ}
use Rattle.board_types.specs.declared.regs.Flags.{Flags}
use Rattle.execute_machine.specs.FlagState.{FlagState}
use Rattle.execute_machine.specs.Flags.{flag_state, keeping}
use Rattle.execute_machine.specs.Sums.{with_difference, with_logic, with_sum}
use Rattle.execute_machine.specs.declared.last_operation.LastKind.{LastKind}
use Rattle.execute_machine.specs.declared.last_operation.LastKind.TheVariants.{Settled, Sum, Difference}
use Rattle.execute_machine.specs.declared.last_operation.LastKind.TheVariants.{Logic, Increment, Decrement}
use Rattle.execute_machine.specs.declared.last_operation.LastOperation.{LastOperation}
use Rattle.execute_machine.specs.declared.width.Width.{Width}

-- the status flags that the operation leaves; an increment and a decrement leave CF as it was
abbrev pub status_by : LastKind → FlagState → Width → ℕ → ℕ → ℕ → FlagState
status_by Settled f width a b value = f
status_by Sum f width a b value = with_sum (keeping f a b value) width a b 0
status_by Difference f width a b value = with_difference (keeping f a b value) width a b 0
status_by Logic f width a b value = with_logic f width value
status_by Increment f width a b value = record (with_sum f width a b 0) { carry = f.carry }
status_by Decrement f width a b value = record (with_difference f width a b 0) { carry = f.carry }

-- the flags, once they are computed: TF, IF and DF stand in the register as they are
abbrev pub flags_after : Flags → LastOperation → FlagState
flags_after flags last =
    record (status_by last.kind (flag_state flags) last.width last.first last.second last.value) {
      trap = flags.trap;
      interrupt_enable = flags.interrupt_enable;
      direction = flags.direction;
    }
