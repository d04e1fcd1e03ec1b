-- What the flag register keeps of its last operation.
-- For proofs alone: no public contract rests on it.
use Rattle.std.specs.Prelude.{ℕ, ◌≡◌, ◌<◌}
use Rattle.execute_machine.specs.Sums.{difference_of, sum_of}
use Rattle.execute_machine.specs.declared.last_operation.LastKind.{LastKind}
use Rattle.execute_machine.specs.declared.last_operation.LastKind.TheVariants.{Settled, Sum, Difference}
use Rattle.execute_machine.specs.declared.last_operation.LastKind.TheVariants.{Logic, Increment, Decrement}
use Rattle.execute_machine.specs.declared.last_operation.LastOperation.{LastOperation}
use Rattle.execute_machine.specs.declared.width.Width.{Width}
use Rattle.execute_machine.specs.Widths.{size_of}

-- the result of an operation
abbrev pub value_by : LastKind → Width → ℕ → ℕ → ℕ → ℕ
value_by Settled width a b value = value
value_by Sum width a b value = sum_of width a b 0
value_by Difference width a b value = difference_of width a b 0
value_by Logic width a b value = value
value_by Increment width a b value = sum_of width a b 0
value_by Decrement width a b value = difference_of width a b 0

-- the operands are numbers of the width, and the value is the operation's result
pub record IsOperation (last : LastOperation) : Type 0 where
  pub first : last.first < size_of last.width
  pub second : last.second < size_of last.width
  pub value : last.value ≡ value_by last.kind last.width last.first last.second last.value
