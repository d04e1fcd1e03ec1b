-- Any numbers are a counter whose counts are within their radix.
use Rattle.std.proofs.Common.{ℕ, ◌%◌, ◌<◌, arith}
use Rattle.pit8253.specs.declared.program.Radix.{Radix}
use Rattle.pit8253.specs.declared.program.Radix.TheVariants.{Binary, Decimal}
use Rattle.pit8253.specs.declared.image.CounterImage.{CounterImage}
use Rattle.pit8253.specs.Program.{modulus, radix_of}
use Rattle.pit8253.specs.PitNumbers.{counter_of, pit_of, IsCounter, AnyNumbersAreATimer}

within : (radix : Radix) (n : ℕ) → n % modulus radix < modulus radix
within Binary n = omega arith
within Decimal n = omega arith

any_numbers_are_a_counter : (i : CounterImage) → IsCounter (counter_of i)
unfolding counter_of
any_numbers_are_a_counter i = (within (radix_of i.radix) i.newest, within (radix_of i.count_radix) i.count)

pub any_numbers_are_a_timer : AnyNumbersAreATimer
unfolding pit_of
any_numbers_are_a_timer i =
    (any_numbers_are_a_counter i.counter_0, any_numbers_are_a_counter i.counter_1, any_numbers_are_a_counter i.counter_2)
