-- The definitions on worked values: which loops and jumps are taken (8086 Family User's Manual, "Iteration Control
-- Instructions", "Conditional Transfers").
use Rattle.std.proofs.Common.{◌≡◌, true, false, refl}
use Rattle.isa.specs.declared.operation.JumpCondition.TheVariants.{BelowOrZero, Above, Less, NotLess, LessOrZero, Greater}
use Rattle.isa.specs.declared.operation.Looping.TheVariants.{Loopne, Loope, Loop, Jcxz}
use Rattle.execute_machine.specs.RegisterFile.{Registers}
use Rattle.execute_machine.specs.FlagState.{FlagState}
use Rattle.execute_control.specs.ControlMeaning.{cx_after, holds, is_loop_taken}

-- LOOPE goes on while ZF is 1, LOOPNE while it is 0, and both while CX isn't 1
loope_equal : (r : Registers) → is_loop_taken (record r { cx = 2; flags = record r.flags { zero = true } }) Loope ≡ true
loope_equal r = refl

loope_unequal : (r : Registers) → is_loop_taken (record r { cx = 2; flags = record r.flags { zero = false } }) Loope ≡ false
loope_unequal r = refl

loope_last : (r : Registers) → is_loop_taken (record r { cx = 1; flags = record r.flags { zero = true } }) Loope ≡ false
loope_last r = refl

loopne_equal : (r : Registers) → is_loop_taken (record r { cx = 2; flags = record r.flags { zero = true } }) Loopne ≡ false
loopne_equal r = refl

loopne_unequal : (r : Registers) → is_loop_taken (record r { cx = 2; flags = record r.flags { zero = false } }) Loopne ≡ true
loopne_unequal r = refl

loopne_last : (r : Registers) → is_loop_taken (record r { cx = 1; flags = record r.flags { zero = false } }) Loopne ≡ false
loopne_last r = refl

-- LOOP lowers CX first, so from 0 it goes on; JCXZ leaves CX
loop_from_0 : (r : Registers) → is_loop_taken (record r { cx = 0 }) Loop ≡ true
loop_from_0 r = refl

loop_last : (r : Registers) → is_loop_taken (record r { cx = 1 }) Loop ≡ false
loop_last r = refl

loop_lowers : (r : Registers) → cx_after (record r { cx = 0 }) Loop ≡ 0xFFFF
loop_lowers r = refl

jcxz_at_0 : (r : Registers) → is_loop_taken (record r { cx = 0 }) Jcxz ≡ true
jcxz_at_0 r = refl

jcxz_at_1 : (r : Registers) → is_loop_taken (record r { cx = 1 }) Jcxz ≡ false
jcxz_at_1 r = refl

jcxz_leaves : (r : Registers) → cx_after (record r { cx = 1 }) Jcxz ≡ 1
jcxz_leaves r = refl

-- JBE tests CF or ZF; JL, JGE, JLE and JG test whether SF differs from OF
below_or_zero : (f : FlagState) → holds BelowOrZero (record f { carry = false; zero = true }) ≡ true
below_or_zero f = refl

not_above : (f : FlagState) → holds Above (record f { carry = true; zero = false }) ≡ false
not_above f = refl

less : (f : FlagState) → holds Less (record f { sign = false; overflow = true }) ≡ true
less f = refl

not_less : (f : FlagState) → holds NotLess (record f { sign = true; overflow = true }) ≡ true
not_less f = refl

less_or_zero : (f : FlagState) → holds LessOrZero (record f { sign = true; overflow = true; zero = true }) ≡ true
less_or_zero f = refl

not_greater : (f : FlagState) → holds Greater (record f { sign = true; overflow = true; zero = true }) ≡ false
not_greater f = refl
