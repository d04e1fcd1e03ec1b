-- A return takes what a call or an interrupt has pushed.
use Rattle.std.proofs.Common.{◌≡◌, ℕ, ◌+◌, ◌*◌, ◌<◌, refl, sym, ap, ◌∙◌, arith}
use Rattle.board_types.specs.Address.{physical, offset_after}
use Rattle.isa.specs.declared.operation.Control.TheVariants.{Call, CallFar}
use Rattle.bus.specs.Bus.{BusMeaning}
use Rattle.bus.specs.BusPromises.{IsBus}
use Rattle.execute_machine.specs.FlagState.{FlagState}
use Rattle.execute_machine.specs.Flags.{pushed_word, popped_flags}
use Rattle.execute_machine.specs.Locations.{Machine, machine, word_at}
use Rattle.execute_machine.specs.Stack.{after_push, top_word, after_pop, after_entry_pushes, after_vector, after_entry}
use Rattle.execute_control.specs.ControlMeaning.{after_control, after_call, after_return, after_far_pop, after_interrupt_return, after_ip_pop, control_operand}
use Rattle.execute_control.specs.ControlLaws.{TakesPushes, KeepsStack, CallReturns, FarCallReturns, InterruptReturns}
use Rattle.execute_control.proofs.FlagsWord.{popped_again}
use Rattle.execute_control.proofs.StackWords.{next, below, back_up, TakesWord, takes_at, first_of_one, first_of_two}
use Rattle.execute_control.proofs.StackWords.{second_of_two, first_of_three, second_of_three, third_of_three}

-- a word on the stack that a subroutine found is there when it returns
word_held : {S : Type 0} (bus : BusMeaning S) (p n : Machine S) (bytes k offset : ℕ)
    → KeepsStack bus p n bytes → k + 1 < bytes → offset ≡ offset_after p.registers.sp k → next offset ≡ offset_after p.registers.sp (k + 1)
    → word_at bus n.bus p.registers.ss offset ≡ word_at bus p.bus p.registers.ss offset
unfolding word_at
word_held {S} bus p n bytes k offset keeps within low high =
    let byte : S → ℕ → ℕ = λ s o. bus.byte_at s (physical p.registers.ss o) in
    let at_low : byte n.bus offset ≡ byte p.bus offset =
    ap (byte n.bus) low ∙ keeps.held k (omega arith) ∙ sym (ap (byte p.bus) low)
    in
    let at_high : byte n.bus (next offset) ≡ byte p.bus (next offset) =
    ap (byte n.bus) high ∙ keeps.held (k + 1) within ∙ sym (ap (byte p.bus) high)
    in
    ap (λ b. b + 256 * byte n.bus (next offset)) at_low ∙ ap (λ b. byte p.bus offset + 256 * b) at_high

-- a word on the stack that a subroutine found is there when the return reads it
word_found : {S : Type 0} (bus : BusMeaning S) (p n : Machine S) (bytes k offset there : ℕ)
    → KeepsStack bus p n bytes → k + 1 < bytes → offset ≡ offset_after p.registers.sp k → next offset ≡ offset_after p.registers.sp (k + 1) → there ≡ offset
    → word_at bus n.bus n.registers.ss there ≡ word_at bus p.bus p.registers.ss offset
word_found bus p n bytes k offset there keeps within low high is =
    ap (λ ss. word_at bus n.bus ss there) keeps.ss
    ∙ ap (λ o. word_at bus n.bus p.registers.ss o) is
    ∙ word_held bus p n bytes k offset keeps within low high

-- the machine n with these registers
returned : {S : Type 0} → Machine S → ℕ → ℕ → Machine S
returned n ip sp = machine (record n.registers { ip = ip; sp = sp }) n.bus

far_returned : {S : Type 0} → Machine S → ℕ → ℕ → ℕ → Machine S
far_returned n ip cs sp = machine (record n.registers { ip = ip; cs = cs; sp = sp }) n.bus

flags_returned : {S : Type 0} → Machine S → ℕ → ℕ → FlagState → ℕ → Machine S
flags_returned n ip cs flags sp = machine (record n.registers { ip = ip; cs = cs; flags = flags; sp = sp }) n.bus

returned_alike : {S : Type 0} (n : Machine S) (ip ip' sp sp' : ℕ) → ip ≡ ip' → sp ≡ sp' → returned n ip sp ≡ returned n ip' sp'
returned_alike n ip ip' sp sp' a b = cc

far_returned_alike : {S : Type 0} (n : Machine S) (ip ip' cs cs' sp sp' : ℕ) → ip ≡ ip' → cs ≡ cs' → sp ≡ sp'
    → far_returned n ip cs sp ≡ far_returned n ip' cs' sp'
far_returned_alike n ip ip' cs cs' sp sp' a b c = cc

flags_returned_alike : {S : Type 0} (n : Machine S) (ip ip' cs cs' sp sp' : ℕ) (f f' : FlagState)
    → ip ≡ ip' → cs ≡ cs' → f ≡ f' → sp ≡ sp' → flags_returned n ip cs f sp ≡ flags_returned n ip' cs' f' sp'
flags_returned_alike n ip ip' cs cs' sp sp' f f' a b c d = cc

-- the words that pushes write find addresses that take them
takes_first : {S : Type 0} (bus : BusMeaning S) (m : Machine S) (bytes : ℕ) → m.registers.sp < 65536 → 1 < bytes → TakesPushes bus m bytes
    → TakesWord bus m.bus m.registers.ss (below m.registers.sp)
takes_first bus m bytes small within takes =
    takes_at bus m.bus m.registers.ss (below m.registers.sp) (offset_after m.registers.sp 65534) (offset_after m.registers.sp 65535)
    refl (omega arith) (takes 1 within) (takes 0 (omega arith))

takes_second : {S : Type 0} (bus : BusMeaning S) (m : Machine S) (bytes : ℕ) → m.registers.sp < 65536 → 3 < bytes → TakesPushes bus m bytes
    → TakesWord bus m.bus m.registers.ss (below (below m.registers.sp))
takes_second bus m bytes small within takes =
    takes_at bus m.bus m.registers.ss (below (below m.registers.sp)) (offset_after m.registers.sp 65532) (offset_after m.registers.sp 65533)
    (omega arith) (omega arith) (takes 3 within) (takes 2 (omega arith))

takes_third : {S : Type 0} (bus : BusMeaning S) (m : Machine S) (bytes : ℕ) → m.registers.sp < 65536 → 5 < bytes → TakesPushes bus m bytes
    → TakesWord bus m.bus m.registers.ss (below (below (below m.registers.sp)))
takes_third bus m bytes small within takes =
    takes_at bus m.bus m.registers.ss (below (below (below m.registers.sp))) (offset_after m.registers.sp 65530) (offset_after m.registers.sp 65531)
    (omega arith) (omega arith) (takes 5 within) (takes 4 (omega arith))

-- SP of the machine n, raised by the words that it takes off
raised_once : (n_sp sp : ℕ) → n_sp ≡ below sp → sp < 65536 → offset_after n_sp 2 ≡ sp
raised_once n_sp sp is small = ap (λ o. offset_after o 2) is ∙ back_up sp small

raised_twice : (n_sp sp : ℕ) → n_sp ≡ below (below sp) → sp < 65536 → offset_after (offset_after n_sp 2) 2 ≡ sp
raised_twice n_sp sp is small = raised_once (offset_after n_sp 2) sp (raised_once n_sp (below sp) is (omega arith)) small

raised_thrice : (n_sp sp : ℕ) → n_sp ≡ below (below (below sp)) → sp < 65536 → offset_after (offset_after (offset_after n_sp 2) 2) 2 ≡ sp
raised_thrice n_sp sp is small = raised_twice (offset_after n_sp 2) sp (raised_once n_sp (below (below sp)) is (omega arith)) small

pub call_returns : {S : Type 0} (bus : BusMeaning S) → IsBus bus → CallReturns bus
unfolding after_control after_call after_push after_return after_ip_pop after_pop top_word returned
call_returns bus is m n call return small takes keeps =
    let sp = m.registers.sp in
    let p = after_control bus m Call call in
    returned_alike n _ _ _ _
    (word_found bus p n 2 0 (below sp) n.registers.sp keeps (omega arith) (omega arith) (omega arith) keeps.sp
    ∙ first_of_one bus is m.bus m.registers.ss sp m.registers.ip (takes_first bus m 2 small (omega arith) takes))
    (ap (λ o. offset_after o (control_operand bus n return)) (raised_once n.registers.sp sp keeps.sp small))

pub far_call_returns : {S : Type 0} (bus : BusMeaning S) → IsBus bus → FarCallReturns bus
unfolding after_control after_push after_far_pop after_ip_pop after_pop top_word far_returned
far_call_returns bus is m n call return small takes keeps =
    let sp = m.registers.sp in
    let ss = m.registers.ss in
    let p = after_control bus m CallFar call in
    far_returned_alike n _ _ _ _ _ _
    (word_found bus p n 4 0 (below (below sp)) n.registers.sp keeps (omega arith) (omega arith) (omega arith) keeps.sp
    ∙ second_of_two bus is m.bus ss sp m.registers.cs m.registers.ip (takes_second bus m 4 small (omega arith) takes))
    (word_found bus p n 4 2 (below sp) (offset_after n.registers.sp 2) keeps (omega arith) (omega arith) (omega arith)
    (raised_once n.registers.sp (below sp) keeps.sp (omega arith))
    ∙ first_of_two bus is m.bus ss sp m.registers.cs m.registers.ip (takes_first bus m 4 small (omega arith) takes))
    (ap (λ o. offset_after o (control_operand bus n return)) (raised_twice n.registers.sp sp keeps.sp small))

pub interrupt_returns : {S : Type 0} (bus : BusMeaning S) → IsBus bus → InterruptReturns bus
unfolding after_control after_entry after_vector after_entry_pushes after_push
    after_interrupt_return after_far_pop after_ip_pop after_pop top_word flags_returned
interrupt_returns bus is m n kind return small takes keeps =
    let sp = m.registers.sp in
    let ss = m.registers.ss in
    let f = pushed_word m.registers.flags in
    let cs = m.registers.cs in
    let ip = m.registers.ip in
    let p = after_entry bus m kind in
    flags_returned_alike n _ _ _ _ _ _ _ _
    (word_found bus p n 6 0 (below (below (below sp))) n.registers.sp keeps (omega arith) (omega arith) (omega arith) keeps.sp
    ∙ third_of_three bus is m.bus ss sp f cs ip (takes_third bus m 6 small (omega arith) takes))
    (word_found bus p n 6 2 (below (below sp)) (offset_after n.registers.sp 2) keeps (omega arith) (omega arith) (omega arith)
    (raised_once n.registers.sp (below (below sp)) keeps.sp (omega arith))
    ∙ second_of_three bus is m.bus ss sp f cs ip (takes_second bus m 6 small (omega arith) takes))
    (ap popped_flags
    (word_found bus p n 6 4 (below sp) (offset_after (offset_after n.registers.sp 2) 2) keeps (omega arith) (omega arith) (omega arith)
    (raised_twice n.registers.sp (below sp) keeps.sp (omega arith))
    ∙ first_of_three bus is m.bus ss sp f cs ip (takes_first bus m 6 small (omega arith) takes))
    ∙ popped_again m.registers.flags)
    (raised_thrice n.registers.sp sp keeps.sp small)
