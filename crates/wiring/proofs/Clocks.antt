-- What the wires, the ports and the keyboard leave of the clock's number.
use Rattle.std.proofs.Common.{◌≡◌, ℕ, zero, suc, ◌+◌, arith, Bool, true, false, if◌then◌else◌, List, [], ◌∷◌, refl, ap, ◌∙◌}
use Rattle.board_types.proofs.Iterate.{iterate_zero, iterate_more}
use Rattle.memory.specs.Regions.{is_text_address}
use Rattle.bus.specs.PortWriteBus.{after_port_writes}
use Rattle.wiring.specs.declared.port.Port.{Port}
use Rattle.wiring.specs.declared.port.Port.TheVariants.{Controller, Timer, Parallel, Adapter, Nothing}
use Rattle.wiring.specs.Chips.{ChipsState}
use Rattle.wiring.specs.Cells.{with_cell}
use Rattle.wiring.specs.Ports.{with_byte, port_at, after_port_read, after_port_write, after_input, after_output}
use Rattle.wiring.specs.Wires.{after_settling, after_clock, after_clocks, after_arrival, after_arrivals, after_key_settling, after_acknowledge}

pub clock_of_settled : (s : ChipsState) → (after_settling s).clock ≡ s.clock
unfolding after_settling
clock_of_settled s = refl

pub clock_of_clocked : (s : ChipsState) → (after_clock s).clock ≡ s.clock + 1
unfolding after_clock after_settling
clock_of_clocked s = refl

pub clock_of_clocks : (n : ℕ) (s : ChipsState) → (after_clocks s n).clock ≡ s.clock + n
clock_of_clocks zero s =
    let none : s.clock ≡ s.clock + 0 = omega arith in ap (λ t. t.clock) (iterate_zero after_clock s) ∙ none
clock_of_clocks (suc n) s =
    let more : suc n ≡ n + 1 = omega arith in
    let one : s.clock + n + 1 ≡ s.clock + suc n = omega arith in
    ap (λ k. (after_clocks s k).clock) more ∙ ap (λ t. t.clock) (iterate_more after_clock n s) ∙ clock_of_clocked (after_clocks s n)
    ∙ ap (λ k. k + 1) (clock_of_clocks n s) ∙ one

pub clock_of_arrived : (s : ChipsState) (code : ℕ) → (after_arrival s code).clock ≡ s.clock
unfolding after_arrival
clock_of_arrived s code = refl

pub clock_of_arrivals : (s : ChipsState) (codes : List ℕ) → (after_arrivals s codes).clock ≡ s.clock
clock_of_arrivals s [] = refl
clock_of_arrivals s (code ∷ codes) = clock_of_arrivals (after_arrival s code) codes ∙ clock_of_arrived s code

pub clock_of_keys_settled : (s : ChipsState) → (after_key_settling s).clock ≡ s.clock
unfolding after_key_settling after_settling
clock_of_keys_settled s = refl

pub clock_of_request_taken : (s : ChipsState) → (after_acknowledge s).clock ≡ s.clock
unfolding after_acknowledge
clock_of_request_taken s = refl

choose : (b : Bool) (clock : ℕ) (s t : ChipsState) → s.clock ≡ clock → t.clock ≡ clock → (if b then s else t).clock ≡ clock
choose true clock s t first second = first
choose false clock s t first second = second

pub clock_of_byte : (s : ChipsState) (address byte : ℕ) → (with_byte s address byte).clock ≡ s.clock
unfolding with_byte
clock_of_byte s address byte = choose (is_text_address address) s.clock _ _ refl refl

pub clock_of_cell : (s : ChipsState) (address byte : ℕ) → (with_cell s address byte).clock ≡ s.clock
unfolding with_cell
clock_of_cell s address byte = choose (is_text_address address) s.clock _ _ refl refl

read_clock : (s : ChipsState) (port : Port) → (after_port_read s port).clock ≡ s.clock
read_clock s (Controller a0) = refl
read_clock s (Timer n) = refl
read_clock s (Parallel n) = refl
read_clock s (Adapter n) = refl
read_clock s Nothing = refl

written_clock : (s : ChipsState) (port : Port) (byte : ℕ) → (after_port_write s port byte).clock ≡ s.clock
written_clock s (Controller a0) byte = refl
written_clock s (Timer n) byte = refl
written_clock s (Parallel n) byte = refl
written_clock s (Adapter n) byte = refl
written_clock s Nothing byte = refl

pub clock_of_input : (s : ChipsState) (port : ℕ) → (after_input s port).clock ≡ s.clock
unfolding after_input
clock_of_input s port = clock_of_settled (after_port_read s (port_at port)) ∙ read_clock s (port_at port)

pub clock_of_output : (s : ChipsState) (port byte : ℕ) → (after_output s port byte).clock ≡ s.clock
unfolding after_output
clock_of_output s port byte = clock_of_settled (after_port_write s (port_at port) byte) ∙ written_clock s (port_at port) byte

pub clock_of_writes : (s : ChipsState) (writes : List (ℕ × ℕ)) → (after_port_writes after_output s writes).clock ≡ s.clock
clock_of_writes s [] = refl
clock_of_writes s (w ∷ writes) = clock_of_writes (after_output s w.0 w.1) writes ∙ clock_of_output s w.0 w.1
