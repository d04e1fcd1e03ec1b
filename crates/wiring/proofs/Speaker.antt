-- The speaker's part of what the wires do: the timer and the parallel port alone.
use Rattle.std.proofs.Common.{◌≡◌, ℕ, zero, suc, arith, ◌+◌, ◌<◌, List, [], ◌∷◌, length, get_or, take, false, ◌&&◌, refl, sym, ap, ◌∙◌}
use Rattle.std.proofs.lemmas.List.Sums.{fold_more}
use Rattle.board_types.proofs.Iterate.{iterate_zero, iterate_more}
use Rattle.board_types.specs.Bits.{has_bit}
use Rattle.board_types.specs.LineLevel.{is_high}
use Rattle.bus.specs.PortWriteBus.{after_port_writes}
use Rattle.pit8253.specs.Pit.{PitState, after_tick, after_ticks}
use Rattle.ppi8255.specs.Ppi as ppi
use Rattle.ppi8255.specs.Ppi.{lines_b}
use Rattle.wiring.specs.declared.port.Port.{Port}
use Rattle.wiring.specs.declared.port.Port.TheVariants.{Controller, Timer, Parallel, Adapter, Nothing}
use Rattle.wiring.specs.declared.sound.Sound.{Sound}
use Rattle.wiring.specs.Chips.{ChipsState}
use Rattle.wiring.specs.Ports.{port_at, after_port_write, after_output}
use Rattle.wiring.specs.Wires.{after_settling, after_clock, after_clocks, after_key_settling, pit_after_clock}
use Rattle.wiring.specs.EachWire.{port_b_line}
use Rattle.wiring.specs.Sound.{sound_of, sound_after_settling, sound_after_clock, sound_after_write, is_sound_high}
use Rattle.wiring.specs.Speaker.{is_speaker_high, is_speaker_high_after}
use Rattle.wiring.proofs.Gates.{gate_2_twice}
use Rattle.wiring.proofs.Clocks.{clock_of_writes}

pub one_tick : (p : PitState) → after_ticks p 1 ≡ after_tick p
one_tick p = iterate_more after_tick 0 p ∙ ap after_tick (iterate_zero after_tick p)

sound_of_settling : (s : ChipsState) → sound_of (after_settling s) ≡ sound_after_settling (sound_of s)
unfolding after_settling
sound_of_settling s = refl

sound_of_write : (s : ChipsState) (port : Port) (byte : ℕ) → sound_of (after_port_write s port byte) ≡ sound_after_write (sound_of s) port byte
sound_of_write s (Controller a0) byte = refl
sound_of_write s (Timer n) byte = refl
sound_of_write s (Parallel n) byte = refl
sound_of_write s (Adapter n) byte = refl
sound_of_write s Nothing byte = refl

abbrev pub sound_after_output : Sound → ℕ → ℕ → Sound
sound_after_output sound port byte = sound_after_settling (sound_after_write sound (port_at port) byte)

sound_of_output : (s : ChipsState) (port byte : ℕ) → sound_of (after_output s port byte) ≡ sound_after_output (sound_of s) port byte
unfolding after_output
sound_of_output s port byte =
    sound_of_settling (after_port_write s (port_at port) byte) ∙ ap sound_after_settling (sound_of_write s (port_at port) byte)

sound_of_clock : (s : ChipsState) → sound_of (after_clock s) ≡ sound_after_clock (sound_of s) (s.clock + 1)
unfolding after_clock after_settling
sound_of_clock s = refl

settled_twice : (sound : Sound) → sound_after_settling (sound_after_settling sound) ≡ sound_after_settling sound
settled_twice sound = ap (λ pit. record sound { pit = pit }) (gate_2_twice sound.pit (port_b_line sound.ppi 0))

sound_of_keys : (s : ChipsState) → sound_of (after_key_settling s) ≡ sound_after_settling (sound_of s)
unfolding after_key_settling after_settling
sound_of_keys s = refl

next_sound : (s : ChipsState) → sound_of (after_key_settling (after_clock s)) ≡ sound_after_clock (sound_of s) (s.clock + 1)
next_sound s =
    sound_of_keys (after_clock s) ∙ ap sound_after_settling (sound_of_clock s)
    ∙ settled_twice (record (sound_of s) { pit = pit_after_clock s.pit (s.clock + 1) })

high_sound : (s : ChipsState) → is_speaker_high s ≡ is_sound_high (sound_of s)
unfolding is_speaker_high
high_sound s = refl

-- one write more
pub more_written : (s : ChipsState) (writes : List (ℕ × ℕ)) (n : ℕ) (w : ℕ × ℕ) (sound : Sound)
    → n < length writes → sound ≡ sound_of (after_port_writes after_output s (take n writes))
    → sound_after_output sound (get_or writes n w).0 (get_or writes n w).1 ≡ sound_of (after_port_writes after_output s (take (n + 1) writes))
more_written s writes n w sound within is =
    let last : ℕ × ℕ = get_or writes n w in
    ap (λ x. sound_after_output x last.0 last.1) is
    ∙ sym (sound_of_output (after_port_writes after_output s (take n writes)) last.0 last.1)
    ∙ ap sound_of (sym (fold_more (λ x v. after_output x v.0 v.1) s writes n w within))

-- the parallel port after one write more
pub more_written_ppi : (s : ChipsState) (writes : List (ℕ × ℕ)) (n : ℕ) (w : ℕ × ℕ) → n < length writes
    → (sound_after_write (sound_of (after_port_writes after_output s (take n writes))) (port_at (get_or writes n w).0) (get_or writes n w).1).ppi
    ≡ (after_port_writes after_output s (take (n + 1) writes)).ppi
more_written_ppi s writes n w within =
    ap (λ (sound : Sound). sound.ppi) (more_written s writes n w (sound_of (after_port_writes after_output s (take n writes))) within refl)

pub level_told : (s : ChipsState) (writes : List (ℕ × ℕ))
    → is_sound_high (sound_after_clock (sound_of (after_port_writes after_output s writes)) (s.clock + 1)) ≡ is_speaker_high_after s writes
unfolding is_speaker_high_after
level_told s writes =
    ap (λ clock. is_sound_high (sound_after_clock (sound_of (after_port_writes after_output s writes)) (clock + 1))) (sym (clock_of_writes s writes))
    ∙ ap is_sound_high (sym (next_sound (after_port_writes after_output s writes)))
    ∙ sym (high_sound (after_key_settling (after_clock (after_port_writes after_output s writes))))

-- if port B holds the speaker low, it is low whatever the timer does
pub stays_low : (s : ChipsState) (writes : List (ℕ × ℕ)) → has_bit (lines_b (after_port_writes after_output s writes).ppi) 1 ≡ false
    → is_speaker_high_after s writes ≡ false
stays_low s writes low =
    let next : Sound = sound_after_clock (sound_of (after_port_writes after_output s writes)) (s.clock + 1) in
    sym (level_told s writes) ∙ ap (λ b. b && is_high next.pit.counter_2.out) low

-- the parallel port's part of what port writes make depends on itself alone
ppi_of_write : (s t : ChipsState) (port : Port) (byte : ℕ) → s.ppi ≡ t.ppi → (after_port_write s port byte).ppi ≡ (after_port_write t port byte).ppi
ppi_of_write s t (Controller a0) byte same = same
ppi_of_write s t (Timer n) byte same = same
ppi_of_write s t (Parallel n) byte same = ap (λ p. ppi.after_write p n byte) same
ppi_of_write s t (Adapter n) byte same = same
ppi_of_write s t Nothing byte same = same

ppi_of_output : (s t : ChipsState) (port byte : ℕ) → s.ppi ≡ t.ppi → (after_output s port byte).ppi ≡ (after_output t port byte).ppi
unfolding after_output after_settling
ppi_of_output s t port byte same = ppi_of_write s t (port_at port) byte same

ppi_of_writes : (s t : ChipsState) (writes : List (ℕ × ℕ)) → s.ppi ≡ t.ppi
    → (after_port_writes after_output s writes).ppi ≡ (after_port_writes after_output t writes).ppi
ppi_of_writes s t [] same = same
ppi_of_writes s t (w ∷ writes) same = ppi_of_writes (after_output s w.0 w.1) (after_output t w.0 w.1) writes (ppi_of_output s t w.0 w.1 same)

ppi_of_clock : (s : ChipsState) → (after_clock s).ppi ≡ s.ppi
unfolding after_clock after_settling
ppi_of_clock s = refl

pub ppi_of_clocks : (s : ChipsState) (n : ℕ) → (after_clocks s n).ppi ≡ s.ppi
ppi_of_clocks s zero = ap (λ (t : ChipsState). t.ppi) (iterate_zero after_clock s)
ppi_of_clocks s (suc n) =
    let more : suc n ≡ n + 1 = omega arith in
    ap (λ (t : ChipsState). t.ppi) (ap (λ k. after_clocks s k) more ∙ iterate_more after_clock n s)
    ∙ ppi_of_clock (after_clocks s n) ∙ ppi_of_clocks s n

-- if port B holds the speaker low, it is low at any later clock
pub stays_speaker_off : (s : ChipsState) (writes : List (ℕ × ℕ)) (clocks : ℕ) → has_bit (lines_b (after_port_writes after_output s writes).ppi) 1 ≡ false
    → is_speaker_high_after (after_clocks s clocks) writes ≡ false
stays_speaker_off s writes clocks low =
    stays_low (after_clocks s clocks) writes
    (ap (λ p. has_bit (lines_b p) 1) (ppi_of_writes (after_clocks s clocks) s writes (ppi_of_clocks s clocks)) ∙ low)
