use Rattle.std.proofs.Common.{◌≡◌, ◌==◌, ◌++◌, ◌∙◌}
use Rattle.std.specs.String.{string_bytes}
use Rattle.pit8253.specs.Counter.{CounterState}
use Rattle.pit8253.specs.PitNumbers.{counter_of}
use Rattle.probe_texts.specs.CounterText.{counter_counts, counter_line, counter_lines}
use Rattle.probe_texts.proofs.Hearing.{on_ok_then}
use Rattle.probe_texts.proofs.Pieces.{five_pieces, some_unless}
use Rattle.probe_texts.proofs.counter_text.push_counter.Goals as goal

pub returns : goal.returns
unfolding counter_line counter_of
returns c =
    let counter : CounterState = counter_of c.args.image.now in
    let counts : string_bytes c.write.new.self ≡ string_bytes c.args.text.now ++ counter_counts c.args.number counter =
    rw (c.mode_digit-mode.ensures.digit, c.access_digit-access.ensures.digit, c.flag_digit-radix.ensures.radix, c.digits_in.ensures, c.newest.ensures)
    at c.in_ok-write.ensures.bytes in
    let lines : string_bytes c.write-2.new.self ≡ string_bytes c.write.new.self ++ counter_lines counter =
    rw (
      c.loads_next-load.ensures,
      c.flag_digit-out.ensures.level,
      c.flag_digit-gate.ensures.level,
      c.then_some.ensures ∙ some_unless (c.args.image.now.has_first_byte == 0) c.args.image.now.first_byte,
      c.then_some-2.ensures ∙ some_unless (c.args.image.now.has_latch == 0) c.args.image.now.latch,
      c.reads_high-high.ensures,
    )
    at c.in_ok-write-2.ensures.bytes in
    on_ok_then c.write-3.result (λ end. five_pieces _ _ _ _ _ _ _ _ _ _ _ counts lines c.in_ok-push_running.ensures c.in_ok-push_status.ensures end)
    c.write-3.ensures.bytes
