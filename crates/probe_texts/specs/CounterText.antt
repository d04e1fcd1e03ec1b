-- A counter of the timer as text (Intel 8253 data sheet, "Control Word Format" and "Mode Definition"; Intel 8254 data
-- sheet, "Read-Back Command" with "Status Byte").
-- To be believed by callers of this crate: the headline does not rest on it.
use Rattle.std.specs.Prelude.{ℕ, Bool, true, not, if◌then◌else◌, List, [], ◌++◌, codes, Option, None, Some}
use Rattle.std.specs.Fmt.{decimal}
use Rattle.board_types.specs.Digits.{hex_byte_text, hex_word}
use Rattle.pit8253.specs.Counter.{CounterState, after_tick, is_8254, is_awaited, is_loaded, reads_high, status_of}
use Rattle.pit8253.specs.Program.{access_number, digits_of, mode_number, radix_number}
use Rattle.probe_texts.specs.Shown.{byte_or_none, flag_text, line_text, word_or_none}

-- the newest full count since the control word, in the digits in which it was written
abbrev pub newest_of : CounterState → Option ℕ
newest_of c = if is_awaited c.progress then None else Some (digits_of c.radix c.newest)

-- the counter's number; the control word's mode, access (RW) and radix (BCD); the running count and the newest one
abbrev pub counter_counts : ℕ → CounterState → List ℕ
counter_counts n c =
    codes "counter " ++ (decimal n
    ++ (codes " mode " ++ (decimal (mode_number c.mode)
    ++ (codes " RW " ++ (decimal (access_number c.access)
    ++ (codes " BCD " ++ (decimal (radix_number c.radix)
    ++ (codes " count " ++ (hex_word (digits_of c.count_radix c.count)
    ++ (codes " newest " ++ word_or_none (newest_of c)))))))))))

-- whether the next tick loads the newest count: of all that a tick does, a load alone clears a null count
abbrev pub loads_next : CounterState → Bool
loads_next c = not (after_tick (record c { is_null = true })).is_null

-- whether the next tick loads the newest count; output and gate; the first byte of a count whose second is still to be
-- written; the latched count; and whether the next read of the count gives its high byte
abbrev pub counter_lines : CounterState → List ℕ
counter_lines c =
    codes " load " ++ (flag_text (loads_next c)
    ++ (codes " OUT " ++ (line_text c.out
    ++ (codes " GATE " ++ (line_text c.gate
    ++ (codes " first " ++ (byte_or_none c.first_byte
    ++ (codes " latch " ++ (word_or_none c.latch
    ++ (codes " high " ++ flag_text (reads_high c.access c.high_next)))))))))))

-- whether a count was loaded since the control word; whether a full count or a trigger asked for the next load; whether
-- the strobe of the loaded count is still to come; and the running count's radix
abbrev pub counter_running : CounterState → List ℕ
counter_running c =
    codes " loaded " ++ (flag_text (is_loaded c.progress)
    ++ (codes " due " ++ (flag_text c.load_due
    ++ (codes " strobe " ++ (flag_text c.strobe_due
    ++ (codes " decimal " ++ decimal (radix_number c.count_radix)))))))

-- the status byte as a read-back would latch it now, and the latched one; and whether the running half keeps its 0
unfoldable pub counter_status : CounterState → List ℕ
counter_status c =
    codes " status " ++ (hex_byte_text (status_of c)
    ++ (codes " latched " ++ (byte_or_none c.status
    ++ (codes " keeps " ++ flag_text c.keeps_zero))))

unfoldable pub counter_line : ℕ → CounterState → List ℕ
counter_line n c =
    counter_counts n c
    ++ (counter_lines c ++ (counter_running c ++ ((if is_8254 c.kind then counter_status c else []) ++ codes "\n")))
