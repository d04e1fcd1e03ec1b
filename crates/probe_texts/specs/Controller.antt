-- The interrupt controller as text (Intel 8259A data sheet, "Interrupt Request Register (IRR) and In-Service Register
-- (ISR)", "Interrupt Mask Register (IMR)", "Priority Resolver", "Interrupt Sequence", "Initialization Command Words",
-- "Operation Control Words").
-- To be believed by callers of this crate: the headline does not rest on it.
use Rattle.pic8259.specs.AskingLevels.{requests}
use Rattle.std.specs.Prelude.{ℕ, not, List, ◌++◌, codes, slice_index}
use Rattle.std.specs.Fmt.{decimal}
use Rattle.board_types.specs.Digits.{hex_byte_text}
use Rattle.pic8259.specs.declared.controller.Expected.{Expected}
use Rattle.pic8259.specs.declared.controller.Expected.TheVariants.{Icw2, Icw3, Icw4, Operation}
use Rattle.pic8259.specs.Levels.{byte_of}
use Rattle.pic8259.specs.Pic.{PicState, is_requesting, vector}
use Rattle.probe_texts.specs.Shown.{flag_text}

-- the command word that an initialisation sequence waits for
abbrev pub awaited_text : Expected → List ℕ
awaited_text Icw2 = codes "ICW2"
awaited_text Icw3 = codes "ICW3"
awaited_text Icw4 = codes "ICW4"
awaited_text Operation = codes "none"

-- the request lines and the three registers, a bit for each level
abbrev pub controller_registers : PicState → List ℕ
controller_registers s =
    codes "controller IR " ++ (hex_byte_text (byte_of s.high)
    ++ (codes " IRR " ++ (hex_byte_text (byte_of (requests s))
    ++ (codes " ISR " ++ (hex_byte_text (byte_of s.served)
    ++ (codes " IMR " ++ hex_byte_text (byte_of s.masked)))))))

-- the level with the lowest priority; the interrupt output, and the vector that an acknowledge would give now; and the
-- command word that is awaited
abbrev pub controller_output : PicState → List ℕ
controller_output s =
    codes " lowest " ++ (decimal (slice_index s.order 7)
    ++ (codes " INT " ++ (flag_text (is_requesting s)
    ++ (codes " vector " ++ (hex_byte_text (vector s)
    ++ (codes " awaits " ++ awaited_text s.expected))))))

-- what the initialisation has set: level mode (LTIM of ICW1), 8086 mode (µPM of ICW4) and automatic end of interrupt
-- (AEOI); and rotation in that mode
abbrev pub controller_modes : PicState → List ℕ
controller_modes s =
    codes " LTIM " ++ (flag_text s.is_level_triggered
    ++ (codes " uPM " ++ (flag_text s.is_8086
    ++ (codes " AEOI " ++ (flag_text s.auto_end
    ++ (codes " rotates " ++ flag_text s.rotates))))))

-- what OCW3 has set: special mask mode (SMM), a poll that waits for its read (P), and that reads give the levels in
-- service (RIS)
abbrev pub controller_reads : PicState → List ℕ
controller_reads s =
    codes " SMM " ++ (flag_text s.special_mask
    ++ (codes " P " ++ (flag_text s.polled
    ++ (codes " RIS " ++ flag_text s.reads_served))))

-- the levels whose line has risen since they were last taken, a bit a level, whatever the lines are now; and by ICW1
-- that no ICW3 belongs to the sequence (SNGL), and that ICW4 does (IC4)
abbrev pub controller_kept : PicState → List ℕ
controller_kept s =
    codes " risen " ++ (hex_byte_text (byte_of s.risen)
    ++ (codes " SNGL " ++ (flag_text (not s.is_cascaded)
    ++ (codes " IC4 " ++ flag_text s.asks_icw4))))

unfoldable pub controller_line : PicState → List ℕ
controller_line s =
    controller_registers s
    ++ (controller_output s ++ (controller_modes s ++ (controller_reads s ++ (controller_kept s ++ codes "\n"))))
