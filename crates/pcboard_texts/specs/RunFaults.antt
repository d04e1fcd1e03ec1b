-- Why a run is refused, and the line that says so.
-- To be believed: the headline rests on it.
use Rattle.std.specs.Prelude.{ℕ, List, ◌++◌, codes, Option, None, Some}
use Rattle.std.specs.Fmt.{decimal}
use Rattle.assembler.specs.Gives.{Gives}
use Rattle.assembler.specs.FirstFault.{IsFirst, fault_line, fault_title}
use Rattle.loader.specs.declared.run_file.RunFile.{RunFile}
use Rattle.loader.specs.HexFault.{hex_fault_line, hex_fault_title}
use Rattle.loader.specs.RunFault.{run_fault_title}
use Rattle.assembler.specs.declared.fault.AsmFault.TheVariants as asm
use Rattle.loader.specs.declared.hex_fault.HexFault.TheVariants as hexes
use Rattle.loader.specs.declared.run_fault.RunFault.TheVariants as runs
use Rattle.board_plain.specs.declared.fault.BoardFault.TheVariants as boards
use Rattle.board_plain.specs.declared.fault.BoardFault.{BoardFault}
use Rattle.board_plain.specs.Board.{board_fault_number, board_fault_name}
use Rattle.debugger_meaning.specs.Answers.{fault_title as debug_fault_title}
use Rattle.debugger_meaning.specs.declared.fault.DebugFault.TheVariants as sessions
use Rattle.pcboard_texts.specs.declared.fault.Fault.{Fault}
use Rattle.pcboard_texts.specs.declared.fault.Fault.TheVariants.{Source, Hex, Run, Board, Session}
use Rattle.pcboard_texts.specs.ImageReport.{FitsBoard}

abbrev pub title_of : Fault → ℕ × List ℕ
title_of (Source fault) = fault_title fault
title_of (Hex fault) = hex_fault_title fault
title_of (Run fault) = run_fault_title fault
title_of (Board fault) = (board_fault_number fault, board_fault_name fault)
title_of (Session fault) = debug_fault_title fault

abbrev pub number_of : Fault → ℕ
number_of fault = (title_of fault).0

abbrev pub name_of : Fault → List ℕ
name_of fault = (title_of fault).1

abbrev pub line_of : Fault → Option ℕ
line_of (Source fault) = fault_line fault
line_of (Hex fault) = hex_fault_line fault
line_of _ = None

abbrev pub line_suffix : Option ℕ → List ℕ
line_suffix None = codes "\n"
line_suffix (Some line) = codes " line " ++ (decimal line ++ codes "\n")

-- the line that is printed for a fault
unfoldable pub fault_text : Fault → List ℕ
fault_text fault =
    codes "fault " ++ (decimal (title_of fault).0 ++ (codes " " ++ ((title_of fault).1 ++ line_suffix (line_of fault))))

-- the faults that say that there was no memory, whichever part wanted it
abbrev pub IsWantOfMemory : Fault → Type 0
IsWantOfMemory (Source asm.Memory) = Unit {0}
IsWantOfMemory (Hex hexes.Memory) = Unit {0}
IsWantOfMemory (Run runs.Memory) = Unit {0}
IsWantOfMemory (Board boards.Memory) = Unit {0}
IsWantOfMemory (Session (sessions.Memory clock)) = Unit {0}
IsWantOfMemory _ = ⊥

-- a board's refusal is true of an image: its RAM doesn't fit, or there was no memory
abbrev pub IsTrueOfBoard : List (ℕ × ℕ) → RunFile → BoardFault → Type 0
IsTrueOfBoard image run boards.RamSize = ¬ (FitsBoard image run)
IsTrueOfBoard image run boards.Memory = Unit {0}
IsTrueOfBoard image run boards.ClockLimit = ⊥

-- a refusal of a run is true of the image: it is the board's
abbrev pub IsTrueOfImage : List (ℕ × ℕ) → RunFile → Fault → Type 0
IsTrueOfImage image run (Board fault) = IsTrueOfBoard image run fault
IsTrueOfImage image run _ = ⊥

-- a refusal of a run is true of the source: it is the source's first fault, or one of the image that the source gives
abbrev pub IsTrueOfSource : List ℕ → RunFile → Fault → Type 0
IsTrueOfSource source run (Source fault) = IsFirst source fault
IsTrueOfSource source run (Board fault) = (image : List (ℕ × ℕ)) × Gives source image × IsTrueOfBoard image run fault
IsTrueOfSource source run _ = ⊥
