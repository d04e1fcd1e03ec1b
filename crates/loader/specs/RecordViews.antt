-- How the definitions see the records and errors of the code.
-- For proofs alone: no public contract rests on it.
use Rattle.std.specs.Prelude.{◌≡◌, ◌<◌, Bool, false, length, Result, Ok, Err}
use Rattle.loader.specs.declared.hex_fault.RecordFault.TheVariants.{NotLoadable}
use Rattle.loader.specs.declared.hex_fault.RecordFault.{RecordFault}
use Rattle.loader.specs.declared.hex_record.Record.{Record}
use Rattle.loader.specs.declared.hex_record.Record.TheVariants.{Bytes, End, Extension, Start}
use Rattle.loader.specs.declared.hex_record.RecordError.{RecordError}
use Rattle.loader.specs.declared.hex_record.RecordError.TheVariants.{Fault, Memory}
use Rattle.loader.specs.Records.{HexRecord, bytes_at, end_of_file, extension_at, start_at}

abbrev pub view_of : Record → HexRecord
view_of (Bytes offset bytes) = bytes_at offset bytes.now
view_of End = end_of_file
view_of (Extension extension) = extension_at extension
view_of Start = start_at

abbrev pub view_in : Result Record RecordFault → Result HexRecord RecordFault
view_in (Ok record') = Ok (view_of record')
view_in (Err fault) = Err fault

-- the error is the fault that is meant, or want of memory
abbrev pub Refuses : {A : Type 0} → RecordError → Result A RecordFault → Type 0
Refuses Memory meant = Unit {0}
Refuses (Fault fault) meant = meant ≡ Err fault

-- bytes are refused if the board can't be loaded with all of them, or for want of memory
abbrev pub RefusesBytes : RecordError → Bool → Type 0
RefusesBytes Memory loadable = Unit {0}
RefusesBytes (Fault fault) loadable = (fault ≡ NotLoadable) × (loadable ≡ false)

-- a record has at most 255 bytes of data
abbrev pub IsSmall : HexRecord → Type 0
IsSmall (bytes_at offset content) = length content < 256
IsSmall end_of_file = Unit {0}
IsSmall (extension_at extension) = Unit {0}
IsSmall start_at = Unit {0}
