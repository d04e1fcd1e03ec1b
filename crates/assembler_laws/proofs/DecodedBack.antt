-- The instruction of a row is the one that is decoded at its place.
use Rattle.std.proofs.Common.{◌≡◌, ◌∙◌, ℕ, ◌+◌, ◌<◌, ◌≤◌, List, [], length, Contains, refl, sym, ap, subst, arith, Some, is_some}
use Rattle.std.specs.Option.{option_map_or}
use Rattle.isa.specs.declared.form.Form.{Form}
use Rattle.isa.specs.declared.form.Instr.{Instr}
use Rattle.isa.specs.Encoding.{form_length, spelling, IsInstr}
use Rattle.decode.specs.declared.decoding.Decoding.{Decoding as Decoded}
use Rattle.decode.specs.declared.decoding.Decoding.TheVariants.{Found, NoRow}
use Rattle.decode.specs.Decoding.{code_at, decoded_from, IsDecoded, StandsIn}
use Rattle.decode.proofs.Exact.{exact, none_is_longer}
use Rattle.assembler_syntax.specs.declared.statement.Instruction.{Instruction as Written}
use Rattle.assembler_syntax.specs.declared.statement.Statement.TheVariants.{Instruction}
use Rattle.assembler_meaning.specs.declared.symbol.Location.{Location}
use Rattle.assembler_meaning.specs.Instructions.{code_bytes, instruction_size, numbers_of}
use Rattle.assembler_meaning.specs.Values.{Names}
use Rattle.assembler_meaning.proofs.LeavesLength.{code_length}
use Rattle.board_types.specs.TextLines.{text_lines}
use Rattle.assembler.specs.declared.kept_line.Content.TheVariants.{Code}
use Rattle.assembler.specs.Placement.{bytes_by, bytes_from, content_of, fields_of, has_wrong_number, placed_by}
use Rattle.assembler.specs.LocatedLines.{LocatedLine, names_of}
use Rattle.assembler.specs.Gives.{Fits, FitsAt}
use Rattle.assembler.proofs.PlacingLines.{ends_within}
use Rattle.assembler.proofs.AnsweringPlaces.{placed_there as bytes_placed}
use Rattle.assembler_laws.specs.DecodingBack.{instr_of, BytesDecodeBack, DecodesBack}
use Rattle.assembler_laws.proofs.CleanRows.{all_there, clean_there, fields_fit, has_place, placed_there, some_there, HasPlace}
use Rattle.assembler_laws.proofs.LoadedBytes.{seen_bytes, seen_first, seen_long}

found_is : (bytes : List ℕ) (d : Decoded) (i : Instr) (n : ℕ) → IsDecoded bytes d → StandsIn bytes i n → d ≡ Found i n
found_is bytes (Found j m) i n is stands =
    let same = is.alone i n stands in ap (λ k. Found k m) (sym same.0) ∙ ap (Found i) (sym same.1)
found_is bytes NoRow i n is stands = absurd (is i n stands)

some_bytes : (f : Form) (i : Written) → 0 < instruction_size f i
unfolding form_length
some_bytes f i = omega arith

-- what stands at the front is decoded
stands_there : (byte : ℕ → ℕ) (location : Location) (i : Instr) → ((address : ℕ) → byte address < 256) → IsInstr i
    → location.offset + length (spelling i) ≤ 65536
    → ((address b : ℕ) → Contains (bytes_from location 0 (spelling i)) (address, b) → byte address ≡ b)
    → decoded_from (code_at byte location.segment location.offset) ≡ Found i (length (spelling i))
stands_there byte location i bytes is within each =
    let code : List ℕ = code_at byte location.segment location.offset in
    found_is code (decoded_from code) i (length (spelling i)) (exact code (seen_long byte location) (seen_bytes byte location bytes))
    (record { is_instr = is; length = refl; spelled = seen_first byte location (spelling i) (none_is_longer i is) within each })

row_decodes : (byte : ℕ → ℕ) (names : Names) (row : LocatedLine) (i : Written) → row.line.statement ≡ Instruction i → HasPlace row i → Fits names row
    → ((address : ℕ) → byte address < 256) → ((address b : ℕ) → Contains (placed_by names row) (address, b) → byte address ≡ b)
    → DecodesBack byte names row i
row_decodes byte names row i is has fits bytes each =
    let f = has.form in
    let location = has.location in
    let fit : FitsAt names row location = fits location has.has_place in
    let content : content_of row.line.statement row.form ≡ Some (Code f i) =
    ap (λ s. content_of s row.form) is ∙ ap (content_of (Instruction i)) has.has_form in
    let numbers = some_there (fields_of names location row.size f i) (sym (ap (has_wrong_number names location row.size) content) ∙ fit.fits) in
    let v = numbers.0 in
    let instr : Instr = instr_of f i v in
    let instr_is : IsInstr instr = record {
      few = has.few;
      form = has.is_form;
      values = fields_fit f (location.offset + row.size) (numbers_of names location.offset i.operands) v numbers.1;
    } in
    let long : length (spelling instr) ≡ row.size = code_length f i v ∙ sym has.size in
    let ends : location.offset + row.size ≤ 65536 =
    ends_within location row.size (is_some row.line.label) fit.within (subst (λ n. 0 < n) (sym has.size) (some_bytes f i)) in
    let placed : placed_by names row ≡ bytes_from location 0 (spelling instr) =
    bytes_placed names row location has.has_place ∙ ap (λ c. bytes_from location 0 (bytes_by names location row.size c)) content
    ∙ ap (λ o. bytes_from location 0 (option_map_or (code_bytes f i) o [])) numbers.1 in
    let decodes = stands_there byte location instr bytes instr_is (subst (λ n. location.offset + n ≤ 65536) (sym long) ends)
    (λ address b there. each address b (subst (λ es. Contains es (address, b)) (sym placed) there)) in
    record {
      form = f;
      location = location;
      numbers = v;
      has_form = has.has_form;
      has_place = has.has_place;
      has_numbers = numbers.1;
      decodes = decodes ∙ ap (Found instr) long;
    }

pub bytes_decode_back : BytesDecodeBack
bytes_decode_back source image gives byte loaded row i within is =
    let names : Names = names_of gives.located_lines in
    row_decodes byte names row i is (has_place row i is (clean_there (text_lines source) gives.located_lines row gives.are_located_lines within))
    (all_there (Fits names) gives.located_lines row gives.placed.fit within) loaded.bytes
    (λ address b there.
    loaded.holds address b ((gives.placed.bytes address b).1 (placed_there (placed_by names) gives.located_lines row (address, b) within there)))
