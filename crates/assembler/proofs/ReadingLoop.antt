-- From one line of a source to the next.
use Rattle.std.proofs.Common.{◌≡◌, ℕ, ◌+◌, ◌-◌, ◌*◌, ◌^◌, ◌<◌, ◌≤◌, inl, refl, sym, ap, ◌∙◌, subst, arith, List}
use Rattle.std.proofs.Common.{[], ◌∷◌, ◌++◌, length, take, drop, Option, None, length-append, append_assoc}
use Rattle.std.proofs.Math.Seq.{drop-append_seam, take-append_seam}
use Rattle.board_types.specs.TextLines.{text_lines}
use Rattle.assembler.specs.declared.fault.AsmFault.{AsmFault}
use Rattle.assembler.specs.declared.fault.AsmFault.TheVariants.{SourceTooLong, InLine, Memory}
use Rattle.assembler.specs.declared.fault.SourceFault.{SourceFault}
use Rattle.assembler.specs.declared.kept_line.KeptLine.{KeptLine}
use Rattle.assembler.specs.declared.early.Before.{Before}
use Rattle.assembler_meaning.specs.declared.symbol.Location.{Location}
use Rattle.assembler_meaning.specs.Values.{AreSmall, Names}
use Rattle.assembler.specs.LocatedLines.{LocatedLine, IsCleanLine, IsLocatedLine, early_fault, names_of, location_following}
use Rattle.assembler.specs.FirstFault.{IsFirst, IsTextFault}
use Rattle.assembler.specs.FirstPass.{HasRead, KeepsLine, KeepsText, StopsAt, offset_of, size_limit}
use Rattle.assembler.specs.Gives.{source_limit}
use Rattle.std.specs.List.{AllByRecursion}
use Rattle.assembler.specs.KeptLines.{AreKept, IsSteady, Keeps}
use Rattle.assembler.proofs.ReadingNames.{small_none}
use Rattle.assembler.proofs.ReadingLines.{all_push, kept_push, names_push, lines_push, location_push}

-- a line of the rest, and what follows it
pub record IsLine (rest text after : List ℕ) : Type 0 where
  pub lines : text_lines rest ≡ text ∷ text_lines after
  pub parts : (ending : List ℕ) × (rest ≡ text ++ (ending ++ after))
  pub shorter : length after < length rest

-- the bytes of a line, which come before what follows it
taken : (rest text after : List ℕ) → IsLine rest text after → List ℕ
taken rest text after line = text ++ line.parts.0

taken_is : (rest text after : List ℕ) (line : IsLine rest text after) → rest ≡ taken rest text after line ++ after
unfolding taken
taken_is rest text after line = line.parts.1 ∙ sym (append_assoc text line.parts.0 after)

taken_size : (rest text after : List ℕ) (line : IsLine rest text after) → length text ≤ length (taken rest text after line)
unfolding taken
taken_size rest text after line = omega (arith, length-append text line.parts.0)

-- the text of a line is within the source
inside_source : (source passed rest text after : List ℕ) (start : ℕ) → source ≡ passed ++ rest → IsLine rest text after → start ≡ length passed
    → start + length text ≤ length source
inside_source source passed rest text after start is line starts =
    omega (arith, ap length is, length-append passed rest, ap length line.parts.1, length-append text (line.parts.0 ++ after))

drop_passed : (source passed rest : List ℕ) → source ≡ passed ++ rest → drop (length passed) source ≡ rest
drop_passed source passed rest is = ap (λ (s : List ℕ). drop (length passed) s) is ∙ drop-append_seam passed rest

text_stands : (source passed rest text after : List ℕ) (start : ℕ) → source ≡ passed ++ rest → IsLine rest text after → start ≡ length passed
    → take (length text) (drop start source) ≡ text
text_stands source passed rest text after start is line starts =
    ap (λ (n : ℕ). take (length text) (drop n source)) starts ∙ ap (λ (s : List ℕ). take (length text) s) (drop_passed source passed rest is ∙ line.parts.1)
    ∙ take-append_seam text (line.parts.0 ++ after)

keeps_it : (source text : List ℕ) (start : ℕ) (kept : KeptLine) (located : LocatedLine) → start + length text ≤ length source
    → take (length text) (drop start source) ≡ text → KeepsLine start (length text) kept located → Keeps source text kept located
keeps_it source text start kept located inside stands keeps = record {
  inside = omega (arith, keeps.starts, keeps.ends);
  text = ap (λ (n : ℕ). take n (drop kept.start source)) keeps.ends ∙ ap (λ (n : ℕ). take (length text) (drop n source)) keeps.starts ∙ stands;
  label = keeps.label;
  location = keeps.location;
  size = keeps.size;
  content = keeps.content;
}

-- a row that is clean in the light of a state is clean after the rows that left that state
clean_in : (state : Before) (located_lines : List LocatedLine) (text : List ℕ) (located : LocatedLine) → state.symbols.entries ≡ names_of located_lines
    → state.location ≡ location_following located_lines → IsLocatedLine state.symbols.entries state.location text located
    → early_fault state.symbols.entries located.location located.line located.form ≡ None → IsCleanLine located_lines text located
clean_in state located_lines text located names location is clean = record {
  is_located_line = subst (λ (n : Names). IsLocatedLine n (location_following located_lines) text located) names
      (subst (λ (o : Option Location). IsLocatedLine state.symbols.entries o text located) location is);
  clean = subst (λ (n : Names). early_fault n located.location located.line located.form ≡ None) names clean;
}

room_left : (a b n p q : ℕ) → a ≤ 2 ^ 20 * p → b ≤ a + size_limit n + 65535 → n ≤ q → 0 < q → b ≤ 2 ^ 20 * (p + q)
room_left a b n p q room grows fits some = omega arith

pub reads_more : (source rest text after : List ℕ) (number start : ℕ) (old new : Before) (kept more : List KeptLine)
    → HasRead source rest number old kept → IsLine rest text after → start ≡ length source - length rest → KeepsText old new start text kept more
    → HasRead source after (number + 1) new more
reads_more source rest text after number start old new kept more read line starts keeps =
    let at : start ≡ length read.passed = omega (arith, starts, ap length read.bytes, length-append read.passed rest) in
    let located = keeps.adds.located in
    let adds = keeps.adds.adds in
    let took = taken rest text after line in
    let size : length (read.passed ++ took) ≡ length read.passed + length took = length-append read.passed took in
    let some : 0 < length took = omega (arith, line.shorter, ap length (taken_is rest text after line), length-append took after) in
    record {
      front = read.front ++ text ∷ [];
      located_lines = read.located_lines ++ located ∷ [];
      passed = read.passed ++ took;
      texts = read.texts ∙ ap (λ (ls : List (List ℕ)). read.front ++ ls) line.lines ∙ sym (append_assoc read.front (text ∷ []) (text_lines after));
      bytes = read.bytes ∙ ap (λ (r : List ℕ). read.passed ++ r) (taken_is rest text after line) ∙ sym (append_assoc read.passed took after);
      are_located_lines = lines_push [] read.front read.located_lines text located read.are_located_lines
          (clean_in old read.located_lines text located read.names read.location keeps.adds.is_located_line keeps.adds.clean);
      are_kept = subst (λ (ks : List KeptLine). AreKept source (read.front ++ text ∷ []) ks (read.located_lines ++ located ∷ [])) (sym keeps.kept_last)
          (kept_push source read.front kept read.located_lines text keeps.kept located read.are_kept
          (keeps_it source text start keeps.kept located (inside_source source read.passed rest text after start read.bytes line at)
          (text_stands source read.passed rest text after start read.bytes line at) adds.keeps));
      names = adds.names ∙ ap (λ (ns : Names). ns ++ located.names) read.names ∙ sym (names_push read.located_lines located);
      location = adds.location ∙ sym (location_push read.located_lines located);
      counted = omega (arith, read.counted, length-append read.front (text ∷ []));
      each_takes = omega (arith, read.each_takes, size, some);
      room = rw size (room_left (offset_of old.location) (offset_of new.location) (length text)
          (length read.passed) (length took) read.room adds.grows (taken_size rest text after line) some);
      small = adds.small;
      steady = subst (λ (ks : List KeptLine). AllByRecursion IsSteady ks) (sym keeps.kept_last) (all_push IsSteady kept keeps.kept read.steady adds.steady);
    }

fault_after : (state : Before) (located_lines : List LocatedLine) (text : List ℕ) (fault : SourceFault) → state.symbols.entries ≡ names_of located_lines
    → state.location ≡ location_following located_lines → IsTextFault state.symbols.entries state.location text fault
    → IsTextFault (names_of located_lines) (location_following located_lines) text fault
fault_after state located_lines text fault names location found =
    subst (λ (n : Names). IsTextFault n (location_following located_lines) text fault) names
    (subst (λ (o : Option Location). IsTextFault state.symbols.entries o text fault) location found)

-- the fault of the next line is the source's first
pub stops_first : (source rest text after : List ℕ) (number : ℕ) (state : Before) (kept : List KeptLine) (fault : AsmFault)
    → HasRead source rest number state kept → IsLine rest text after
    → length source ≤ source_limit → StopsAt state text (number + 1) fault → IsFirst source fault
stops_first source rest text after number state kept SourceTooLong read line within stops = absurd stops
stops_first source rest text after number state kept Memory read line within stops = tt
stops_first source rest text after number state kept (InLine fault at) read line within stops = (
  within,
  inl (record {
    front = read.front;
    text = text;
    back = text_lines after;
    texts = read.texts ∙ ap (λ (ls : List (List ℕ)). read.front ++ ls) line.lines;
    counted = omega (arith, read.counted, stops.0);
    located_lines = read.located_lines;
    clean = read.are_located_lines;
    found = fault_after state read.located_lines text fault read.names read.location stops.1;
  }),
)

-- nothing is read yet
pub starts : (source : List ℕ) (state : Before) (kept : List KeptLine)
    → state.symbols.entries ≡ [] → state.location ≡ None → kept ≡ [] → HasRead source source 0 state kept
starts source state kept names location none = record {
  front = [];
  located_lines = [];
  passed = [];
  texts = refl;
  bytes = refl;
  are_located_lines = tt;
  are_kept = subst (λ (ks : List KeptLine). AreKept source [] ks []) (sym none) tt;
  names = names;
  location = location;
  counted = refl;
  each_takes = omega arith;
  room = subst (λ (o : Option Location). offset_of o ≤ 0) (sym location) (omega arith);
  small = subst (λ (n : Names). AreSmall n) (sym names) small_none;
  steady = subst (λ (ks : List KeptLine). AllByRecursion IsSteady ks) (sym none) tt;
}
