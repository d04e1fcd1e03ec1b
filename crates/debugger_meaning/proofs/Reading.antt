-- Words and commands read back from their lines.
use Rattle.std.proofs.Common.{◌≡◌, ℕ, ◌+◌, ◌*◌, ◌-◌, ◌/◌, ◌%◌, ◌^◌, ◌<◌, ◌≤◌, List, [], ◌∷◌, ◌++◌, codes, length, refl}
use Rattle.std.proofs.Common.{sym, ap, ◌∙◌, arith, Bool, true, false, not, ◌&&◌, if◌then◌else◌, nat_le, Option, None, Some}
use Rattle.std.specs.Prelude.{position, option_map}
use Rattle.std.specs.Fmt.{decimal, digit_glyph}
use Rattle.std.specs.Str.{bytes_eq}
use Rattle.std.proofs.lemmas.Fmt.{decimal_by_steps, decimal_nonempty}
use Rattle.std.proofs.lemmas.Bool.Decides.{nat_tests}
use Rattle.std.proofs.lemmas.Slice.Eq.{bytes_eq-Decides}
use Rattle.std.proofs.Math.Nat.{min-eq_left}
use Rattle.board_types.specs.Digits.{hex_byte_text, hex_word, spelled}
use Rattle.board_types.specs.TextLines.{onto_first}
use Rattle.debugger_meaning.specs.CommandWords.{words_from, words_of, is_space, hex_number, count_of}
use Rattle.debugger_meaning.specs.Dump.{address_text}
use Rattle.debugger_meaning.specs.Commands.{back_command, is_colon, break_command, break_round, break_of, byte_command}
use Rattle.debugger_meaning.specs.Commands.{command_in, command_of, command_with, command_with_two, dump_command, plain_command}
use Rattle.debugger_meaning.specs.declared.command.Command.{Command}
use Rattle.debugger_meaning.specs.declared.command.Command.TheVariants.{Break, Byte, Sound, Halted, Go, Step, Regs}
use Rattle.debugger_meaning.specs.declared.command.Command.TheVariants.{Screen, Dump, Trail, Back, BackStep, BackStop}
use Rattle.debugger_meaning.specs.DebuggerLaws.{CommandsReadBack}
use Rattle.debugger_meaning.proofs.Spelling.{byte_spelled, word_spelled, decimal_spelled, digit_spelled}

-- no byte of the word is a space
abbrev pub NoSpace : List ℕ → Type 0
NoSpace [] = Unit {0}
NoSpace (b ∷ bs) = (is_space b ≡ false) × NoSpace bs

pub word_step : (first second : Bool) (b : ℕ) (more skipped : List (List ℕ)) → first ≡ false → second ≡ false
    → (if first then skipped else (if not second then onto_first b more else (b ∷ []) ∷ more)) ≡ onto_first b more
word_step first second b more skipped p q = rw (p, q) refl

pub word_end : (first : Bool) (b : ℕ) (more skipped : List (List ℕ)) → first ≡ false → (if first then skipped else (b ∷ []) ∷ more) ≡ (b ∷ []) ∷ more
word_end first b more skipped p = rw p refl

-- a word and a space before the other words
word_first : (b : ℕ) (w rest : List ℕ) → is_space b ≡ false → NoSpace w → words_from (b ∷ (w ++ 32 ∷ rest)) ≡ (b ∷ w) ∷ words_from rest
word_first b [] rest p none = word_end (is_space b) b (words_from rest) (words_from rest) p
word_first b (c ∷ cs) rest p none =
    word_step (is_space b) (is_space c) b (words_from (c ∷ (cs ++ 32 ∷ rest))) (words_from (c ∷ (cs ++ 32 ∷ rest))) p none.0
    ∙ ap (onto_first b) (word_first c cs rest none.0 none.1)

-- the last word
word_last : (b : ℕ) (w : List ℕ) → is_space b ≡ false → NoSpace w → words_from (b ∷ w) ≡ (b ∷ w) ∷ []
word_last b [] p none = word_end (is_space b) b [] [] p
word_last b (c ∷ cs) p none =
    word_step (is_space b) (is_space c) b (words_from (c ∷ cs)) (words_from (c ∷ cs)) p none.0 ∙ ap (onto_first b) (word_last c cs none.0 none.1)

last_by : (w : List ℕ) → 0 < length w → NoSpace w → words_from w ≡ w ∷ []
last_by [] some none = absurd (omega arith)
last_by (b ∷ bs) some none = word_last b bs none.0 none.1

first_by : (w rest : List ℕ) → 0 < length w → NoSpace w → words_from (w ++ 32 ∷ rest) ≡ w ∷ words_from rest
first_by [] rest some none = absurd (omega arith)
first_by (b ∷ bs) rest some none = word_first b bs rest none.0 none.1

glyph_no_space : (d : ℕ) → is_space (digit_glyph true d) ≡ false
glyph_no_space d = grind (arith, nat_tests)

glyph_no_colon : (d : ℕ) → is_colon (digit_glyph true d) ≡ false
glyph_no_colon d = grind (arith, nat_tests)

decimal_no_space_digit : (d : ℕ) → is_space (48 + d) ≡ false
decimal_no_space_digit d = grind (arith, nat_tests)

no_space_more : (w : List ℕ) (b : ℕ) → NoSpace w → is_space b ≡ false → NoSpace (w ++ b ∷ [])
no_space_more [] b none p = (p, tt)
no_space_more (c ∷ cs) b none p = (none.0, no_space_more cs b none.1 p)

decimal_no_space : (n : ℕ) → n < 2 ^ 64 → NoSpace (decimal n)
decimal_no_space n low =
    decimal_by_steps (λ (m : ℕ) (ds : List ℕ). NoSpace ds)
    (λ m small. (decimal_no_space_digit m, tt))
    (λ m ds large front. no_space_more ds (48 + m % 10) front (decimal_no_space_digit (m % 10)))
    n low

hex_back : (most n : ℕ) (word : List ℕ) → (nat_le 1 (length word) && nat_le (length word) most) ≡ true → spelled 16 0 word ≡ Some n
    → hex_number most word ≡ Some n
unfolding hex_number
hex_back most n word size is = rw (size, is) refl

word_back : (w : ℕ) → w < 65536 → hex_number 4 (hex_word w) ≡ Some w
word_back w low = let from : 0 * 65536 + w ≡ w = omega arith in hex_back 4 w (hex_word w) refl (word_spelled 0 w [] low ∙ ap Some from)

byte_back : (b : ℕ) → b < 256 → hex_number 2 (hex_byte_text b) ≡ Some b
byte_back b low = let from : 0 * 256 + b ≡ b = omega arith in hex_back 2 b (hex_byte_text b) refl (byte_spelled 0 b [] low ∙ ap Some from)

address_back : (a : ℕ) → a < 1048576 → hex_number 5 (address_text a) ≡ Some a
address_back a low =
    let bank : a / 65536 % 16 < 16 = omega arith in
    let rest : a % 65536 < 65536 = omega arith in
    let whole : (0 * 16 + a / 65536 % 16) * 65536 + a % 65536 ≡ a = omega arith in
    hex_back 5 a (address_text a) refl
    (digit_spelled 0 (a / 65536 % 16) (hex_word (a % 65536)) bank ∙ word_spelled (0 * 16 + a / 65536 % 16) (a % 65536) [] rest ∙ ap Some whole)

some_length : (n : ℕ) → 0 < n → nat_le 1 n ≡ true
some_length n some = grind (arith, nat_tests)

count_back : (n : ℕ) → n < 2 ^ 64 → count_of (decimal n) ≡ Some n
unfolding count_of
count_back n low =
    let size : nat_le 1 (length (decimal n)) ≡ true = some_length (length (decimal n)) (decimal_nonempty n low) in
    let small : n ≤ 2 ^ 64 - 1 = omega arith in
    rw (size, decimal_spelled n low) (ap Some (min-eq_left small))

-- a segment, a colon and an offset
abbrev place_of : ℕ → ℕ → List ℕ
place_of segment offset = hex_word segment ++ 58 ∷ hex_word offset

word_glyphs : (w : ℕ) (rest : List ℕ) → NoSpace rest → NoSpace (hex_word w ++ rest)
word_glyphs w rest none =
    (glyph_no_space (w / 256 / 16), (glyph_no_space (w / 256 % 16), (glyph_no_space (w % 256 / 16), (glyph_no_space (w % 256 % 16), none))))

place_no_space : (segment offset : ℕ) → NoSpace (place_of segment offset)
place_no_space segment offset = word_glyphs segment (58 ∷ hex_word offset) (refl, word_glyphs offset [] tt)

address_no_space : (a : ℕ) → NoSpace (address_text a)
address_no_space a = (glyph_no_space (a / 65536 % 16), word_glyphs (a % 65536) [] tt)

byte_no_space : (b : ℕ) → NoSpace (hex_byte_text b)
byte_no_space b = (glyph_no_space (b / 16), (glyph_no_space (b % 16), tt))

colon_place : (segment offset : ℕ) → position is_colon (place_of segment offset) ≡ Some 4
colon_place segment offset =
    rw (glyph_no_colon (segment / 256 / 16), glyph_no_colon (segment / 256 % 16), glyph_no_colon (segment % 256 / 16), glyph_no_colon (segment % 256 % 16)) refl

break_back : (segment offset : ℕ) → segment < 65536 → offset < 65536 → break_command (place_of segment offset) ≡ Some (Break segment offset)
unfolding break_command
break_back segment offset first second =
    ap (break_round (place_of segment offset)) (colon_place segment offset)
    ∙ ap (λ (s : Option ℕ). break_of s (hex_number 4 (hex_word offset))) (word_back segment first)
    ∙ ap (break_of (Some segment)) (word_back offset second)

byte_command_back : (address byte : ℕ) → address < 1048576 → byte < 256 → byte_command (address_text address) (hex_byte_text byte) ≡ Some (Byte address byte)
unfolding byte_command
byte_command_back address byte first second = rw (address_back address first, byte_back byte second) refl

dump_by : (within : Bool) (first count : ℕ) → within ≡ true → (if within then Some (Dump first count) else None) ≡ Some (Dump first count)
dump_by within first count is = rw is refl

dump_test : (first count : ℕ) → 1 ≤ count → count ≤ 4096 → first + count ≤ 1048576
    → (nat_le 1 count && (nat_le count 4096 && nat_le (first + count) 1048576)) ≡ true
dump_test first count some most within = grind (arith, nat_tests)

dump_back : (first count : ℕ) → first < 1048576 → 1 ≤ count → count ≤ 4096 → first + count ≤ 1048576
    → dump_command (address_text first) (decimal count) ≡ Some (Dump first count)
unfolding dump_command
dump_back first count low some most within =
    let small : count < 2 ^ 64 = omega arith in
    rw (address_back first low, count_back count small)
    (dump_by (nat_le 1 count && (nat_le count 4096 && nat_le (first + count) 1048576)) first count (dump_test first count some most within))

-- a count is no word of letters
count_differs : (word name : List ℕ) (n : ℕ) (test : Bool) → (test ≡ true → word ≡ name) → count_of word ≡ Some n → count_of name ≡ None → test ≡ false
count_differs word name n true same is none = absurd (let never : ◌≡◌ {A = Option ℕ} (Some n) None = sym is ∙ ap count_of (same refl) ∙ none in cc)
count_differs word name n false same is none = refl

no_word : (word name : List ℕ) (n : ℕ) → count_of word ≡ Some n → count_of name ≡ None → bytes_eq word name ≡ false
no_word word name n is none = count_differs word name n (bytes_eq word name) (bytes_eq-Decides word name).0 is none

step_is_none : count_of (codes "step") ≡ None
unfolding count_of
step_is_none = refl

stop_is_none : count_of (codes "stop") ≡ None
unfolding count_of
stop_is_none = refl

back_test : (n : ℕ) (test : Bool) → test ≡ true → (if test then Some (Back n) else None) ≡ Some (Back n)
back_test n test is = rw is refl

pub back_counts : (n : ℕ) (word : List ℕ) → 1 ≤ n → count_of word ≡ Some n → back_command word ≡ Some (Back n)
unfolding back_command
back_counts n word some is =
    rw (no_word word (codes "step") n is step_is_none, no_word word (codes "stop") n is stop_is_none, is) (back_test n (nat_le 1 n) (some_length n some))

-- a line of two words, and one of three
two_words : (name word : List ℕ) (command : Option Command) → 0 < length name → NoSpace name → 0 < length word → NoSpace word
    → command_with name word ≡ command → command_of (name ++ 32 ∷ word) ≡ command
unfolding command_of words_of
two_words name word command p q r t is =
    ap command_in (first_by name word p q ∙ ap (λ (ws : List (List ℕ)). name ∷ ws) (last_by word r t)) ∙ is

three_words : (name first second : List ℕ) (command : Option Command) → 0 < length name → NoSpace name → 0 < length first → NoSpace first
    → 0 < length second → NoSpace second → command_with_two name first second ≡ command → command_of (name ++ 32 ∷ (first ++ 32 ∷ second)) ≡ command
unfolding command_of words_of
three_words name first second command p q r t u v is =
    ap command_in (first_by name (first ++ 32 ∷ second) p q
    ∙ ap (λ (ws : List (List ℕ)). name ∷ ws) (first_by first second r t)
    ∙ ap (λ (ws : List (List ℕ)). name ∷ first ∷ ws) (last_by second u v)) ∙ is

one_word : (name : List ℕ) (command : Option Command) → 0 < length name → NoSpace name → plain_command name ≡ command → command_of name ≡ command
unfolding command_of words_of
one_word name command p q is = ap command_in (last_by name p q) ∙ is

break_line : (segment offset : ℕ) → segment < 65536 → offset < 65536 → command_with (codes "break") (place_of segment offset) ≡ Some (Break segment offset)
unfolding command_with
break_line segment offset first second = break_back segment offset first second

go_line : (count : ℕ) → count < 2 ^ 64 → command_with (codes "go") (decimal count) ≡ Some (Go count)
unfolding command_with
go_line count low = ap (option_map Go) (count_back count low)

back_line : (count : ℕ) → 1 ≤ count → count < 2 ^ 64 → command_with (codes "back") (decimal count) ≡ Some (Back count)
unfolding command_with
back_line count some low = back_counts count (decimal count) some (count_back count low)

pub back_step_line : command_with (codes "back") (codes "step") ≡ Some BackStep
unfolding command_with back_command
back_step_line = refl

pub back_stop_line : command_with (codes "back") (codes "stop") ≡ Some BackStop
unfolding command_with back_command
back_stop_line = refl

byte_line : (address byte : ℕ) → address < 1048576 → byte < 256
    → command_with_two (codes "byte") (address_text address) (hex_byte_text byte) ≡ Some (Byte address byte)
unfolding command_with_two
byte_line address byte first second = byte_command_back address byte first second

dump_line : (first count : ℕ) → first < 1048576 → 1 ≤ count → count ≤ 4096 → first + count ≤ 1048576
    → command_with_two (codes "dump") (address_text first) (decimal count) ≡ Some (Dump first count)
unfolding command_with_two
dump_line first count low some most within = dump_back first count low some most within

pub sound_line : plain_command (codes "sound") ≡ Some Sound
unfolding plain_command
sound_line = refl

pub halted_line : plain_command (codes "halted") ≡ Some Halted
unfolding plain_command
halted_line = refl

pub step_line : plain_command (codes "step") ≡ Some Step
unfolding plain_command
step_line = refl

pub regs_line : plain_command (codes "regs") ≡ Some Regs
unfolding plain_command
regs_line = refl

pub screen_line : plain_command (codes "screen") ≡ Some Screen
unfolding plain_command
screen_line = refl

pub trail_line : plain_command (codes "trail") ≡ Some Trail
unfolding plain_command
trail_line = refl

below_all : (count : ℕ) → count ≤ 4096 → count < 2 ^ 64
below_all count most = omega arith

pub read_back : CommandsReadBack
read_back (Break segment offset) meant =
    two_words (codes "break") (place_of segment offset) _ (omega arith) (refl, (refl, (refl, (refl, (refl, tt)))))
    (omega arith) (place_no_space segment offset) (break_line segment offset meant.0 meant.1)
read_back (Byte address byte) meant =
    three_words (codes "byte") (address_text address) (hex_byte_text byte) _ (omega arith) (refl, (refl, (refl, (refl, tt))))
    (omega arith) (address_no_space address) (omega arith) (byte_no_space byte) (byte_line address byte meant.0 meant.1)
read_back Sound meant = one_word (codes "sound") _ (omega arith) (refl, (refl, (refl, (refl, (refl, tt))))) sound_line
read_back Halted meant = one_word (codes "halted") _ (omega arith) (refl, (refl, (refl, (refl, (refl, (refl, tt)))))) halted_line
read_back (Go count) meant =
    two_words (codes "go") (decimal count) _ (omega arith) (refl, (refl, tt))
    (decimal_nonempty count meant) (decimal_no_space count meant) (go_line count meant)
read_back Step meant = one_word (codes "step") _ (omega arith) (refl, (refl, (refl, (refl, tt)))) step_line
read_back Regs meant = one_word (codes "regs") _ (omega arith) (refl, (refl, (refl, (refl, tt)))) regs_line
read_back Screen meant = one_word (codes "screen") _ (omega arith) (refl, (refl, (refl, (refl, (refl, (refl, tt)))))) screen_line
read_back (Dump first count) meant =
    let small : count < 2 ^ 64 = below_all count meant.1.1.0 in
    three_words (codes "dump") (address_text first) (decimal count) _ (omega arith) (refl, (refl, (refl, (refl, tt)))) (omega arith)
    (address_no_space first) (decimal_nonempty count small) (decimal_no_space count small) (dump_line first count meant.0 meant.1.0 meant.1.1.0 meant.1.1.1)
read_back Trail meant = one_word (codes "trail") _ (omega arith) (refl, (refl, (refl, (refl, (refl, tt))))) trail_line
read_back (Back count) meant =
    two_words (codes "back") (decimal count) _ (omega arith) (refl, (refl, (refl, (refl, tt))))
    (decimal_nonempty count meant.1) (decimal_no_space count meant.1) (back_line count meant.0 meant.1)
read_back BackStep meant =
    two_words (codes "back") (codes "step") _ (omega arith) (refl, (refl, (refl, (refl, tt)))) (omega arith) (refl, (refl, (refl, (refl, tt)))) back_step_line
read_back BackStop meant =
    two_words (codes "back") (codes "stop") _ (omega arith) (refl, (refl, (refl, (refl, tt)))) (omega arith) (refl, (refl, (refl, (refl, tt)))) back_stop_line
