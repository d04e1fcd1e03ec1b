-- A line is read as a command if and only if it says that command.
use Rattle.std.proofs.Common.{◌≡◌, ◌∙◌, ℕ, suc, ◌+◌, ◌-◌, ◌*◌, ◌^◌, ◌<◌, ◌≤◌, Bool, true, false, not, ◌&&◌, nat_le, nat_lt, if◌then◌else◌, List}
use Rattle.std.proofs.Common.{[], ◌∷◌, ◌++◌, codes, length, take, drop, length-append, refl, sym, ap, ap₂, subst, arith, Option, Some, None}
use Rattle.std.specs.Prelude.{option_map, min}
use Rattle.std.specs.Str.{bytes_eq}
use Rattle.std.specs.List.{list_all, position_or_len}
use Rattle.std.proofs.lemmas.Bool.{and_parts, ltb-true}
use Rattle.std.proofs.lemmas.Bool.Decides.{Decides-eqb, nat_tests}
use Rattle.std.proofs.lemmas.List.{take_at}
use Rattle.std.proofs.lemmas.Slice.Eq.{bytes_eq-Decides}
use Rattle.board_types.specs.Digits.{digit_of, spelled}
use Rattle.debugger_meaning.specs.CommandWords.{words_of, hex_number, at_most_greatest, count_of}
use Rattle.debugger_meaning.specs.Commands.{back_by, back_command, plain_command, is_colon, break_of, break_round, break_command, go_command}
use Rattle.debugger_meaning.specs.Commands.{command_with, byte_of, byte_command, dump_of, dump_command, command_with_two, command_in, command_of}
use Rattle.debugger_meaning.specs.Spellings.{IsShown, Says, SpellsCommand, SpellsCount, SpellsHex, SpellsPlace}
use Rattle.debugger_meaning.specs.DebuggerLaws.{CommandsAreSaid}
use Rattle.debugger_meaning.specs.declared.command.Command.{Command}
use Rattle.debugger_meaning.specs.declared.command.Command.TheVariants.{Break, Byte, Sound, Halted, Go, Step, Regs}
use Rattle.debugger_meaning.specs.declared.command.Command.TheVariants.{Screen, Dump, Trail, Back, BackStep, BackStop}
use Rattle.debugger_meaning.proofs.Parting.{words_are}
use Rattle.debugger_meaning.proofs.Reading.{back_counts, back_step_line, back_stop_line, sound_line, halted_line, step_line, regs_line, screen_line, trail_line}

some_is : {A : Type 0} (x y : A) → ◌≡◌ {A = Option A} (Some x) (Some y) → x ≡ y
some_is x y is = cc

-- ---- numbers
at_most : (m n : ℕ) → nat_le m n ≡ true → m ≤ n
at_most m n is = grind (arith, nat_tests)

passes : (m n : ℕ) → m ≤ n → nat_le m n ≡ true
passes m n less = grind (arith, nat_tests)

both_pass : (one two : Bool) → one ≡ true → two ≡ true → (one && two) ≡ true
both_pass one two p q = rw (p, q) refl

size_tests : (size most : ℕ) → (nat_le 1 size && nat_le size most) ≡ true → (1 ≤ size) × (size ≤ most)
size_tests size most is =
    let both = and_parts (nat_le 1 size) (nat_le size most) is in
    (at_most 1 size both.0, at_most size most both.1)

size_passes : (size most : ℕ) → 1 ≤ size → size ≤ most → (nat_le 1 size && nat_le size most) ≡ true
size_passes size most some few = both_pass (nat_le 1 size) (nat_le size most) (passes 1 size some) (passes size most few)

hex_by : (most n : ℕ) (word : List ℕ) (test : Bool) → (nat_le 1 (length word) && nat_le (length word) most) ≡ test
    → (if test then spelled 16 0 word else None) ≡ Some n → SpellsHex most n word
hex_by most n word true at is = let size = size_tests (length word) most at in record { some = size.0; few = size.1; number = is }
hex_by most n word false at is = absurd (cc)

hex_spelled : (most n : ℕ) (word : List ℕ) → hex_number most word ≡ Some n → SpellsHex most n word
unfolding hex_number
hex_spelled most n word is = hex_by most n word (nat_le 1 (length word) && nat_le (length word) most) refl is

hex_read : (most n : ℕ) (word : List ℕ) → SpellsHex most n word → hex_number most word ≡ Some n
unfolding hex_number
hex_read most n word is =
    ap (λ (test : Bool). if test then spelled 16 0 word else None) (size_passes (length word) most is.some is.few) ∙ is.number

count_by : (n : ℕ) (word : List ℕ) (test : Bool) (found : Option ℕ) → nat_le 1 (length word) ≡ test
    → spelled 10 0 word ≡ found → (if test then at_most_greatest found else None) ≡ Some n → SpellsCount n word
count_by n word true (Some m) at spells is =
    record { number = m; some = at_most 1 (length word) at; spells = spells; is = sym (some_is (min m (2 ^ 64 - 1)) n is) }
count_by n word true None at spells is = absurd (cc)
count_by n word false found at spells is = absurd (cc)

count_spelled : (n : ℕ) (word : List ℕ) → count_of word ≡ Some n → SpellsCount n word
unfolding count_of
count_spelled n word is = count_by n word (nat_le 1 (length word)) (spelled 10 0 word) refl refl is

count_read : (n : ℕ) (word : List ℕ) → SpellsCount n word → count_of word ≡ Some n
unfolding count_of
count_read n word is =
    ap (λ (test : Bool). if test then at_most_greatest (spelled 10 0 word) else None) (passes 1 (length word) is.some)
    ∙ ap at_most_greatest is.spells
    ∙ ap (λ (m : ℕ). Some m) (sym is.is)

-- ---- a place with its colon
record IsAround (place front back : List ℕ) : Type 0 where
  are : place ≡ front ++ 58 ∷ back

later_place : (n : ℕ) → 1 + n ≡ suc n
later_place n = omega arith

next_place : (n : ℕ) → suc n + 1 ≡ suc (n + 1)
next_place n = omega arith

found_step : (b : ℕ) (bs : List ℕ) (here : Bool) (n : ℕ) → is_colon b ≡ here → (n < length bs → IsAround bs (take n bs) (drop (n + 1) bs))
    → (if not here then 1 + n else 0) < suc (length bs)
    → IsAround (b ∷ bs) (take (if not here then 1 + n else 0) (b ∷ bs)) (drop ((if not here then 1 + n else 0) + 1) (b ∷ bs))
found_step b bs true n is more within = record { are = ap (λ (c : ℕ). c ∷ bs) ((Decides-eqb b 58).0 is) }
found_step b bs false n is more within =
    let rest = more (omega (arith, within)) in
    rw (later_place n) (rw (next_place n) (record { are = ap (λ (cs : List ℕ). b ∷ cs) rest.are }))

found_at : (bs : List ℕ) → position_or_len is_colon bs < length bs
    → IsAround bs (take (position_or_len is_colon bs) bs) (drop (position_or_len is_colon bs + 1) bs)
found_at [] within = absurd (omega (arith, within))
found_at (b ∷ bs) within = found_step b bs (is_colon b) (position_or_len is_colon bs) refl (found_at bs) within

break_found : (segment offset : Option ℕ) (c : Command) (place front back : List ℕ) → hex_number 4 front ≡ segment
    → hex_number 4 back ≡ offset → IsAround place front back → break_of segment offset ≡ Some c → SpellsCommand c (codes "break" ∷ place ∷ [])
break_found (Some s) (Some o) c place front back at_front at_back around is =
    subst (λ (d : Command). SpellsCommand d (codes "break" ∷ place ∷ [])) (some_is (Break s o) c is)
    (record {
      word = place;
      are = refl;
      says = record { front = front; back = back; are = around.are; segment_is = hex_spelled 4 s front at_front; offset_is = hex_spelled 4 o back at_back };
    })
break_found (Some s) None c place front back at_front at_back around is = absurd (cc)
break_found None o c place front back at_front at_back around is = absurd (cc)

break_step : (place : List ℕ) (c : Command) (test : Bool) → nat_lt (position_or_len is_colon place) (length place) ≡ test
    → break_round place (if test then Some (position_or_len is_colon place) else None) ≡ Some c → SpellsCommand c (codes "break" ∷ place ∷ [])
break_step place c true at is =
    let k : ℕ = position_or_len is_colon place in
    break_found (hex_number 4 (take k place)) (hex_number 4 (drop (k + 1) place)) c place
    (take k place) (drop (k + 1) place) refl refl (found_at place (ltb-true k (length place) at)) is
break_step place c false at is = absurd (cc)

break_spelled : (place : List ℕ) (c : Command) → break_command place ≡ Some c → SpellsCommand c (codes "break" ∷ place ∷ [])
unfolding break_command
break_spelled place c is = break_step place c (nat_lt (position_or_len is_colon place) (length place)) refl is

-- no digit is a colon
abbrev NoColon : List ℕ → Type 0
NoColon bs = list_all (λ b. not (is_colon b)) bs ≡ true

colon_by : (b : ℕ) (test : Bool) → is_colon b ≡ test → nat_lt (digit_of b) 16 ≡ true → not test ≡ true
colon_by b true at digit =
    absurd (let same : b ≡ 58 = (Decides-eqb b 58).0 at in let never : false ≡ true = subst (λ (c : ℕ). nat_lt (digit_of c) 16 ≡ true) same digit in cc)
colon_by b false at digit = refl

digits_step : (b front n : ℕ) (bs : List ℕ) (test : Bool) → nat_lt (digit_of b) 16 ≡ test → ((m : ℕ) → spelled 16 m bs ≡ Some n → NoColon bs)
    → (if test then spelled 16 (front * 16 + digit_of b) bs else None) ≡ Some n → NoColon (b ∷ bs)
digits_step b front n bs true at more is =
    let first = colon_by b (is_colon b) refl at in
    let rest = more (front * 16 + digit_of b) is in
    rw (first, rest) refl
digits_step b front n bs false at more is = absurd (cc)

no_colon : (front n : ℕ) (bs : List ℕ) → spelled 16 front bs ≡ Some n → NoColon bs
no_colon front n [] is = refl
no_colon front n (b ∷ bs) is = digits_step b front n bs (nat_lt (digit_of b) 16) refl (λ m. no_colon m n bs) is

place_following : (xs ys : List ℕ) → NoColon xs → position_or_len is_colon (xs ++ 58 ∷ ys) ≡ length xs
place_following [] ys none = refl
place_following (x ∷ xs) ys none =
    let both = and_parts (not (is_colon x)) (list_all (λ b. not (is_colon b)) xs) none in
    let rest = place_following xs ys both.1 in
    rw (both.0, rest) (omega arith)

drop_after : (xs : List ℕ) (b : ℕ) (ys : List ℕ) → drop (length xs + 1) (xs ++ b ∷ ys) ≡ ys
drop_after [] b ys = refl
drop_after (x ∷ xs) b ys = let more : suc (length xs) + 1 ≡ suc (length xs + 1) = omega arith in rw more (drop_after xs b ys)

is_within : (m n : ℕ) → m < n → nat_lt m n ≡ true
is_within m n less = grind (arith, nat_tests)

break_parts : (front back : List ℕ) → NoColon front → break_command (front ++ 58 ∷ back) ≡ break_of (hex_number 4 front) (hex_number 4 back)
unfolding break_command
break_parts front back none =
    let place = place_following front back none in
    let size : length front < length (front ++ 58 ∷ back) = simp length-append (omega arith) in
    let within = is_within (length front) (length (front ++ 58 ∷ back)) size in
    let before : take (length front) (front ++ 58 ∷ back) ≡ front = take_at front (58 ∷ back) (length front) refl in
    let following = drop_after front 58 back in
    rw (place, within, before, following) refl

break_read : (segment offset : ℕ) (place : List ℕ) → SpellsPlace segment offset place → break_command place ≡ Some (Break segment offset)
break_read segment offset place is =
    ap break_command is.are
    ∙ break_parts is.front is.back (no_colon 0 segment is.front is.segment_is.number)
    ∙ ap₂ break_of (hex_read 4 segment is.front is.segment_is) (hex_read 4 offset is.back is.offset_is)

-- ---- other words
go_found : (found : Option ℕ) (word : List ℕ) (c : Command) → count_of word ≡ found → option_map Go found ≡ Some c → SpellsCommand c (codes "go" ∷ word ∷ [])
go_found (Some n) word c at is =
    subst (λ (d : Command). SpellsCommand d (codes "go" ∷ word ∷ [])) (some_is (Go n) c is) (record { word = word; are = refl; says = count_spelled n word at })
go_found None word c at is = absurd (cc)

byte_found : (address byte : Option ℕ) (first second : List ℕ) (c : Command)
    → hex_number 5 first ≡ address → hex_number 2 second ≡ byte → byte_of address byte ≡ Some c → SpellsCommand c (codes "byte" ∷ first ∷ second ∷ [])
byte_found (Some a) (Some b) first second c at_first at_second is =
    subst (λ (d : Command). SpellsCommand d (codes "byte" ∷ first ∷ second ∷ [])) (some_is (Byte a b) c is)
    (record { first = first; second = second; are = refl; says_first = hex_spelled 5 a first at_first; says_second = hex_spelled 2 b second at_second })
byte_found (Some a) None first second c at_first at_second is = absurd (cc)
byte_found None b first second c at_first at_second is = absurd (cc)

byte_spelled : (first second : List ℕ) (c : Command) → byte_command first second ≡ Some c → SpellsCommand c (codes "byte" ∷ first ∷ second ∷ [])
unfolding byte_command
byte_spelled first second c is = byte_found (hex_number 5 first) (hex_number 2 second) first second c refl refl is

byte_read : (address byte : ℕ) (first second : List ℕ) → SpellsHex 5 address first → SpellsHex 2 byte second
    → byte_command first second ≡ Some (Byte address byte)
unfolding byte_command
byte_read address byte first second one two = ap₂ byte_of (hex_read 5 address first one) (hex_read 2 byte second two)

shown_tests : (first count : ℕ) → (nat_le 1 count && (nat_le count 4096 && nat_le (first + count) (2 ^ 20))) ≡ true → IsShown first count
shown_tests first count is =
    let outer = and_parts (nat_le 1 count) (nat_le count 4096 && nat_le (first + count) (2 ^ 20)) is in
    let inner = and_parts (nat_le count 4096) (nat_le (first + count) (2 ^ 20)) outer.1 in
    (at_most 1 count outer.0, (at_most count 4096 inner.0, at_most (first + count) (2 ^ 20) inner.1))

shown_passes : (first count : ℕ) → IsShown first count → (nat_le 1 count && (nat_le count 4096 && nat_le (first + count) (2 ^ 20))) ≡ true
shown_passes first count is =
    both_pass (nat_le 1 count) (nat_le count 4096 && nat_le (first + count) (2 ^ 20)) (passes 1 count is.0)
    (both_pass (nat_le count 4096) (nat_le (first + count) (2 ^ 20)) (passes count 4096 is.1.0) (passes (first + count) (2 ^ 20) is.1.1))

dump_by : (a n : ℕ) (first second : List ℕ) (c : Command) (test : Bool) → (nat_le 1 n && (nat_le n 4096 && nat_le (a + n) (2 ^ 20))) ≡ test
    → SpellsHex 5 a first → SpellsCount n second → (if test then Some (Dump a n) else None) ≡ Some c → SpellsCommand c (codes "dump" ∷ first ∷ second ∷ [])
dump_by a n first second c true at one two is =
    subst (λ (d : Command). SpellsCommand d (codes "dump" ∷ first ∷ second ∷ [])) (some_is (Dump a n) c is)
    (record { first = first; second = second; are = refl; says_first = one; says_second = two }, shown_tests a n at)
dump_by a n first second c false at one two is = absurd (cc)

dump_found : (address count : Option ℕ) (first second : List ℕ) (c : Command)
    → hex_number 5 first ≡ address → count_of second ≡ count → dump_of address count ≡ Some c → SpellsCommand c (codes "dump" ∷ first ∷ second ∷ [])
dump_found (Some a) (Some n) first second c at_first at_second is =
    dump_by a n first second c (nat_le 1 n && (nat_le n 4096 && nat_le (a + n) (2 ^ 20))) refl
    (hex_spelled 5 a first at_first) (count_spelled n second at_second) is
dump_found (Some a) None first second c at_first at_second is = absurd (cc)
dump_found None n first second c at_first at_second is = absurd (cc)

dump_spelled : (first second : List ℕ) (c : Command) → dump_command first second ≡ Some c → SpellsCommand c (codes "dump" ∷ first ∷ second ∷ [])
unfolding dump_command
dump_spelled first second c is = dump_found (hex_number 5 first) (count_of second) first second c refl refl is

dump_read : (a n : ℕ) (first second : List ℕ) → SpellsHex 5 a first → SpellsCount n second → IsShown a n → dump_command first second ≡ Some (Dump a n)
unfolding dump_command
dump_read a n first second one two shown =
    ap₂ dump_of (hex_read 5 a first one) (count_read n second two)
    ∙ ap (λ (test : Bool). if test then Some (Dump a n) else None) (shown_passes a n shown)

-- ---- by the name
branch : {P : Type 0} (test : Bool) (one rest : Option Command) (c : Command)
    → (test ≡ true → one ≡ Some c → P) → (rest ≡ Some c → P) → (if test then one else rest) ≡ Some c → P
branch true one rest c here others is = here refl is
branch false one rest c here others is = others is

named : (name word : List ℕ) → bytes_eq name word ≡ true → word ≡ name
named name word is = sym ((bytes_eq-Decides name word).0 is)

one_spelled : (name word rest : List ℕ) (c : Command) → bytes_eq name word ≡ true → SpellsCommand c (word ∷ rest ∷ []) → SpellsCommand c (name ∷ rest ∷ [])
one_spelled name word rest c at is = subst (λ (n : List ℕ). SpellsCommand c (n ∷ rest ∷ [])) (named name word at) is

two_spelled : (name word first second : List ℕ) (c : Command) → bytes_eq name word ≡ true → SpellsCommand c (word ∷ first ∷ second ∷ [])
    → SpellsCommand c (name ∷ first ∷ second ∷ [])
two_spelled name word first second c at is = subst (λ (n : List ℕ). SpellsCommand c (n ∷ first ∷ second ∷ [])) (named name word at) is

alone : (name word : List ℕ) (d c : Command) → SpellsCommand d (word ∷ []) → bytes_eq name word ≡ true → Some d ≡ Some c → SpellsCommand c (name ∷ [])
alone name word d c spells at is =
    subst (λ (e : Command). SpellsCommand e (name ∷ [])) (some_is d c is) (subst (λ (n : List ℕ). SpellsCommand d (n ∷ [])) (named name word at) spells)

none_is : {P : Type 0} (c : Command) → ◌≡◌ {A = Option Command} None (Some c) → P
none_is c is = absurd (cc)

-- a way back
way_spelled : (way word : List ℕ) (d c : Command) → SpellsCommand d (codes "back" ∷ word ∷ []) → bytes_eq way word ≡ true → Some d ≡ Some c
    → SpellsCommand c (codes "back" ∷ way ∷ [])
way_spelled way word d c spells at is =
    subst (λ (e : Command). SpellsCommand e (codes "back" ∷ way ∷ [])) (some_is d c is)
    (subst (λ (n : List ℕ). SpellsCommand d (codes "back" ∷ n ∷ [])) (named way word at) spells)

way_by : (n : ℕ) (word : List ℕ) (c : Command) (test : Bool) → nat_le 1 n ≡ test → SpellsCount n word
    → (if test then Some (Back n) else None) ≡ Some c → SpellsCommand c (codes "back" ∷ word ∷ [])
way_by n word c true at count is =
    subst (λ (d : Command). SpellsCommand d (codes "back" ∷ word ∷ []))
    (some_is (Back n) c is) (record { word = word; are = refl; says = count }, at_most 1 n at)
way_by n word c false at count is = absurd (cc)

way_found : (found : Option ℕ) (word : List ℕ) (c : Command) → count_of word ≡ found → back_by found ≡ Some c → SpellsCommand c (codes "back" ∷ word ∷ [])
way_found (Some n) word c at is = way_by n word c (nat_le 1 n) refl (count_spelled n word at) is
way_found None word c at is = absurd (cc)

back_spelled : (way : List ℕ) (c : Command) → back_command way ≡ Some c → SpellsCommand c (codes "back" ∷ way ∷ [])
unfolding back_command
back_spelled way c is =
    branch (bytes_eq way (codes "step")) (Some BackStep) _ c (way_spelled way (codes "step") BackStep c refl)
    (λ is. branch (bytes_eq way (codes "stop")) (Some BackStop) _ c (way_spelled way (codes "stop") BackStop c refl)
    (λ is. way_found (count_of way) way c refl is) is) is

plain_spelled : (name : List ℕ) (c : Command) → plain_command name ≡ Some c → SpellsCommand c (name ∷ [])
unfolding plain_command
plain_spelled name c is =
    branch (bytes_eq name (codes "sound")) (Some Sound) _ c (alone name (codes "sound") Sound c refl)
    (λ is. branch (bytes_eq name (codes "halted")) (Some Halted) _ c (alone name (codes "halted") Halted c refl)
    (λ is. branch (bytes_eq name (codes "step")) (Some Step) _ c (alone name (codes "step") Step c refl)
    (λ is. branch (bytes_eq name (codes "regs")) (Some Regs) _ c (alone name (codes "regs") Regs c refl)
    (λ is. branch (bytes_eq name (codes "screen")) (Some Screen) _ c (alone name (codes "screen") Screen c refl)
    (λ is. branch (bytes_eq name (codes "trail")) (Some Trail) None c (alone name (codes "trail") Trail c refl) (none_is c) is) is) is) is) is) is

with_spelled : (name rest : List ℕ) (c : Command) → command_with name rest ≡ Some c → SpellsCommand c (name ∷ rest ∷ [])
unfolding command_with
with_spelled name rest c is =
    branch (bytes_eq name (codes "break")) (break_command rest) _ c (λ at is. one_spelled name (codes "break") rest c at (break_spelled rest c is))
    (λ is.
    branch (bytes_eq name (codes "go")) (go_command rest) _ c (λ at is. one_spelled name (codes "go") rest c at (go_found (count_of rest) rest c refl is))
    (λ is. branch (bytes_eq name (codes "back")) (back_command rest) None c
    (λ at is. one_spelled name (codes "back") rest c at (back_spelled rest c is)) (none_is c) is)
    is)
    is

two_words_spelled : (name first second : List ℕ) (c : Command) → command_with_two name first second ≡ Some c → SpellsCommand c (name ∷ first ∷ second ∷ [])
unfolding command_with_two
two_words_spelled name first second c is =
    branch (bytes_eq name (codes "byte")) (byte_command first second) _ c
    (λ at is. two_spelled name (codes "byte") first second c at (byte_spelled first second c is)) (λ is. branch (bytes_eq name (codes "dump"))
    (dump_command first second) None c (λ at is. two_spelled name (codes "dump") first second c at (dump_spelled first second c is)) (none_is c) is)
    is

command_spelled : (ws : List (List ℕ)) (c : Command) → command_in ws ≡ Some c → SpellsCommand c ws
command_spelled [] c is = absurd (cc)
command_spelled (name ∷ []) c is = plain_spelled name c is
command_spelled (name ∷ first ∷ []) c is = with_spelled name first c is
command_spelled (name ∷ first ∷ second ∷ []) c is = two_words_spelled name first second c is
command_spelled (name ∷ first ∷ second ∷ third ∷ rest) c is = absurd (cc)

break_with : (place : List ℕ) → command_with (codes "break") place ≡ break_command place
unfolding command_with
break_with place = refl

go_with : (word : List ℕ) → command_with (codes "go") word ≡ option_map Go (count_of word)
unfolding command_with
go_with word = refl

back_with : (word : List ℕ) → command_with (codes "back") word ≡ back_command word
unfolding command_with
back_with word = refl

byte_with : (first second : List ℕ) → command_with_two (codes "byte") first second ≡ byte_command first second
unfolding command_with_two
byte_with first second = refl

dump_with : (first second : List ℕ) → command_with_two (codes "dump") first second ≡ dump_command first second
unfolding command_with_two
dump_with first second = refl

command_read : (c : Command) (ws : List (List ℕ)) → SpellsCommand c ws → command_in ws ≡ Some c
command_read (Break segment offset) ws is = ap command_in is.are ∙ break_with is.word ∙ break_read segment offset is.word is.says
command_read (Byte address byte) ws is =
    ap command_in is.are ∙ byte_with is.first is.second ∙ byte_read address byte is.first is.second is.says_first is.says_second
command_read Sound ws is = ap command_in is ∙ sound_line
command_read Halted ws is = ap command_in is ∙ halted_line
command_read (Go count) ws is = ap command_in is.are ∙ go_with is.word ∙ ap (option_map Go) (count_read count is.word is.says)
command_read Step ws is = ap command_in is ∙ step_line
command_read Regs ws is = ap command_in is ∙ regs_line
command_read Screen ws is = ap command_in is ∙ screen_line
command_read (Dump first count) ws is =
    ap command_in is.0.are ∙ dump_with is.0.first is.0.second ∙ dump_read first count is.0.first is.0.second is.0.says_first is.0.says_second is.1
command_read Trail ws is = ap command_in is ∙ trail_line
command_read (Back count) ws is = ap command_in is.0.are ∙ back_with is.0.word ∙ back_counts count is.0.word is.1 (count_read count is.0.word is.0.says)
command_read BackStep ws is = ap command_in is ∙ back_step_line
command_read BackStop ws is = ap command_in is ∙ back_stop_line

says_what_is_read : (line : List ℕ) (c : Command) → command_of line ≡ Some c → Says line c
unfolding command_of
says_what_is_read line c is = record { words = words_of line; has = (words_are line (words_of line)).0 refl; spells = command_spelled (words_of line) c is }

reads_what_is_said : (line : List ℕ) (c : Command) → Says line c → command_of line ≡ Some c
unfolding command_of
reads_what_is_said line c is = ap command_in ((words_are line is.words).1 is.has) ∙ command_read c is.words is.spells

pub commands_said : CommandsAreSaid
commands_said line c = (says_what_is_read line c, reads_what_is_said line c)
