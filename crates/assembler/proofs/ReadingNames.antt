-- The names that a line adds: they are new, and their numbers small.
use Rattle.std.proofs.Common.{◌≡◌, ℤ, pos, negsuc, ◌^◌, ◌≤◌, refl, sym, ap, ◌∙◌, subst, arith, Bool, true}
use Rattle.std.proofs.Common.{false, ◌||◌, if◌then◌else◌, [], ◌∷◌, ◌++◌, Option, None, Some, is_some}
use Rattle.std.specs.Option.{option_map_or}
use Rattle.std.specs.Str.{bytes_eq}
use Rattle.std.proofs.lemmas.Slice.Eq.{bytes_eq-Decides}
use Rattle.std.proofs.lemmas.Bool.Decides.{nat_tests, same_from_decides, Decides-like}
use Rattle.std.proofs.lemmas.Int.{ints}
use Rattle.assembler_lexeme.specs.declared.name.Name.{Name}
use Rattle.assembler_syntax.specs.declared.statement.Line.{Line}
use Rattle.assembler_syntax.specs.declared.statement.Statement.{Statement}
use Rattle.assembler_syntax.specs.declared.statement.Statement.TheVariants.{Empty, Segment, Ends, Equ, Org, Data, Instruction}
use Rattle.assembler_meaning.specs.declared.symbol.Location.{Location}
use Rattle.assembler_meaning.specs.declared.symbol.Symbol.{Symbol}
use Rattle.assembler_meaning.specs.declared.symbol.Symbol.TheVariants.{Label, Constant}
use Rattle.assembler_meaning.specs.Values.{Names, AreSmall, IsSmall, IsSmallNumber, constant_of, meaning, same_name, is_defined}
use Rattle.assembler.specs.LocatedLines.{constant_definition, defines_again, has_wrong_constant, is_same}
use Rattle.assembler.specs.LocatedLines.{label_definition, statement_definition, statement_name}
use Rattle.assembler_meaning.specs.Data.{is_other}
use Rattle.assembler.specs.FirstPass.{IsNewDefinition, definition_names, offset_of}

pub none_is : {A : Type 0} (o : Option A) → is_some o ≡ false → o ≡ None
none_is None absent = refl
none_is (Some x) absent = cc

pub or_false : (a b : Bool) → (a || b) ≡ false → (a ≡ false) × (b ≡ false)
or_false true b none = cc
or_false false b none = (refl, none)

-- two names are compared in either order
same_either : (a b : Name) → same_name a b ≡ same_name b a
same_either a b =
    same_from_decides (bytes_eq a.letters b.letters) (bytes_eq b.letters a.letters) (bytes_eq-Decides a.letters b.letters)
    (Decides-like (bytes_eq b.letters a.letters) (λ (e : b.letters ≡ a.letters). sym e)
    (λ (e : a.letters ≡ b.letters). sym e) (bytes_eq-Decides b.letters a.letters))

passed_by : (test : Bool) (x : Symbol) (a b c : Option Symbol) → (if test then Some x else a) ≡ None → (a ≡ None → b ≡ c) → (if test then Some x else b) ≡ c
passed_by true x a b c none go = cc
passed_by false x a b c none go = go none

-- a name that isn't defined is looked for in the names that follow
meaning_after : (names more : Names) (name : Name) → meaning names name ≡ None → meaning (names ++ more) name ≡ meaning more name
meaning_after [] more name none = refl
meaning_after (d ∷ names) more name none =
    passed_by (same_name name d.0) d.1 (meaning names name) (meaning (names ++ more) name) (meaning more name) none (meaning_after names more name)

found_by : (test : Bool) (x symbol : Symbol) (a b : Option Symbol) → ((if test then Some x else a) ≡ Some symbol → IsSmall symbol)
    → ((a ≡ Some symbol → IsSmall symbol) → b ≡ Some symbol → IsSmall symbol) → (if test then Some x else b) ≡ Some symbol → IsSmall symbol
found_by true x symbol a b small go is = small is
found_by false x symbol a b small go is = go small is

small_at : (names more : Names) (name : Name) (symbol : Symbol) → (meaning names name ≡ Some symbol → IsSmall symbol)
    → (meaning more name ≡ Some symbol → IsSmall symbol) → meaning (names ++ more) name ≡ Some symbol → IsSmall symbol
small_at [] more name symbol one two is = two is
small_at (d ∷ names) more name symbol one two is =
    found_by (same_name name d.0) d.1 symbol (meaning names name) (meaning (names ++ more) name) one
    (λ (small : meaning names name ≡ Some symbol → IsSmall symbol). small_at names more name symbol small two) is

pub small_append : (names more : Names) → AreSmall names → AreSmall more → AreSmall (names ++ more)
small_append names more one two name symbol is = small_at names more name symbol (one name symbol) (two name symbol) is

single_by : (test : Bool) (x symbol : Symbol) → IsSmall x → (if test then Some x else None) ≡ Some symbol → IsSmall symbol
single_by true x symbol small is = let same : x ≡ symbol = cc in subst (λ (s : Symbol). IsSmall s) same small
single_by false x symbol small is = cc

pub small_none : AreSmall []
small_none name symbol is = cc

small_single : (name : Name) (x : Symbol) → IsSmall x → AreSmall ((name, x) ∷ [])
small_single name x small other symbol is = single_by (same_name other name) x symbol small is

pub small_label : (location : Option Location) (label : Option Name) → offset_of location ≤ 2 ^ 40 → AreSmall (label_definition location label)
small_label None None near = small_none
small_label None (Some name) near = small_none
small_label (Some location) None near = small_none
small_label (Some location) (Some name) near = small_single name (Label location) near

word_small : (n : ℤ) → is_other (pos 0) (pos 65535) (Some n) ≡ false → IsSmallNumber n
word_small n is = grind (arith, nat_tests, ints)

double_small : (n : ℤ) → is_other (negsuc 2147483647) (pos 4294967295) (Some n) ≡ false → IsSmallNumber n
double_small n is = grind (arith, nat_tests, ints)

small_word : (name : Name) (o : Option ℤ) → is_other (pos 0) (pos 65535) o ≡ false → AreSmall (constant_definition name o)
small_word name None is = small_none
small_word name (Some n) is = small_single name (Constant n) (word_small n is)

small_double : (name : Name) (o : Option ℤ) → is_other (negsuc 2147483647) (pos 4294967295) o ≡ false → AreSmall (constant_definition name o)
small_double name None is = small_none
small_double name (Some n) is = small_single name (Constant n) (double_small n is)

pub small_statement : (names : Names) (statement : Statement) → has_wrong_constant names statement ≡ false → AreSmall (statement_definition names statement)
small_statement names Empty right = small_none
small_statement names (Segment name n) right = small_word name (constant_of names n) right
small_statement names Ends right = small_none
small_statement names (Equ name n) right = small_double name (constant_of names n) right
small_statement names (Org n) right = small_none
small_statement names (Data width items) right = small_none
small_statement names (Instruction i) right = small_none

-- the label of a line that defines nothing again is new
label_by : (names : Names) (location : Option Location) (label : Option Name) (d : Name × Symbol) → d ∷ [] ≡ label_definition location label
    → option_map_or (is_defined names) label false ≡ false → is_defined names d.0 ≡ false
label_by names None None d is undefined = cc
label_by names None (Some name) d is undefined = cc
label_by names (Some location) None d is undefined = cc
label_by names (Some location) (Some name) d is undefined =
    let same : d ≡ (name, Label location) = cc in ap (λ (e : Name × Symbol). is_defined names e.0) same ∙ undefined

pub label_new : (names : Names) (location : Option Location) (line : Line) (d : Option (Name × Symbol))
    → definition_names d ≡ label_definition location line.label → defines_again names line ≡ false → IsNewDefinition names d
label_new names location line None is undefined = tt
label_new names location line (Some d) is undefined = label_by names location line.label d is (or_false _ _ undefined).0

constant_by : (name : Name) (o : Option ℤ) (d : Name × Symbol) → d ∷ [] ≡ constant_definition name o → name ≡ d.0
constant_by name None d is = cc
constant_by name (Some n) d is = let same : (name, Constant n) ≡ d = cc in ap (λ (e : Name × Symbol). e.0) same

name_by : (names : Names) (statement : Statement) (d : Name × Symbol) → d ∷ [] ≡ statement_definition names statement → statement_name statement ≡ Some d.0
name_by names Empty d is = cc
name_by names (Segment name n) d is = ap Some (constant_by name (constant_of names n) d is)
name_by names Ends d is = cc
name_by names (Equ name n) d is = ap Some (constant_by name (constant_of names n) d is)
name_by names (Org n) d is = cc
name_by names (Data width items) d is = cc
name_by names (Instruction i) d is = cc

-- a name that isn't the label isn't defined by it
unlike_by : (test : Bool) (x : Symbol) → test ≡ false → is_some (if test then Some x else None) ≡ false
unlike_by true x is = cc
unlike_by false x is = refl

unlike_label : (location : Option Location) (label : Option Name) (name : Name) → is_same label (Some name) ≡ false
    → is_defined (label_definition location label) name ≡ false
unlike_label None None name other = refl
unlike_label None (Some label) name other = refl
unlike_label (Some location) None name other = refl
unlike_label (Some location) (Some label) name other = unlike_by (same_name name label) (Label location) (same_either name label ∙ other)

pub statement_new : (names : Names) (location : Option Location) (line : Line) (d : Option (Name × Symbol))
    → definition_names d ≡ statement_definition names line.statement → defines_again names line ≡ false
    → IsNewDefinition (names ++ label_definition location line.label) d
statement_new names location line None is undefined = tt
statement_new names location line (Some d) is undefined =
    let named = name_by names line.statement d is in
    let parts = or_false _ _ (or_false _ _ undefined).1 in
    let absent : is_defined names d.0 ≡ false = ap (λ (o : Option Name). option_map_or (is_defined names) o false) (sym named) ∙ parts.0 in
    let other : is_same line.label (Some d.0) ≡ false = ap (λ (o : Option Name). is_same line.label o) (sym named) ∙ parts.1 in
    ap (λ (o : Option Symbol). is_some o) (meaning_after names (label_definition location line.label) d.0 (none_is (meaning names d.0) absent))
    ∙ unlike_label location line.label d.0 other
