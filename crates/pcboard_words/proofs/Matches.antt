-- What the matches of the program's command line hold.
use Rattle.std.proofs.Common.{◌≡◌, ◌⊎◌, ◌||◌, ◌&&◌, not, sym, List, [], ◌∷◌, Bool, true, false, true≢false}
use Rattle.std.proofs.Common.{Option, option_map, if◌then◌else◌, None, Some, IfSome, codes, refl, inl, inr}
use Rattle.std.specs.Option.{option_map_or}
use Rattle.std.specs.Prelude.{◌≢◌, Err}
use Rattle.clap.specs.declared.parser.matches.Found.{Found}
use Rattle.clap.specs.declared.error.Error.{Error}
use Rattle.clap.specs.declared.error.ErrorKind.TheVariants.{OutOfMemory}
use Rattle.clap.specs.Words.{HasKind, Row, Text, built, fault_of, first_of, first_value, kind_of, rows_of, subcommand_of, takes}
use Rattle.clap.specs.Simple.{App, Shape, argument_words, built_leaf, entered, inherited, label_of, marked_built, names_of, rows_at, with_leaf_noted}
use Rattle.clap.specs.Faults.{check_fault, defaults_fault, entered_fault, level_fault, settle_fault, walk_fault}
use Rattle.clap.specs.Kinds.{Kinds, check_kinds, or_else}
use Rattle.pcboard_words.proofs.Values.{AllFit, all_filled, asks_help, given_first, sets_true}
use Rattle.std.specs.List.{find, list_any}
use Rattle.clap.specs.Facts.{explicit_source}
use Rattle.clap.specs.Takes.{is_given}
use Rattle.clap.specs.Walk.{Rule, answers_to, nothing_held, rows_after, settled, stop_after, walk, walk_from}
use Rattle.clap.proofs.WalkLemmas.{first_value-rows}
use Rattle.pcboard_words.specs.declared.task.LineFault.{LineFault}
use Rattle.pcboard_words.specs.declared.task.LineFault.TheVariants.{Usage, Memory}
use Rattle.pcboard_words.specs.CommandLine.{Answers, HoldsTask, OnUsage, app, asm_command, board_command}

pub first_rows : (f : Found) (name : Text) → first_value f name ≡ first_of name (rows_of f)
first_rows f name = first_value-rows f name

-- ---- the flags of the subcommands

-- a subcommand of the program, built
abbrev as_built : App → Shape
as_built a = built_leaf (inherited (with_leaf_noted (marked_built app.top)) a.top)

asm_fits : AllFit (as_built asm_command).rules
asm_fits = (inl refl, (inr (sets_true _ refl refl tt), (inr (asks_help _ refl refl), tt)))

board_fits : (kind : Text) → AllFit (as_built (board_command kind)).rules
board_fits kind = (inl refl, (inl refl, (inr (sets_true _ refl refl tt), (inr (asks_help _ refl refl), tt))))

-- ---- what is required is there

first_none : (a b : Kinds) → or_else a b ≡ [] → a ≡ []
first_none [] b e = refl
first_none (k ∷ ks) b e = cc

pub then_none : (a b : Kinds) → or_else a b ≡ [] → b ≡ []
then_none [] b e = e
then_none (k ∷ ks) b e = cc

wants_none : (a b c : Bool) → check_kinds a b c ≡ [] → c ≡ false
wants_none true b c e = cc
wants_none false true c e = cc
wants_none false false true e = cc
wants_none false false false e = refl

abbrev misses : List Row → Rule → Bool
misses rows a = a.required && not (is_given a.id rows)

-- each required argument is given
abbrev pub AllGiven : List Row → List Rule → Type 0
AllGiven rows [] = Unit {0}
AllGiven rows (a ∷ rest) = (a.required ≡ true → is_given a.id rows ≡ true) × AllGiven rows rest

not_missed : (required given rest : Bool) → ((required && not given) || rest) ≡ false → (required ≡ true → given ≡ true) × (rest ≡ false)
not_missed false given rest e = (λ never. absurd (true≢false (sym never)), e)
not_missed true true rest e = (λ is. refl, e)
not_missed true false rest e = absurd (true≢false e)

pub all_given : (rows : List Row) (rules : List Rule) → list_any (misses rows) rules ≡ false → AllGiven rows rules
all_given rows [] e = tt
all_given rows (a ∷ rest) e =
    let first = not_missed a.required (is_given a.id rows) (list_any (misses rows) rest) e in
    (first.0, all_given rows rest first.1)

none_missed : (s : Shape) (rows : List Row) → check_fault s rows false ≡ []
    → (not (s.subcommand_negates_reqs && false) && list_any (misses rows) s.rules) ≡ false
none_missed s rows e =
    wants_none (not false && (s.arg_required_else_help && not (list_any (λ (r : Row). explicit_source r.source) rows))) (not false && s.subcommand_required) _ e

-- what a level without a fault asks of its matches
pub level_missed : (s : Shape) (words : List Text) → level_fault s [] nothing_held words false [] ≡ []
    → (not (s.subcommand_negates_reqs && false) && list_any (misses (rows_after s.rules [] words)) s.rules) ≡ false
level_missed s words e =
    let end = (walk s.rules [] nothing_held words).held in
    let late = then_none (walk_fault s [] (walk_from nothing_held) words) _ e in
    let later = then_none (settle_fault s.rules s.args_override_self end) _ late in
    none_missed s (rows_after s.rules [] words) (then_none (defaults_fault (settled s.rules end).rows s.rules) _ later)

asm_holds : (words : List Text) → level_fault (as_built asm_command) [] nothing_held words false [] ≡ [] → HoldsTask (rows_at (as_built asm_command) words)
asm_holds words e =
    let rows = rows_after (as_built asm_command).rules [] words in
    let filled = all_filled (as_built asm_command).rules [] words asm_fits in
    let given : AllGiven rows (as_built asm_command).rules = all_given rows (as_built asm_command).rules (level_missed (as_built asm_command) words e) in
    (inl refl, given_first (codes "FILE") rows filled (given.0 refl), inl refl)

board_holds : (kind : Text) (words : List Text) → (kind ≡ codes "run") ⊎ (kind ≡ codes "debug")
    → level_fault (as_built (board_command kind)) [] nothing_held words false [] ≡ [] → HoldsTask (rows_at (as_built (board_command kind)) words)
board_holds kind words named e =
    let s = as_built (board_command kind) in
    let rows = rows_after s.rules [] words in
    let filled = all_filled s.rules [] words (board_fits kind) in
    let given : AllGiven rows s.rules = all_given rows s.rules (level_missed s words e) in
    (inr named, given_first (codes "FILE") rows filled (given.0 refl), inr (given_first (codes "RUN") rows filled (given.1.0 refl)))

abbrev entered_by : Option Shape → List Text → Option (Text × List Row)
entered_by found words = option_map (λ s. rows_at s words) found

abbrev fails_by : Option Shape → List Text → Kinds
fails_by found words = option_map_or (λ s. level_fault s [] nothing_held words false []) found []

found_one : (is_it : Bool) (s : Shape) (later : Option Shape) (words : List Text)
    → (level_fault s [] nothing_held words false [] ≡ [] → HoldsTask (rows_at s words))
    → (fails_by later words ≡ [] → IfSome (entered_by later words) HoldsTask)
    → fails_by (if is_it then Some s else later) words ≡ [] → IfSome (entered_by (if is_it then Some s else later) words) HoldsTask
found_one true s later words here rest e = here e
found_one false s later words here rest e = rest e

-- a subcommand that takes the words is a task with its files
abbrev AllHold : List Text → List Shape → Type 0
AllHold words [] = Unit {0}
AllHold words (s ∷ rest) = (level_fault s [] nothing_held words false [] ≡ [] → HoldsTask (rows_at s words)) × AllHold words rest

one_found : (name : Text) (words : List Text) (subs : List Shape) → AllHold words subs → fails_by (find (λ s. answers_to name (label_of s)) subs) words ≡ []
    → IfSome (entered_by (find (λ s. answers_to name (label_of s)) subs) words) HoldsTask
one_found name words [] hold e = tt
one_found name words (s ∷ rest) hold e = found_one (answers_to name (label_of s)) s _ words hold.0 (one_found name words rest hold.1) e

all_hold : (words : List Text) → AllHold words (built app).subs
all_hold words = (asm_holds words, (board_holds (codes "run") words (inl refl), (board_holds (codes "debug") words (inr refl), tt)))

one_entered : (stop : Option (Text × List Text)) → entered_fault (built app) stop ≡ [] → IfSome (entered (built app) stop) HoldsTask
one_entered None e = tt
one_entered (Some p) e = one_found p.0 p.1 (built app).subs (all_hold p.1) e

-- if `clap` finds no fault, a subcommand is a task with its files
pub tasks_alone : (words : List Text) → fault_of app words ≡ [] → IfSome (subcommand_of app words) HoldsTask
tasks_alone words e =
    let stop = stop_after (built app).top.rules (names_of (built app)) (argument_words app words) in
    let walked = walk_fault (built app).top (names_of (built app)) (walk_from nothing_held) (argument_words app words) in
    one_entered stop (first_none (entered_fault (built app) stop) _ (then_none walked _ e))

pub not_true : (b : Bool) → (b ≡ true → ⊥) → b ≡ false
not_true true never = absurd (never refl)
not_true false never = refl

-- a refusal that isn't for want of memory
pub refused : (words : List Text) (fault : LineFault) (e : Error) → OnUsage fault (kind_of e ≢ OutOfMemory)
    → (takes app words ≡ true → kind_of e ≡ OutOfMemory) → HasKind (fault_of app words) e → Answers words (Err fault)
unfolding Answers
refused words Memory e other passes kinds = tt
refused words (Usage text) e other passes kinds = (
  λ none. elim kinds [
    | inl memory ↦ other memory
    | inr among ↦ rw none at among
  ],
  not_true (takes app words) (λ taken. other (passes taken)),
)
