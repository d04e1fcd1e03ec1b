-- An argument that is in the matches of a walk has a value.
use Rattle.std.proofs.Common.{◌≡◌, ◌∙◌, ◌⊎◌, ◌++◌, ◌&&◌, ap, inl, inr, ℕ, List, [], ◌∷◌, Bool, true, false, not, zero, suc}
use Rattle.std.proofs.Common.{Option, Some, None, IfSome, is_some, option_and_then, if◌then◌else◌, fold, refl, sym, true≢false}
use Rattle.std.specs.Prelude.{slice_get}
use Rattle.std.specs.Option.{option_map_or}
use Rattle.std.specs.List.{find}
use Rattle.std.specs.Str.{bytes_eq, chars}
use Rattle.clap.specs.declared.builder.action.ArgAction.{ArgAction}
use Rattle.clap.specs.declared.builder.action.ArgAction.TheVariants.{Set, Append, SetTrue, SetFalse, Count, Help, HelpShort, HelpLong, Version}
use Rattle.clap.specs.declared.builder.value_parser.Reading.{Reading}
use Rattle.clap.specs.declared.parser.matches.ValueSource.{ValueSource}
use Rattle.clap.specs.declared.parser.matches.ValueSource.TheVariants.{CommandLine, DefaultValue}
use Rattle.clap.specs.Facts.{explicit_source}
use Rattle.clap.specs.Lexer.{long_of, short_of}
use Rattle.clap.specs.Walk.{Held, Names, Outcome, Row, Rule, Step, Text, Waiting, Walk, action_of, after_flag, after_step, arg_by_id, arg_by_index}
use Rattle.clap.specs.Walk.{arg_by_long, arg_by_short, bundle_met, bundle_step, default_rows, done, first_of, has_long, has_row, has_short, idle}
use Rattle.clap.specs.Walk.{is_pending, long_met, long_or_other, more_values, next, nothing_held, option, option_word, plain, plain_word}
use Rattle.clap.specs.Walk.{positional, pushed, reacted, reading_by, refused, rows_after, settled, settled_rows, short_met, short_or_plain}
use Rattle.clap.specs.Walk.{subcommand, subcommand_met, subcommand_or_other, takes_several, takes_values, to_positional, trailing, used, used_as}
use Rattle.clap.specs.Walk.{used_by_id, value, waits, walk, walk_from, walked, walked_from, with_default, with_values, without, word_met}
use Rattle.clap.specs.Takes.{is_given}

abbrev pub HasValue : List Text → Type 0
HasValue [] = ⊥
HasValue (v ∷ vs) = Unit {0}

-- each row has a value
abbrev pub AllFilled : List Row → Type 0
AllFilled [] = Unit {0}
AllFilled (r ∷ rs) = (HasValue r.values) × AllFilled rs

-- ---- one use of an argument

more_filled : (vs ws : List Text) → HasValue vs → HasValue (vs ++ ws)
more_filled [] ws e = absurd e
more_filled (v ∷ vs) ws e = tt

one_more : (vs : List Text) (w : Text) → HasValue (vs ++ w ∷ [])
one_more [] w = tt
one_more (v ∷ vs) w = tt

row_changed : (here : Bool) (s : ValueSource) (values : List Text) (r : Row) (rs more : List Row) → HasValue r.values → AllFilled rs → AllFilled more
    → AllFilled (if here then more_values s values r ++ rs else r ∷ more)
row_changed true s values r rs more some rest changed = (more_filled r.values values some, rest)
row_changed false s values r rs more some rest changed = (some, changed)

with_filled : (id : Text) (how : Reading) (s : ValueSource) (values : List Text) (rows : List Row) → HasValue values → AllFilled rows
    → AllFilled (with_values id how s values rows)
with_filled id how s values [] some rows = (some, tt)
with_filled id how s values (r ∷ rs) some rows = row_changed (bytes_eq r.id id) s values r rs _ rows.0 rows.1 (with_filled id how s values rs some rows.1)

row_removed : (here : Bool) (r : Row) (rs more : List Row) → HasValue r.values → AllFilled rs → AllFilled more → AllFilled (if here then rs else r ∷ more)
row_removed true r rs more some rest changed = rest
row_removed false r rs more some rest changed = (some, changed)

without_filled : (id : Text) (rows : List Row) → AllFilled rows → AllFilled (without id rows)
without_filled id [] rows = tt
without_filled id (r ∷ rs) rows = row_removed (bytes_eq r.id id) r rs _ rows.0 rows.1 (without_filled id rs rows.1)

set_filled : (id : Text) (how : Reading) (s : ValueSource) (values : List Text) (rows : List Row) → HasValue values → AllFilled rows
    → AllFilled (with_values id how s values (without id rows))
set_filled id how s values rows some good = with_filled id how s values _ some (without_filled id rows good)

used_filled : (x : ArgAction) (id : Text) (how : Reading) (v : Text) (vs : List Text) (rows : List Row) → AllFilled rows
    → AllFilled (used_as x id how (v ∷ vs) rows)
used_filled Set id how v vs rows good = set_filled id how _ (v ∷ vs) rows tt good
used_filled SetTrue id how v vs rows good = set_filled id how _ (v ∷ vs) rows tt good
used_filled SetFalse id how v vs rows good = set_filled id how _ (v ∷ vs) rows tt good
used_filled Append id how v vs rows good = with_filled id how _ (v ∷ vs) rows tt good
used_filled Count id how v vs rows good = set_filled id how _ (v ∷ vs) rows tt good
used_filled Help id how v vs rows good = good
used_filled HelpShort id how v vs rows good = good
used_filled HelpLong id how v vs rows good = good
used_filled Version id how v vs rows good = good

by_id_filled : (found : Option Rule) (values : List Text) (rows : List Row) → HasValue values → AllFilled rows → AllFilled (used_by_id found values rows)
by_id_filled None values rows some good = good
by_id_filled (Some a) [] rows some good = absurd some
by_id_filled (Some a) (v ∷ vs) rows some good = used_filled (action_of a) a.id (reading_by a) v vs rows good

settled_filled : (c : List Rule) (p : Option (Text × List Text)) (rows : List Row)
    → IfSome p (λ q. HasValue q.1) → AllFilled rows → AllFilled (settled_rows c p rows)
settled_filled c None rows some good = good
settled_filled c (Some p) rows some good = by_id_filled (arg_by_id c p.0) p.1 rows some good

-- ---- one word

-- each row has a value, and so has what is pending
abbrev IsGood : Held → Type 0
IsGood h = AllFilled h.rows × IfSome h.pending (λ p. HasValue p.1)

-- a flag takes no value from the words, and its use leaves each row with one
pub record IsFlag (a : Rule) : Type 0 where
  pub alone : takes_values a ≡ false
  pub use_filled : (rows : List Row) → AllFilled rows → AllFilled (used a [] rows)

-- an argument that is no positional is a flag
abbrev pub AllFit : List Rule → Type 0
AllFit [] = Unit {0}
AllFit (a ∷ rest) = ((is_some a.index ≡ true) ⊎ IsFlag a) × AllFit rest

pub sets_true : (a : Rule) → takes_values a ≡ false → action_of a ≡ SetTrue → HasValue a.missing → IsFlag a
sets_true a alone action some = record {
  alone = alone;
  use_filled = λ rows good. rw action (set_filled a.id (reading_by a) CommandLine a.missing rows some good);
}

pub asks_help : (a : Rule) → takes_values a ≡ false → action_of a ≡ Help → IsFlag a
asks_help a alone action = record { alone = alone; use_filled = λ rows good. rw action good }

one_named : (no_index is_it : Bool) (a : Rule) (later : Option Rule) → no_index ≡ not (is_some a.index) → (is_some a.index ≡ true) ⊎ IsFlag a
    → IfSome later IsFlag → IfSome (if no_index && is_it then Some a else later) IsFlag
one_named false is_it a later e fits rest = rest
one_named true false a later e fits rest = rest
one_named true true a later e (inr flag) rest = flag
one_named true true a later e (inl index) rest = absurd (true≢false (e ∙ ap not index))

flag_named : (is_it : Rule → Bool) (c : List Rule) → AllFit c → IfSome (find (λ a. not (is_some a.index) && is_it a) c) IsFlag
flag_named is_it [] fit = tt
flag_named is_it (a ∷ rest) fit = one_named (not (is_some a.index)) (is_it a) a _ refl fit.0 (flag_named is_it rest fit.1)

settled_good : (c : List Rule) (h : Held) → IsGood h → IsGood (settled c h)
settled_good c h good = (settled_filled c h.pending h.rows good.1 good.0, tt)

reacted_good : (c : List Rule) (a : Rule) (h : Held) → IsFlag a → IsGood h → IsGood (reacted c a [] h)
reacted_good c a h flag good = (flag.use_filled _ (settled_filled c h.pending h.rows good.1 good.0), tt)

pushed_good : (id word : Text) (h : Held) → IsGood h → IsGood (pushed id word h)
pushed_good id word h good = (good.0, one_more _ word)

long_good : (c : List Rule) (found : Option Rule) (v : Option Text) (h : Held) → IfSome found IsFlag → IsGood h → IsGood (long_met c found v h).0
long_good c None v h flag good = good
long_good c (Some a) None h flag good = rw flag.alone (reacted_good c a h flag good)
long_good c (Some a) (Some v) h flag good = rw flag.alone good

short_good : (c : List Rule) (found : Option Rule) (rest : Text) (h : Held) (following : Held → Held × Outcome) → IfSome found IsFlag
    → ((k : Held) → IsGood k → IsGood (following k).0) → IsGood h → IsGood (short_met c found rest h following).0
short_good c None rest h following flag each good = good
short_good c (Some a) rest h following flag each good = rw flag.alone (each _ (reacted_good c a h flag good))

option_good : (found : Option Rule) (id word : Text) (h : Held) → IsGood h → IsGood (option_word found id word h).0
option_good None id word h good = good
option_good (Some a) id word h good = pushed_good id word h good

plain_good : (c : List Rule) (waiting : Waiting) (word : Text) (h : Held) → IsGood h → IsGood (plain_word c waiting word h).0
plain_good c idle word h good = good
plain_good c positional word h good = good
plain_good c (option id) word h good = option_good (arg_by_id c id) id word h good

after_good : (c : List Rule) (waiting : Waiting) (word : Text) (h : Held) (o : Outcome) → IsGood h → IsGood (after_flag c waiting word h o).0
after_good c waiting word h done good = good
after_good c waiting word h (waits id) good = good
after_good c waiting word h plain good = plain_good c waiting word h good
after_good c waiting word h refused good = plain_good c waiting word h good

before_good : (c : List Rule) (more : Bool) (h : Held) → IsGood h → IsGood (if more then h else settled c h)
before_good c true h good = good
before_good c false h good = settled_good c h good

-- a word that is a positional's
positional_good : (c : List Rule) (found : Option Rule) (word : Text) (w : Walk) (h : Held) → IsGood h → IsGood (to_positional c found word w h).held
positional_good c None word w h good = good
positional_good c (Some a) word w h good =
    let more : Bool = is_pending a h.pending && takes_several a in
    pushed_good a.id word (if more then h else settled c h) (before_good c more h good)

step_good : (c : List Rule) (word : Text) (w : Walk) (h : Held) (step : Step) → IsGood h → IsGood (after_step c word w h step).held
step_good c word w h (next waiting) good = good
step_good c word w h (trailing position) good = good
step_good c word w h (subcommand name) good = good
step_good c word w h value good = positional_good c (arg_by_index c w.position) word w h good

module _ (c : List Rule) (fit : AllFit c) where
  character_good : (x : Option ℕ) (flags : Text) (skip : ℕ) (so_far : Outcome) (h : Held) (following : Text → ℕ → Outcome → Held → Held × Outcome)
      → ((f : Text) (n : ℕ) (o : Outcome) (k : Held) → IsGood k → IsGood (following f n o k).0) → IsGood h
      → IsGood (bundle_step c x flags skip so_far h following).0
  character_good None flags skip so_far h following each good = good
  character_good (Some x) flags zero so_far h following each good =
      short_good c (arg_by_short c x) _ h _ (flag_named (λ a. has_short a x) c fit) (λ k held. each _ _ _ k held) good
  character_good (Some x) flags (suc skip) so_far h following each good = each _ _ _ h good

  bundle_good : (k : ℕ) (flags : Text) (skip : ℕ) (so_far : Outcome) (h : Held) → IsGood h → IsGood (bundle_met c k flags skip so_far h).0
  unfolding bundle_met
  bundle_good zero flags skip so_far h good = good
  bundle_good (suc k) flags skip so_far h good =
      character_good (slice_get (chars flags) 0) flags skip so_far h (bundle_met c k) (λ f n o held is. bundle_good k f n o held is) good

  short_word_good : (waiting : Waiting) (word : Text) (flags : Option Text) (h : Held) → IsGood h → IsGood (short_or_plain c waiting word flags h).0
  short_word_good waiting word None h good = plain_good c waiting word h good
  short_word_good waiting word (Some flags) h good = after_good c waiting word _ _ (bundle_good _ flags _ _ _ good)

  long_word_good : (waiting : Waiting) (word : Text) (parts : Option (Text × Option Text)) (h : Held) → IsGood h
      → IsGood (long_or_other c waiting word parts h).0
  long_word_good waiting word None h good = short_word_good waiting word (short_of word) h good
  long_word_good waiting word (Some p) h good =
      after_good c waiting word _ _ (long_good c (arg_by_long c p.0) p.1 h (flag_named (λ a. has_long a p.0) c fit) good)

  end_good : (is_end : Bool) (waiting : Waiting) (position : ℕ) (word : Text) (h : Held) → IsGood h
      → IsGood (if is_end then (h, trailing position) else long_or_other c waiting word (long_of word) h).0
  end_good true waiting position word h good = good
  end_good false waiting position word h good = long_word_good waiting word (long_of word) h good

  other_good : (met : Option Text) (waiting : Waiting) (position : ℕ) (word : Text) (h : Held) → IsGood h
      → IsGood (subcommand_or_other c met waiting position word h).0
  other_good (Some name) waiting position word h good = good
  other_good None waiting position word h good = end_good (bytes_eq word (45 ∷ 45 ∷ [])) waiting position word h good

  word_good : (names : Names) (is_trailing : Bool) (waiting : Waiting) (position : ℕ) (word : Text) (h : Held) → IsGood h
      → IsGood (word_met c names is_trailing waiting position word h).0
  word_good names true waiting position word h good = good
  word_good names false waiting position word h good = other_good (subcommand_met names waiting word) waiting position word h good

  turn_good : (names : Names) (stopped : Option (Text × List Text)) (w : Walk) (word : Text) → IsGood w.held → IsGood (walked_from c names stopped w word).held
  turn_good names (Some p) w word good = good
  turn_good names None w word good = step_good c word w _ _ (word_good names w.is_trailing w.waiting w.position word w.held good)

  walk_good : (names : Names) (words : List Text) (w : Walk) → IsGood w.held → IsGood (fold (walked c names) w words).held
  unfolding walked
  walk_good names [] w good = good
  walk_good names (word ∷ rest) w good = walk_good names rest _ (turn_good names w.stopped w word good)

-- ---- after the walk

default_filled : (id : Text) (how : Reading) (values : List Text) (rows : List Row) → AllFilled rows → AllFilled (default_rows id how values rows)
default_filled id how [] rows good = good
default_filled id how (v ∷ vs) rows good = with_filled id how DefaultValue (v ∷ vs) rows tt good

one_filled : (here : Bool) (a : Rule) (rows : List Row) → AllFilled rows → AllFilled (if here then rows else default_rows a.id (reading_by a) a.defaults rows)
one_filled true a rows good = good
one_filled false a rows good = default_filled a.id (reading_by a) a.defaults rows good

defaults_filled : (rules : List Rule) (rows : List Row) → AllFilled rows → AllFilled (fold with_default rows rules)
defaults_filled [] rows good = good
defaults_filled (a ∷ rest) rows good = defaults_filled rest _ (one_filled (has_row a.id rows) a rows good)

pub all_filled : (c : List Rule) (names : Names) (words : List Text) → AllFit c → AllFilled (rows_after c names words)
all_filled c names words fit =
    defaults_filled c _ (settled_good c (walk c names nothing_held words).held (walk_good c fit names words (walk_from nothing_held) (tt, tt))).0

-- ---- what is given has a first value

head_some : (values : List Text) → HasValue values → is_some (slice_get values 0) ≡ true
head_some [] some = absurd some
head_some (v ∷ vs) some = refl

row_first : (here : Bool) (r : Row) (later : Option Row) → HasValue r.values
    → (option_map_or (λ (x : Row). explicit_source x.source) later false ≡ true → is_some (option_and_then (λ (x : Row). slice_get x.values 0) later) ≡ true)
    → option_map_or (λ (x : Row). explicit_source x.source) (if here then Some r else later) false ≡ true
    → is_some (option_and_then (λ (x : Row). slice_get x.values 0) (if here then Some r else later)) ≡ true
row_first true r later some rest given = head_some r.values some
row_first false r later some rest given = rest given

pub given_first : (id : Text) (rows : List Row) → AllFilled rows → is_given id rows ≡ true → is_some (first_of id rows) ≡ true
given_first id [] good given = absurd (true≢false (sym given))
given_first id (r ∷ rs) good given = row_first (bytes_eq r.id id) r _ good.0 (given_first id rs good.1) given
