-- The lines of an input as they are read, and what is printed on them.
use Rattle.std.proofs.Common.{ℕ, ◌≡◌, ◌∙◌, ◌<◌, ◌==◌, Bool, true, false, List, [], ◌∷◌, ◌++◌, length, refl}
use Rattle.std.proofs.Common.{sym, ap, subst, arith, append_assoc, Option, None, Some, IfErr, MatchBool, Ok, Err, Result, inl, inr}
use Rattle.std.proofs.lemmas.List.{append-nil}
use Rattle.std.proofs.lemmas.Bool.Decides.{nat_tests}
use Rattle.std.proofs.lemmas.Str.{IsUtf8-from_is_utf8, is_utf8-from_IsUtf8}
use Rattle.std.specs.Str.{IsUtf8, is_utf8}
use Rattle.std.specs.Io.KnownBytes.{Appends}
use Rattle.board_types.specs.TextLines.{onto_first}
use Rattle.debugger_meaning.specs.declared.answer.Answer.{Answer}
use Rattle.debugger_meaning.specs.declared.fault.DebugFault.{DebugFault}
use Rattle.debugger_meaning.specs.declared.fault.DebugFault.TheVariants.{BadCommand}
use Rattle.debugger_meaning.specs.Commands.{is_quit}
use Rattle.streams.specs.ByteInput.{CountsNone}
use Rattle.pcboard_texts.specs.declared.unanswered.Unanswered.{Unanswered}
use Rattle.pcboard_texts.specs.declared.unanswered.Unanswered.TheVariants.{Failed, Refused}
use Rattle.pcboard_texts.specs.Answer.{AppendsA}
use Rattle.pcboard_texts.specs.Refusal.{BeginsTranscript}
use Rattle.pcboard_texts.specs.Taking.{GivesByte, GivesLine, GivesSome, NoFeed}
use Rattle.pcboard_texts.specs.Given.{Of}
use Rattle.pcboard_texts.specs.Printing.{PrintsSession}
use Rattle.pcboard_texts.specs.Unanswered.{WhereRefused}
use Rattle.pcboard_texts.specs.Transcript.{Answering, AnswersTyped, Replies, Transcript, ends_session, input_lines, reply_text}

pub differs : (b c : ℕ) → (b ≡ c → ⊥) → (b == c) ≡ false
differs b c other = grind (arith, nat_tests)

-- what is given in order
abbrev pub InOrder : {I : Type 0} → (I → I → List ℕ → Type 0) → Type 0
InOrder {I} Gave = (s t u : I) (front back : List ℕ) → Gave s t front → Gave t u back → Gave s u (front ++ back)

-- a line as far as it is read: no line feed stands in it
abbrev pub LineSoFar : (List ℕ → Type 0) → List ℕ → Type 0
LineSoFar Gave line = Gave line × NoFeed line

no_feed_more : (line : List ℕ) (b : ℕ) → NoFeed line → (b == 10) ≡ false → NoFeed (line ++ b ∷ [])
no_feed_more [] b none other = (other, tt)
no_feed_more (c ∷ cs) b none other = (none.0, no_feed_more cs b none.1 other)

line_fed : (line rest : List ℕ) → NoFeed line → input_lines (line ++ 10 ∷ rest) ≡ line ∷ input_lines rest
line_fed [] rest none = refl
line_fed (b ∷ bs) rest none = rw none.0 (ap (onto_first b) (line_fed bs rest none.1))

line_alone : (b : ℕ) (bs : List ℕ) → NoFeed (b ∷ bs) → input_lines (b ∷ bs) ≡ (b ∷ bs) ∷ []
line_alone b [] none = rw none.0 refl
line_alone b (c ∷ cs) none = rw none.0 (ap (onto_first b) (line_alone c cs none.1))

pub line_grows : {I : Type 0} (Gave : I → I → List ℕ → Type 0) → InOrder Gave → (Ended : Type 0) (s t u : I) (line new : List ℕ) (b : ℕ)
    → LineSoFar (Gave s t) line → GivesByte (Gave t u) Ended (Some b) → (b == 10) ≡ false → new ≡ line ++ b ∷ [] → LineSoFar (Gave s u) new
line_grows Gave on Ended s t u line new b so_far gives other is = rw is (on s t u line (b ∷ []) so_far.0 gives, no_feed_more line b so_far.1 other)

pub line_last : {I : Type 0} (Gave : I → I → List ℕ → Type 0) → InOrder Gave → (Ended : Type 0) (s t u : I) (line : List ℕ)
    → LineSoFar (Gave s t) line → GivesByte (Gave t u) Ended None → GivesLine (Gave s u) Ended line true
line_last Gave on Ended s t u line so_far gives =
    (so_far.1, (subst (Gave s u) (append-nil line) (on s t u line [] so_far.0 gives.0), gives.1))

pub line_begun : {I : Type 0} (Gave : I → I → List ℕ → Type 0) → InOrder Gave → (Ended : Type 0) (s t u : I) (line : List ℕ) (b : ℕ)
    → LineSoFar (Gave s t) line → GivesByte (Gave t u) Ended (Some b) → GivesSome (Gave s u)
line_begun Gave on Ended s t u line b so_far gives = (line ++ b ∷ [], on s t u line (b ∷ []) so_far.0 gives)

-- What a session has printed on the lines that it has answered: followed by a transcript of more lines, it is a
-- transcript of all of them.
pub record Printed {S : Type 0} (By : Answering S) (first now : S) (heard : List ℕ) (old new : Option (List ℕ)) : Type 0 where
  pub answered : List (List ℕ)
  pub are_lines : (rest : List ℕ) → input_lines (heard ++ rest) ≡ answered ++ input_lines rest
  pub said : List ℕ
  pub grown : Appends old new said
  pub goes_on : (lines : List (List ℕ)) (text : List ℕ) → Transcript By now lines text → Transcript By first (answered ++ lines) (said ++ text)

abbrev pub PrintedSoFar : {S : Type 0} → Answering S → S → S → (List ℕ → Type 0) → Option (List ℕ) → Option (List ℕ) → Type 0
PrintedSoFar By first now Gave old new = (heard : List ℕ) × Gave heard × Printed By first now heard old new

appends_none : (known : Option (List ℕ)) → Appends known known []
appends_none None = tt
appends_none (Some bytes) = sym (append-nil bytes)

appends_both : (old mid new : Option (List ℕ)) (text more : List ℕ) → Appends old mid text → Appends mid new more → Appends old new (text ++ more)
appends_both None mid new text more first second = tt
appends_both (Some xs) None new text more first second = absurd first
appends_both (Some xs) (Some ys) None text more first second = absurd second
appends_both (Some xs) (Some ys) (Some zs) text more first second = second ∙ (ap (λ (l : List ℕ). l ++ more) first ∙ append_assoc xs text more)

pub printed_none : {S : Type 0} (By : Answering S) (session : S) (Gave : List ℕ → Type 0) (old : Option (List ℕ)) → Gave []
    → PrintedSoFar By session session Gave old old
printed_none By session Gave old gave =
    ([], gave, record { answered = []; are_lines = λ rest. refl; said = []; grown = appends_none old; goes_on = λ lines text is. is })

-- the transcript of a line and of those after it
transcript_on : {S : Type 0} (By : Answering S) (ends : Bool) (line : List ℕ)
    (now next : S) (lines : List (List ℕ)) (reply : Result Answer DebugFault) (text : List ℕ)
    → ends ≡ false → AnswersTyped By line now reply next → Transcript By next lines text
    → MatchBool ends (reply_text reply ++ text ≡ []) (Replies By line now (λ after rest. Transcript By after lines rest) (reply_text reply ++ text))
transcript_on By true line now next lines reply text goes answers is = cc
transcript_on By false line now next lines reply text goes answers is = record {
  reply = reply;
  new = next;
  rest = text;
  answers = answers;
  follows = is;
  is_text = refl;
}

transcript_quit : (ends : Bool) (text : List ℕ) (P : Type 0) → ends ≡ true → text ≡ [] → MatchBool ends (text ≡ []) P
transcript_quit true text P quits empty = empty
transcript_quit false text P quits empty = cc

transcript_along : {S : Type 0} (By : Answering S) (session : S) (lines others : List (List ℕ)) (text said : List ℕ) → lines ≡ others → text ≡ said
    → Transcript By session lines text → Transcript By session others said
transcript_along By session lines others text said same_lines same_text is =
    subst (λ (ls : List (List ℕ)). Transcript By session ls said) same_lines (subst (Transcript By session lines) same_text is)

-- a line with its line feed is a line more
lines_more : (heard line : List ℕ) (answered : List (List ℕ)) → ((rest : List ℕ) → input_lines (heard ++ rest) ≡ answered ++ input_lines rest)
    → NoFeed line → (rest : List ℕ) → input_lines ((heard ++ (line ++ 10 ∷ [])) ++ rest) ≡ (answered ++ line ∷ []) ++ input_lines rest
lines_more heard line answered are none rest =
    ap input_lines (append_assoc heard (line ++ 10 ∷ []) rest ∙ ap (λ (l : List ℕ). heard ++ l) (append_assoc line (10 ∷ []) rest))
    ∙ (are (line ++ 10 ∷ rest) ∙ (ap (λ (ls : List (List ℕ)). answered ++ ls) (line_fed line rest none)
    ∙ sym (append_assoc answered (line ∷ []) (input_lines rest))))

-- a session that has replied to a line more
printed_line : {S : Type 0} (By : Answering S) (first now next : S) (heard more : List ℕ) (old mid new : Option (List ℕ)) (line : List ℕ)
    (reply : Result Answer DebugFault) → (so_far : Printed By first now heard old mid)
    → ((rest : List ℕ) → input_lines ((heard ++ more) ++ rest) ≡ (so_far.answered ++ line ∷ []) ++ input_lines rest)
    → ends_session line ≡ false → AnswersTyped By line now reply next → Appends mid new (reply_text reply)
    → Printed By first next (heard ++ more) old new
printed_line By first now next heard more old mid new line reply so_far are goes answers prints = record {
  answered = so_far.answered ++ line ∷ [];
  are_lines = are;
  said = so_far.said ++ reply_text reply;
  grown = appends_both old mid new so_far.said (reply_text reply) so_far.grown prints;
  goes_on = λ more_lines text is. transcript_along By first (so_far.answered ++ line ∷ more_lines) ((so_far.answered ++ line ∷ []) ++ more_lines)
      (so_far.said ++ (reply_text reply ++ text)) ((so_far.said ++ reply_text reply) ++ text)
      (sym (append_assoc so_far.answered (line ∷ []) more_lines)) (sym (append_assoc so_far.said (reply_text reply) text))
      (so_far.goes_on (line ∷ more_lines) (reply_text reply ++ text)
      (transcript_on By (ends_session line) line now next more_lines reply text goes answers is));
}

pub printed_more : {S I : Type 0} (By : Answering S) (first now next : S) (Gave : I → I → List ℕ → Type 0) → InOrder Gave → (Ended : Type 0) (s t u : I)
    (old mid new : Option (List ℕ)) (line : List ℕ) (last : Bool) (reply : Result Answer DebugFault)
    → PrintedSoFar By first now (Gave s t) old mid → GivesLine (Gave t u) Ended line last → last ≡ false → ends_session line ≡ false
    → AnswersTyped By line now reply next → Appends mid new (reply_text reply) → PrintedSoFar By first next (Gave s u) old new
printed_more By first now next Gave on Ended s t u old mid new line true reply so_far gives fed goes answers prints = cc
printed_more By first now next Gave on Ended s t u old mid new line false reply so_far gives fed goes answers prints = (
  so_far.0 ++ (line ++ 10 ∷ []),
  on s t u so_far.0 (line ++ 10 ∷ []) so_far.1 gives.1,
  printed_line By first now next so_far.0 (line ++ 10 ∷ []) old mid new line reply so_far.2
      (lines_more so_far.0 line so_far.2.answered so_far.2.are_lines gives.0) goes answers prints,
)

-- nothing more is printed
printed_end : {S : Type 0} (By : Answering S) (first now : S) (heard more typed : List ℕ) (old new : Option (List ℕ))
    → (so_far : Printed By first now heard old new) → typed ≡ heard ++ more → Transcript By now (input_lines more) []
    → AppendsA (Transcript By first (input_lines typed)) old new
printed_end By first now heard more typed old new so_far is ends = (
  so_far.said,
  transcript_along By first (so_far.answered ++ input_lines more) (input_lines typed) (so_far.said ++ []) so_far.said
      (sym (ap input_lines is ∙ so_far.are_lines more)) (append-nil so_far.said) (so_far.goes_on (input_lines more) [] ends),
  so_far.grown,
)

-- the input ends behind the lines
pub printed_all : {S I : Type 0} (By : Answering S) (first now : S) (Gave : I → I → List ℕ → Type 0) → InOrder Gave → (Ended : Type 0) (s t u : I)
    (old new : Option (List ℕ)) (line : List ℕ) (last : Bool) → PrintedSoFar By first now (Gave s t) old new → GivesLine (Gave t u) Ended line last
    → last ≡ true → line ≡ [] → PrintsSession By first (Gave s u) Ended old new
printed_all By first now Gave on Ended s t u old new line false so_far gives fed empty = cc
printed_all By first now Gave on Ended s t u old new line true so_far gives fed empty = (
  so_far.0 ++ line,
  on s t u so_far.0 line so_far.1 gives.1.0,
  (inl gives.1.1, printed_end By first now so_far.0 line (so_far.0 ++ line) old new so_far.2 refl (rw empty refl)),
)

-- the last line has no line feed
pub printed_last : {S I : Type 0} (By : Answering S) (first now next : S) (Gave : I → I → List ℕ → Type 0) → InOrder Gave → (Ended : Type 0) (s t u : I)
    (old mid new : Option (List ℕ)) (line : List ℕ) (last : Bool) (reply : Result Answer DebugFault)
    → PrintedSoFar By first now (Gave s t) old mid → GivesLine (Gave t u) Ended line last → last ≡ true → 0 < length line → ends_session line ≡ false
    → AnswersTyped By line now reply next → Appends mid new (reply_text reply) → PrintsSession By first (Gave s u) Ended old new
printed_last By first now next Gave on Ended s t u old mid new line false reply so_far gives fed some goes answers prints = cc
printed_last By first now next Gave on Ended s t u old mid new [] true reply so_far gives fed some goes answers prints =
    let never : ⊥ = omega (arith, some) in absurd never
printed_last By first now next Gave on Ended s t u old mid new (b ∷ bs) true reply so_far gives fed some goes answers prints =
    let line : List ℕ = b ∷ bs in
    let is : Transcript By now (input_lines line) (reply_text reply ++ []) =
    transcript_along By now (line ∷ []) (input_lines line) (reply_text reply ++ []) (reply_text reply ++ []) (sym (line_alone b bs gives.0)) refl
    (transcript_on By (ends_session line) line now next [] reply [] goes answers refl) in
    let all = so_far.2.goes_on (input_lines line) (reply_text reply ++ []) is in (
      so_far.0 ++ line,
      on s t u so_far.0 line so_far.1 gives.1.0,
      (
        inl gives.1.1,
        (
          so_far.2.said ++ (reply_text reply ++ []),
          transcript_along By first (so_far.2.answered ++ input_lines line) (input_lines (so_far.0 ++ line)) (so_far.2.said ++ (reply_text reply ++ []))
              (so_far.2.said ++ (reply_text reply ++ [])) (sym (so_far.2.are_lines line)) refl all,
          subst (λ (l : List ℕ). Appends old new (so_far.2.said ++ l)) (sym (append-nil (reply_text reply)))
              (appends_both old mid new so_far.2.said (reply_text reply) so_far.2.grown prints),
        ),
      ),
    )

-- the line is `quit`
pub printed_quit : {S I : Type 0} (By : Answering S) (first now : S) (Gave : I → I → List ℕ → Type 0) → InOrder Gave → (Ended : Type 0) (s t u : I)
    (old new : Option (List ℕ)) (line : List ℕ) (last : Bool) → PrintedSoFar By first now (Gave s t) old new → GivesLine (Gave t u) Ended line last
    → (last ≡ true → 0 < length line) → ends_session line ≡ true → PrintsSession By first (Gave s u) Ended old new
printed_quit By first now Gave on Ended s t u old new line false so_far gives some quits = (
  so_far.0 ++ (line ++ 10 ∷ []),
  on s t u so_far.0 (line ++ 10 ∷ []) so_far.1 gives.1,
  (
    inr (record {
      before = so_far.0;
      line = line;
      lines = so_far.2.answered;
      is = refl;
      are_lines = so_far.2.are_lines (line ++ 10 ∷ []) ∙ ap (λ (ls : List (List ℕ)). so_far.2.answered ++ ls) (line_fed line [] gives.0);
      quits = quits;
    }),
    printed_end By first now so_far.0 (line ++ 10 ∷ []) (so_far.0 ++ (line ++ 10 ∷ [])) old new so_far.2 refl
        (subst (λ (ls : List (List ℕ)). Transcript By now ls []) (sym (line_fed line [] gives.0)) (transcript_quit (ends_session line) [] _ quits refl)),
  ),
)
printed_quit By first now Gave on Ended s t u old new [] true so_far gives some quits = let never : ⊥ = omega (arith, some refl) in absurd never
printed_quit By first now Gave on Ended s t u old new (b ∷ bs) true so_far gives some quits = (
  so_far.0 ++ (b ∷ bs),
  on s t u so_far.0 (b ∷ bs) so_far.1 gives.1.0,
  (
    inl gives.1.1,
    printed_end By first now so_far.0 (b ∷ bs) (so_far.0 ++ (b ∷ bs)) old new so_far.2 refl
        (subst (λ (ls : List (List ℕ)). Transcript By now ls []) (sym (line_alone b bs gives.0)) (transcript_quit (ends_session (b ∷ bs)) [] _ quits refl)),
  ),
)

-- a session that is refused has printed its replies to the lines that it has answered
pub printed_cut : {S I : Type 0} (By : Answering S) (first now : S) (Gave : I → I → List ℕ → Type 0) → InOrder Gave → (s t u : I)
    (old new : Option (List ℕ)) → PrintedSoFar By first now (Gave s t) old new → GivesSome (Gave t u)
    → Of (Gave s u) (λ typed. AppendsA (BeginsTranscript By first (input_lines typed)) old new)
printed_cut By first now Gave on s t u old new so_far gives = (
  so_far.0 ++ gives.0,
  on s t u so_far.0 gives.0 so_far.1 gives.1,
  (
    so_far.2.said,
    record {
      answered = so_far.2.answered;
      left = input_lines gives.0;
      are_lines = so_far.2.are_lines gives.0;
      prints = transcript_along By first (so_far.2.answered ++ []) so_far.2.answered (so_far.2.said ++ []) so_far.2.said
          (append-nil so_far.2.answered) (append-nil so_far.2.said) (so_far.2.goes_on [] [] refl);
    },
    so_far.2.grown,
  ),
)

-- an input that hasn't failed so far
pub counts_first : (count : Option ℕ) → CountsNone count count
counts_first None = tt
counts_first (Some n) = refl

pub counts_on : (first now next : Option ℕ) → CountsNone first now → CountsNone now next → CountsNone first next
counts_on None now next before after = tt
counts_on (Some n) now next before after = subst (λ count. CountsNone count next) before after

-- what holds anyhow holds if a session is refused
pub cut_where : {A : Type 0} (result : Result A Unanswered) (Is : Type 0) → Is → IfErr result (WhereRefused Is)
cut_where (Ok value) Is is = tt
cut_where (Err Failed) Is is = tt
cut_where (Err (Refused fault)) Is is = is

-- a line that is UTF-8 is answered as its text, and one that isn't is no command
pub typed_text : {S : Type 0} (By : Answering S) (line : List ℕ) (old new : S) (result : Result Answer DebugFault)
    → IsUtf8 line → By.answers line old result new → AnswersTyped By line old result new
typed_text By line old new result good answers = rw (is_utf8-from_IsUtf8 line good) answers

not_text : (line : List ℕ) (good : Bool) → is_utf8 line ≡ good → ¬ (IsUtf8 line) → good ≡ false
not_text line true is bad = absurd (bad (IsUtf8-from_is_utf8 line is))
not_text line false is bad = refl

pub typed_bytes : {S : Type 0} (By : Answering S) (line : List ℕ) (old : S) → ¬ (IsUtf8 line) → AnswersTyped By line old (Err BadCommand) old
typed_bytes By line old bad = rw (not_text line (is_utf8 line) refl bad) (refl, refl)

pub ends_text : (line : List ℕ) → IsUtf8 line → ends_session line ≡ is_quit line
ends_text line good = rw (is_utf8-from_IsUtf8 line good) refl

pub ends_bytes : (line : List ℕ) → ¬ (IsUtf8 line) → ends_session line ≡ false
ends_bytes line bad = rw (not_text line (is_utf8 line) refl bad) refl

-- a length that is tested
pub is_empty_line : (size n : ℕ) → size ≡ n → (size == 0) ≡ true → n ≡ 0
is_empty_line size n same is = grind (arith, nat_tests)

pub isnt_empty_line : (size n : ℕ) → size ≡ n → (size == 0) ≡ false → 0 < n
isnt_empty_line size n same is = grind (arith, nat_tests)
