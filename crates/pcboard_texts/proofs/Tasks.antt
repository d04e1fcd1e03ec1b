-- What a task prints, from what its parts print.
use Rattle.std.proofs.Common.{◌≡◌, ℕ, Bool, List, Option, Result, Ok, Err, IfErr, inl, inr}
use Rattle.std.specs.Prelude.{◌⊎◌}
use Rattle.board_plain.specs.Board.{BoardState}
use Rattle.pcboard_texts.specs.declared.unanswered.Unanswered.{Unanswered}
use Rattle.pcboard_texts.specs.declared.unanswered.Unanswered.TheVariants.{Failed, Refused}
use Rattle.pcboard_texts.specs.Given.{Of}
use Rattle.pcboard_texts.specs.Answer.{AppendsA, EndsInQuit, IsBoardOf, IsSession}
use Rattle.pcboard_texts.specs.Refusal.{BeginsSession, BeginsTranscript}
use Rattle.pcboard_texts.specs.Transcript.{Answering, Transcript, input_lines}
use Rattle.pcboard_texts.specs.Unanswered.{WhereRefused}
use Rattle.pcboard_texts.specs.Printing.{PrintsSession}

-- what a session about the board of two files prints is the answer to `debug`
pub printed_session : {S : Type 0} (By : Answering S) (Two : List ℕ → List ℕ → Type 0) (Typed : List ℕ → Type 0) (Ended : Type 0)
    (old new : Option (List ℕ)) (hex : Bool) (board : BoardState) → ((bytes : List ℕ) × Of (Two bytes) (λ said. IsBoardOf hex bytes said board))
    → PrintsSession By (By.begins board) Typed Ended old new
    → (bytes : List ℕ) × Of (Two bytes) (λ said. Of Typed (λ typed. (Ended ⊎ EndsInQuit typed) × AppendsA (IsSession By hex bytes said typed) old new))
printed_session By Two Typed Ended old new hex board is_board prints = (
  is_board.0,
  (
    is_board.1.0,
    is_board.1.1,
    (
      prints.0,
      prints.1,
      (
        prints.2.0,
        (prints.2.1.0, record { board = board; is_board = is_board.1.2; prints = prints.2.1.1 }, prints.2.1.2),
      ),
    ),
  ),
)

-- what a session prints as far as it goes is the beginning of the answer to `debug`
pub replies_withheld : {T S : Type 0} (By : Answering S) (result : Result T Unanswered) (Two : List ℕ → List ℕ → Type 0) (Typed : List ℕ → Type 0)
    (old new : Option (List ℕ)) (hex : Bool) (board : BoardState) → ((bytes : List ℕ) × Of (Two bytes) (λ said. IsBoardOf hex bytes said board))
    → IfErr result (WhereRefused (new ≡ old ⊎ Of Typed (λ typed. AppendsA (BeginsTranscript By (By.begins board) (input_lines typed)) old new)))
    → IfErr result (WhereRefused (new ≡ old
    ⊎ ((bytes : List ℕ) × Of (Two bytes) (λ said. Of Typed (λ typed. AppendsA (BeginsSession By hex bytes said typed) old new)))))
replies_withheld By (Ok done) Two Typed old new hex board is_board cut = cut
replies_withheld By (Err Failed) Two Typed old new hex board is_board cut = cut
replies_withheld By (Err (Refused fault)) Two Typed old new hex board is_board (inl same) = inl same
replies_withheld By (Err (Refused fault)) Two Typed old new hex board is_board (inr adds) =
    inr (
      is_board.0,
      (
        is_board.1.0,
        is_board.1.1,
        (
          adds.0,
          adds.1,
          (adds.2.0, record { board = board; is_board = is_board.1.2; begins = adds.2.1 }, adds.2.2),
        ),
      ),
    )
