-- What is said by the streams' states is said by the lists that note what was read.
use Rattle.std.proofs.Common.{◌≡◌, ◌++◌, ℕ, Bool, true, List, Option, Ok, Err, inl, inr}
use Rattle.std.specs.Prelude.{◌⊎◌}
use Rattle.pcboard_words.specs.declared.task.Task.{Task}
use Rattle.pcboard_words.specs.declared.task.Task.TheVariants as tasks
use Rattle.pcboard_texts.specs.declared.fault.Fault.{Fault}
use Rattle.streams.specs.FileLists.{FileList, NotesFile}
use Rattle.pcboard_texts.specs.Given.{Given, given_by, noted}
use Rattle.pcboard_texts.specs.Answer.{EndsInQuit, PrintsFor, PrintsTask, Reading}
use Rattle.pcboard_texts.specs.Refusal.{IsTrueOfTask, IsTrueOfWordsFor, PrintsNoAnswerFor, PrintsReplies, TellsA}
use Rattle.pcboard_texts.specs.Transcript.{Answering}

-- what one tells of a run, the other tells too
pub record Within (g h : Given) : Type 0 where
  pub one : (name : List ℕ) (limit : ℕ) (bytes : List ℕ) → g.one name limit bytes → h.one name limit bytes
  pub two : (first : List ℕ) (most : ℕ) (front second : List ℕ) (least : ℕ) (back : List ℕ) → g.two first most front second least back
      → h.two first most front second least back
  pub typed : (bytes : List ℕ) → g.typed bytes → h.typed bytes
  pub ended : g.ended → h.ended

ends_within : (g h : Given) → Within g h → (typed : List ℕ) → (g.ended ⊎ EndsInQuit typed) → h.ended ⊎ EndsInQuit typed
ends_within g h within typed (inl ends) = inl (within.ended ends)
ends_within g h within typed (inr quits) = inr quits

prints_task : {S : Type 0} (By : Answering S) (g h : Given) → Within g h → (task : Task) (old new : Option (List ℕ))
    → PrintsTask By task g old new → PrintsTask By task h old new
prints_task By g h within tasks.Stored old new is = (within.ended is.0, (is.1.0, within.typed is.1.0 is.1.1, is.1.2))
prints_task By g h within (tasks.Asm file list) old new is = (is.0, within.one _ _ is.0 is.1, is.2)
prints_task By g h within (tasks.Run file run hex) old new is = (is.0, (is.1.0, within.two _ _ is.0 _ _ is.1.0 is.1.1, is.1.2))
prints_task By g h within (tasks.Debug file run hex) old new is =
    let typed = is.1.2 in
    (is.0, (is.1.0, within.two _ _ is.0 _ _ is.1.0 is.1.1, (typed.0, within.typed typed.0 typed.1, (ends_within g h within typed.0 typed.2.0, typed.2.1))))

pub prints_within : {S : Type 0} (Reads : Reading) (By : Answering S) (words : List (List ℕ)) (g h : Given) → Within g h → (old new : Option (List ℕ))
    → PrintsFor Reads By words g old new → PrintsFor Reads By words h old new
prints_within Reads By words g h within old new is = (is.0, is.1, prints_task By g h within is.0 old new is.2)

true_task : (g h : Given) → Within g h → (task : Task) (fault : Fault) → IsTrueOfTask task g fault → IsTrueOfTask task h fault
true_task g h within tasks.Stored fault is = (within.ended is.0, (is.1.0, within.typed is.1.0 is.1.1, is.1.2))
true_task g h within (tasks.Asm file list) fault is = (is.0, within.one _ _ is.0 is.1, is.2)
true_task g h within (tasks.Run file run hex) fault is = (is.0, (is.1.0, within.two _ _ is.0 _ _ is.1.0 is.1.1, is.1.2))
true_task g h within (tasks.Debug file run hex) fault is = (is.0, (is.1.0, within.two _ _ is.0 _ _ is.1.0 is.1.1, is.1.2))

true_words : (Reads : Reading) (words : List (List ℕ)) (g h : Given) → Within g h → (fault : Fault) → IsTrueOfWordsFor Reads words g fault
    → IsTrueOfWordsFor Reads words h fault
true_words Reads words g h within fault (inl wants) = inl wants
true_words Reads words g h within fault (inr (task, names, inl wants)) = inr (task, names, inl wants)
true_words Reads words g h within fault (inr (task, names, inr is)) = inr (task, names, inr (true_task g h within task fault is))

pub tells_within : (Reads : Reading) (words : List (List ℕ)) (g h : Given) → Within g h → (old new : Option (List ℕ))
    → TellsA (IsTrueOfWordsFor Reads words g) old new → TellsA (IsTrueOfWordsFor Reads words h) old new
tells_within Reads words g h within old new is = (is.0, true_words Reads words g h within is.0 is.1, is.2)

replies_task : {S : Type 0} (By : Answering S) (g h : Given) → Within g h → (task : Task) (old new : Option (List ℕ))
    → PrintsReplies By task g old new → PrintsReplies By task h old new
replies_task By g h within tasks.Stored old new is = absurd is
replies_task By g h within (tasks.Asm file list) old new is = absurd is
replies_task By g h within (tasks.Run file run hex) old new is = absurd is
replies_task By g h within (tasks.Debug file run hex) old new is =
    let typed = is.1.2 in
    (is.0, (is.1.0, within.two _ _ is.0 _ _ is.1.0 is.1.1, (typed.0, within.typed typed.0 typed.1, typed.2)))

pub withholds_within : {S : Type 0} (Reads : Reading) (By : Answering S) (words : List (List ℕ)) (g h : Given) → Within g h → (old new : Option (List ℕ))
    → PrintsNoAnswerFor Reads By words g old new → PrintsNoAnswerFor Reads By words h old new
withholds_within Reads By words g h within old new (inl same) = inl same
withholds_within Reads By words g h within old new (inr is) = inr (is.0, is.1, replies_task By g h within is.0 old new is.2)

-- the lists tell what states tell that have them, whatever these tell besides
pub within_noted : {F I : Type 0} (log : F → FileList) (bytes : I → List ℕ) (ends : I → Bool) (Besides : I → I → List ℕ → Type 0) (Met : I → Type 0)
    (old new : F) (before after : I)
    → Within (given_by (λ s t name limit read. NotesFile (log s) (log t) name limit read) old new
    (λ s t more. (bytes t ≡ bytes s ++ more) × Besides s t more) (λ s. (ends s ≡ true) × Met s) before after)
    (noted (log old) (log new) (bytes before) (bytes after) (ends after))
within_noted log bytes ends Besides Met old new before after = record {
  one = λ name limit read is. is;
  two = λ first most front second least back is. (log is.0, is.1, is.2);
  typed = λ read is. is.0;
  ended = λ is. is.0;
}
