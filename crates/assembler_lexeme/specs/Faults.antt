-- How readers answer: with what they read, or with a fault. Want of memory may take the place of either.
-- To be believed: the headline rests on it.
use Rattle.std.specs.Prelude.{◌≡◌, List, [], ◌∷◌, ◌++◌, Option, None, Some, Result, Ok, Err}
use Rattle.assembler_lexeme.specs.declared.fault.SyntaxFault.{SyntaxFault}
use Rattle.assembler_lexeme.specs.declared.fault.SyntaxFault.TheVariants.{BadLine}
use Rattle.assembler_lexeme.specs.declared.fault.SyntaxError.{SyntaxError}
use Rattle.assembler_lexeme.specs.declared.fault.SyntaxError.TheVariants.{Fault, Memory}

infixl 10 ◌>>=◌
abbrev pub ◌>>=◌ : {A B : Type 0} → Result A SyntaxFault → (A → Result B SyntaxFault) → Result B SyntaxFault
(Ok x) >>= f = f x
(Err fault) >>= f = Err fault

-- what must be there: without it the line isn't in the grammar
abbrev pub wanted : {A : Type 0} → Option A → Result A SyntaxFault
wanted (Some x) = Ok x
wanted None = Err BadLine

-- what a reader gives for each element, or its first fault
abbrev pub all_of : {A B : Type 0} → (A → Result B SyntaxFault) → List A → Result (List B) SyntaxFault
all_of f [] = Ok []
all_of f (x ∷ xs) = do
  y ← f x
  ys ← all_of f xs
  Ok (y ∷ ys)

-- what was read, with these elements before it
abbrev pub with_front : {A : Type 0} → List A → Result (List A) SyntaxFault → Result (List A) SyntaxFault
with_front front read = do
  back ← read
  Ok (front ++ back)

-- the error that a reader answers is the fault of the reading, or want of memory
abbrev pub Fails : {A : Type 0} → SyntaxError → Result A SyntaxFault → Type 0
Fails (Fault fault) read = read ≡ Err fault
Fails Memory read = Unit {0}

-- what a reader answers is the reading, or want of memory
abbrev pub Gives : {A : Type 0} → Result A SyntaxError → Result A SyntaxFault → Type 0
Gives (Ok x) read = read ≡ Ok x
Gives (Err error) read = Fails error read
