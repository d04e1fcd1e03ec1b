-- All lines that say a command.
-- Laws: claims above the definitions, each proved as the contract of a function.
use Rattle.std.specs.Prelude.{ℕ, ◌≡◌, ◌≢◌, ◌+◌, ◌-◌, ◌^◌, ◌≤◌, min, List, [], ◌∷◌, ◌++◌, length, codes, Some}
use Rattle.std.specs.List.{AllByRecursion}
use Rattle.board_types.specs.Digits.{spelled}
use Rattle.debugger_meaning.specs.declared.command.Command.{Command}
use Rattle.debugger_meaning.specs.declared.command.Command.TheVariants.{Break, Byte, Sound, Halted, Go, Step, Regs}
use Rattle.debugger_meaning.specs.declared.command.Command.TheVariants.{Screen, Dump, Trail, Back, BackStep, BackStop}

-- spaces, or nothing
abbrev pub AreSpaces : List ℕ → Type 0
AreSpaces line = AllByRecursion (λ b. b ≡ 32) line

-- a word has one byte or more, none of which is a space
pub record IsWord (word : List ℕ) : Type 0 where
  pub some : word ≢ []
  pub no_space : AllByRecursion (λ b. b ≢ 32) word

-- what follows a word is nothing, or begins with a space
abbrev pub IsApart : List ℕ → Type 0
IsApart [] = Unit {0}
IsApart (b ∷ bs) = b ≡ 32

-- a word, perhaps with spaces before it, and what follows it
pub record WordThen (word : List ℕ) (Following : List ℕ → Type 0) (line : List ℕ) : Type 0 where
  pub spaces : List ℕ
  pub following : List ℕ
  pub are : line ≡ spaces ++ (word ++ following)
  pub are_spaces : AreSpaces spaces
  pub is_word : IsWord word
  pub is_apart : IsApart following
  pub is_following : Following following

-- a line of these words
abbrev pub HasWords : List (List ℕ) → List ℕ → Type 0
HasWords [] = AreSpaces
HasWords (word ∷ words) = WordThen word (HasWords words)

-- a number of at least one and at most `most` hexadecimal digits
pub record SpellsHex (most n : ℕ) (word : List ℕ) : Type 0 where
  pub some : 1 ≤ length word
  pub few : length word ≤ most
  pub number : spelled 16 0 word ≡ Some n

-- one or more decimal digits; a count that is too large for 64 bits counts as the largest that isn't
pub record SpellsCount (count : ℕ) (word : List ℕ) : Type 0 where
  pub number : ℕ
  pub some : 1 ≤ length word
  pub spells : spelled 10 0 word ≡ Some number
  pub is : count ≡ min number (2 ^ 64 - 1)

-- a segment and an offset with a colon between them
pub record SpellsPlace (segment offset : ℕ) (word : List ℕ) : Type 0 where
  pub front : List ℕ
  pub back : List ℕ
  pub are : word ≡ front ++ 58 ∷ back
  pub segment_is : SpellsHex 4 segment front
  pub offset_is : SpellsHex 4 offset back

-- a name and a word after it
pub record WithOne (name : List ℕ) (Spells : List ℕ → Type 0) (words : List (List ℕ)) : Type 0 where
  pub word : List ℕ
  pub are : words ≡ name ∷ word ∷ []
  pub says : Spells word

-- a name and two words after it
pub record WithTwo (name : List ℕ) (First Second : List ℕ → Type 0) (words : List (List ℕ)) : Type 0 where
  pub first : List ℕ
  pub second : List ℕ
  pub are : words ≡ name ∷ first ∷ second ∷ []
  pub says_first : First first
  pub says_second : Second second

abbrev pub Alone : List ℕ → List (List ℕ) → Type 0
Alone name words = words ≡ name ∷ []

abbrev pub Both : List ℕ → List ℕ → List (List ℕ) → Type 0
Both name second words = words ≡ name ∷ second ∷ []

-- 1 to 4,096 bytes are shown, all of them below 100000h
abbrev pub IsShown : ℕ → ℕ → Type 0
IsShown first count = (1 ≤ count) × ((count ≤ 4096) × (first + count ≤ 2 ^ 20))

abbrev pub SpellsCommand : Command → List (List ℕ) → Type 0
SpellsCommand (Break segment offset) = WithOne (codes "break") (SpellsPlace segment offset)
SpellsCommand (Byte address byte) = WithTwo (codes "byte") (SpellsHex 5 address) (SpellsHex 2 byte)
SpellsCommand Sound = Alone (codes "sound")
SpellsCommand Halted = Alone (codes "halted")
SpellsCommand (Go count) = WithOne (codes "go") (SpellsCount count)
SpellsCommand Step = Alone (codes "step")
SpellsCommand Regs = Alone (codes "regs")
SpellsCommand Screen = Alone (codes "screen")
SpellsCommand (Dump first count) =
    λ words. WithTwo (codes "dump") (SpellsHex 5 first) (SpellsCount count) words × IsShown first count
SpellsCommand Trail = Alone (codes "trail")
SpellsCommand (Back count) = λ words. WithOne (codes "back") (SpellsCount count) words × (1 ≤ count)
SpellsCommand BackStep = Both (codes "back") (codes "step")
SpellsCommand BackStop = Both (codes "back") (codes "stop")

-- a line says a command that its words spell
pub record Says (line : List ℕ) (command : Command) : Type 0 where
  pub words : List (List ℕ)
  pub has : HasWords words line
  pub spells : SpellsCommand command words
