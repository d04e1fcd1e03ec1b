-- The laws of the words.
-- Laws: claims above the definitions, each proved as the contract of a function.
use Rattle.std.specs.Prelude.{ℕ, ◌≡◌, ◌⊎◌, true, List, slice_get, Some}
use Rattle.isa.specs.declared.operation.Operation.{Operation}
use Rattle.isa.specs.declared.form.Prefix.{Prefix}
use Rattle.isa.specs.declared.form.Prefix.TheVariants as prefixes
use Rattle.dialect.specs.declared.mnemonic.Mnemonic.{Mnemonic}
use Rattle.dialect.specs.declared.register.Register.{Register}
use Rattle.dialect.specs.declared.register.Register.TheVariants as registers
use Rattle.dialect.specs.declared.keyword.Keyword.{Keyword}
use Rattle.dialect.specs.declared.meaning.Meaning.{Meaning}
use Rattle.dialect.specs.declared.meaning.Meaning.TheVariants as meanings
use Rattle.dialect.specs.Mnemonics.{near_operation, far_operation}
use Rattle.dialect.specs.Words.{Entry, words, spells, meaning_of}
use Rattle.dialect.specs.Names.{operation_name, register_name, prefix_name, keyword_name}

-- a mnemonic stands for the operation, in its near form or in its far one
abbrev pub StandsFor : Mnemonic → Operation → Type 0
StandsFor m operation = (near_operation m ≡ operation) ⊎ (far_operation m ≡ Some operation)

-- the mnemonic that is written for an operation stands for it when it is read
abbrev pub OperationsAreRead : Type 0
OperationsAreRead =
    (operation : Operation)
    → (m : Mnemonic) × (meaning_of (operation_name operation) ≡ Some (meanings.Mnemonic m)) × StandsFor m operation

abbrev pub RegistersAreRead : Type 0
RegistersAreRead = (r : Register) → meaning_of (register_name r) ≡ Some (meanings.Register r)

-- what a prefix's written name means when it is read; a segment override is written as its register
abbrev pub meaning_of_prefix : Prefix → Meaning
meaning_of_prefix (prefixes.Segment r) = meanings.Register (registers.Segment r)
meaning_of_prefix p = meanings.Prefix p

abbrev pub PrefixesAreRead : Type 0
PrefixesAreRead = (p : Prefix) → meaning_of (prefix_name p) ≡ Some (meaning_of_prefix p)

abbrev pub KeywordsAreRead : Type 0
KeywordsAreRead = (k : Keyword) → meaning_of (keyword_name k) ≡ Some (meanings.Keyword k)

-- no two places among the words are spelled alike
abbrev pub OneMeaning : Type 0
OneMeaning =
    (i j : ℕ) (d e : Entry) → slice_get words i ≡ Some d → slice_get words j ≡ Some e → spells d.0 e.0 ≡ true → i ≡ j

-- words that differ only in case mean the same
abbrev pub CaseDoesNotCount : Type 0
CaseDoesNotCount = (v w : List ℕ) → spells v w ≡ true → meaning_of v ≡ meaning_of w
