-- The command line at words that are written out.
use Rattle.std.proofs.Common.{◌≡◌, List, [], ◌∷◌, codes, Bool, true, false, Option, None, Some, option_map, refl}
use Rattle.clap.proofs.OnLiterals.{clap_on_literals}
use Rattle.clap.specs.Words.{Row, Text, fault_of, first_of, subcommand_of}
use Rattle.clap.specs.declared.error.ErrorKind.TheVariants.{DisplayHelp, InvalidSubcommand, MissingRequiredArgument, UnknownArgument}
use Rattle.pcboard_words.specs.CommandLine.{app, is_given}

-- the subcommand that the words name, with its files and whether the flag is given
abbrev file_words : Text → List Text → Option (Text × Option Text × Bool)
file_words flag words = option_map (λ (found : Text × List Row). (found.0, first_of (codes "FILE") found.1, is_given flag found.1)) (subcommand_of app words)

abbrev board_words : List Text → Option (Text × Option Text × Option Text × Bool)
board_words words =
    option_map (λ (found : Text × List Row). (found.0, first_of (codes "FILE") found.1, first_of (codes "RUN") found.1, is_given (codes "hex") found.1))
    (subcommand_of app words)

no_words : fault_of app [] ≡ []
unfolding clap_on_literals
no_words = refl

stored : subcommand_of app [] ≡ None
unfolding clap_on_literals
stored = refl

-- the end of the options alone is no word
end_words : fault_of app (codes "--" ∷ []) ≡ []
unfolding clap_on_literals
end_words = refl

end_stored : subcommand_of app (codes "--" ∷ []) ≡ None
unfolding clap_on_literals
end_stored = refl

-- no subcommand stands after the end of the options
subcommand_after_end : fault_of app (codes "--" ∷ codes "run" ∷ codes "a.asm" ∷ codes "b.json" ∷ []) ≡ UnknownArgument ∷ InvalidSubcommand ∷ []
unfolding clap_on_literals
subcommand_after_end = refl

asm_words : fault_of app (codes "asm" ∷ codes "a.asm" ∷ []) ≡ []
unfolding clap_on_literals
asm_words = refl

asm_hex : file_words (codes "list") (codes "asm" ∷ codes "a.asm" ∷ []) ≡ Some (codes "asm", Some (codes "a.asm"), false)
unfolding clap_on_literals
asm_hex = refl

list_words : fault_of app (codes "asm" ∷ codes "a.asm" ∷ codes "--list" ∷ []) ≡ []
unfolding clap_on_literals
list_words = refl

asm_list : file_words (codes "list") (codes "asm" ∷ codes "a.asm" ∷ codes "--list" ∷ []) ≡ Some (codes "asm", Some (codes "a.asm"), true)
unfolding clap_on_literals
asm_list = refl

list_first : file_words (codes "list") (codes "asm" ∷ codes "--list" ∷ codes "a.asm" ∷ []) ≡ Some (codes "asm", Some (codes "a.asm"), true)
unfolding clap_on_literals
list_first = refl

-- each flag belongs to its subcommand alone
asm_of_hex : fault_of app (codes "asm" ∷ codes "a.hex" ∷ codes "--hex" ∷ []) ≡ UnknownArgument ∷ []
unfolding clap_on_literals
asm_of_hex = refl

run_words : fault_of app (codes "run" ∷ codes "a.asm" ∷ codes "b.json" ∷ []) ≡ []
unfolding clap_on_literals
run_words = refl

run_source : board_words (codes "run" ∷ codes "a.asm" ∷ codes "b.json" ∷ []) ≡ Some (codes "run", Some (codes "a.asm"), Some (codes "b.json"), false)
unfolding clap_on_literals
run_source = refl

run_hex : board_words (codes "run" ∷ codes "--hex" ∷ codes "a.hex" ∷ codes "b.json" ∷ [])
    ≡ Some (codes "run", Some (codes "a.hex"), Some (codes "b.json"), true)
unfolding clap_on_literals
run_hex = refl

hex_last : fault_of app (codes "run" ∷ codes "a.hex" ∷ codes "b.json" ∷ codes "--hex" ∷ []) ≡ []
unfolding clap_on_literals
hex_last = refl

-- a file may be named like an option
run_after_end : board_words (codes "run" ∷ codes "--" ∷ codes "--hex" ∷ codes "b.json" ∷ [])
    ≡ Some (codes "run", Some (codes "--hex"), Some (codes "b.json"), false)
unfolding clap_on_literals
run_after_end = refl

debug_words : fault_of app (codes "debug" ∷ codes "a.hex" ∷ codes "b.json" ∷ codes "--hex" ∷ []) ≡ []
unfolding clap_on_literals
debug_words = refl

debug_hex : board_words (codes "debug" ∷ codes "a.hex" ∷ codes "b.json" ∷ codes "--hex" ∷ [])
    ≡ Some (codes "debug", Some (codes "a.hex"), Some (codes "b.json"), true)
unfolding clap_on_literals
debug_hex = refl

debug_source : board_words (codes "debug" ∷ codes "a.asm" ∷ codes "b.json" ∷ []) ≡ Some (codes "debug", Some (codes "a.asm"), Some (codes "b.json"), false)
unfolding clap_on_literals
debug_source = refl

one_file : fault_of app (codes "run" ∷ codes "a.asm" ∷ []) ≡ MissingRequiredArgument ∷ []
unfolding clap_on_literals
one_file = refl

no_run_file : fault_of app (codes "debug" ∷ codes "a.asm" ∷ []) ≡ MissingRequiredArgument ∷ []
unfolding clap_on_literals
no_run_file = refl

help : fault_of app (codes "--help" ∷ []) ≡ DisplayHelp ∷ []
unfolding clap_on_literals
help = refl

help_of_debug : fault_of app (codes "debug" ∷ codes "--help" ∷ []) ≡ DisplayHelp ∷ []
unfolding clap_on_literals
help_of_debug = refl

unknown_word : fault_of app (codes "step" ∷ []) ≡ UnknownArgument ∷ InvalidSubcommand ∷ []
unfolding clap_on_literals
unknown_word = refl
