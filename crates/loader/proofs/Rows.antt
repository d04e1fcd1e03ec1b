-- The definitions of a run file at texts that are written out.
use Rattle.std.proofs.Common.{◌≡◌, codes, [], ◌∷◌, refl, Ok, Err}
use Rattle.std.specs.Prelude.{⊤}
use Rattle.std.specs.Str.{chars, is_utf8}
use Rattle.serde_json.proofs.OnLiterals.{serde_json_on_literals}
use Rattle.board_types.specs.declared.choice.ClockTable.TheVariants.{C1, C2}
use Rattle.board_types.specs.declared.choice.TimerKind.TheVariants.{I8253, I8254}
use Rattle.loader.specs.declared.run_fault.RunFault.TheVariants.{NotJson, BadField, BadScan, StampsFall, BudgetTooLarge}
use Rattle.loader.specs.RunFile.{run_of, run_of_text, value_of, has_only_fields, are_fields, is_field, is_field_of}
use Rattle.loader.specs.RunFile.{text_of, timer_of, clocks_of, number_of, number_within, entry_of, entries_in, keys_of}

-- what a row unfolds
unfoldable on_texts : ⊤
unfolding serde_json_on_literals chars is_utf8 run_of_text run_of value_of has_only_fields are_fields
    is_field is_field_of text_of timer_of clocks_of number_of number_within entry_of entries_in keys_of
on_texts = tt

-- the run file of examples/hello.json
hello : run_of_text (codes "{\"version\":1,\"ram\":64,\"sw1\":0,\"sw2\":0,\"budget\":100,\"keys\":[]}\n")
    ≡ Ok (record { ram_kb = 64; sw1 = 0; sw2 = 0; timer = I8253; clocks = C1; budget = 100; keys = [] })
unfolding on_texts
hello = refl

-- the last value of a field that is written twice counts
twice : run_of_text (codes "{\"ram\":65536,\"version\":1,\"sw1\":255,\"sw2\":31,\"budget\":1099511627776,\"keys\":[],\"ram\":65535}")
    ≡ Ok (record { ram_kb = 65535; sw1 = 255; sw2 = 31; timer = I8253; clocks = C1; budget = 1099511627776; keys = [] })
unfolding on_texts
twice = refl

too_large : run_of_text (codes "{\"version\":1,\"ram\":64,\"sw1\":0,\"sw2\":0,\"budget\":1099511627777,\"keys\":[]}") ≡ Err BudgetTooLarge
unfolding on_texts
too_large = refl

-- a bad field comes before a budget that is too large
both : run_of_text (codes "{\"version\":1,\"ram\":64,\"sw1\":0,\"sw2\":32,\"budget\":1099511627777,\"keys\":[]}") ≡ Err BadField
unfolding on_texts
both = refl

unknown : run_of_text (codes "{\"version\":1,\"ram\":64,\"sw1\":0,\"sw2\":0,\"budget\":100,\"keys\":[],\"hex\":0}") ≡ Err BadField
unfolding on_texts
unknown = refl

no_number : run_of_text (codes "{\"version\":1,\"ram\":64,\"sw1\":0,\"sw2\":0,\"budget\":1.5,\"keys\":[]}") ≡ Err BadField
unfolding on_texts
no_number = refl

-- keys, the last of which comes at the last clock
keys : run_of_text (codes "{\"version\":1,\"ram\":64,\"sw1\":0,\"sw2\":0,\"budget\":100,\"keys\":[[0,1],[0,211],[1099511627776,83]]}")
    ≡ Ok (record {
      ram_kb = 64;
      sw1 = 0;
      sw2 = 0;
      timer = I8253;
      clocks = C1;
      budget = 100;
      keys = (record { stamp = 0; code = 1 }) ∷ (record { stamp = 0; code = 211 }) ∷ (record { stamp = 1099511627776; code = 83 }) ∷ [];
    })
unfolding on_texts
keys = refl

-- a key of another form, or past the last clock, comes before a budget that is too large
late_key : run_of_text (codes "{\"version\":1,\"ram\":64,\"sw1\":0,\"sw2\":0,\"budget\":1099511627777,\"keys\":[[0,0],[1099511627777,1]]}") ≡ Err BadField
unfolding on_texts
late_key = refl

-- a budget that is too large comes before a code that no key has
late_scan : run_of_text (codes "{\"version\":1,\"ram\":64,\"sw1\":0,\"sw2\":0,\"budget\":1099511627777,\"keys\":[[0,84]]}") ≡ Err BudgetTooLarge
unfolding on_texts
late_scan = refl

-- key by key: the second key's stamp comes before the third's code
falls : run_of_text (codes "{\"version\":1,\"ram\":64,\"sw1\":0,\"sw2\":0,\"budget\":1,\"keys\":[[5,1],[4,2],[4,300]]}") ≡ Err StampsFall
unfolding on_texts
falls = refl

-- the fault of a key's code comes before that of its stamp
scan : run_of_text (codes "{\"version\":1,\"ram\":64,\"sw1\":0,\"sw2\":0,\"budget\":1,\"keys\":[[5,1],[4,300]]}") ≡ Err BadScan
unfolding on_texts
scan = refl

-- version 2, whose last value counts too
second : run_of_text (codes "{\"version\":1,\"ram\":64,\"sw1\":0,\"sw2\":0,\"timer\":\"8254\",\"clocks\":\"C2\",\"budget\":100,\"keys\":[],\"version\":2}")
    ≡ Ok (record { ram_kb = 64; sw1 = 0; sw2 = 0; timer = I8254; clocks = C2; budget = 100; keys = [] })
unfolding on_texts
second = refl

-- neither of the two fields of version 2 may be missing
timer_alone : run_of_text (codes "{\"version\":2,\"ram\":64,\"sw1\":0,\"sw2\":0,\"timer\":\"8253\",\"budget\":100,\"keys\":[]}") ≡ Err BadField
unfolding on_texts
timer_alone = refl

clocks_alone : run_of_text (codes "{\"version\":2,\"ram\":64,\"sw1\":0,\"sw2\":0,\"clocks\":\"C1\",\"budget\":100,\"keys\":[]}") ≡ Err BadField
unfolding on_texts
clocks_alone = refl

-- version 1 has neither of the two fields of version 2
timer_of_version_1 : run_of_text (codes "{\"version\":1,\"ram\":64,\"sw1\":0,\"sw2\":0,\"timer\":\"8253\",\"budget\":100,\"keys\":[]}") ≡ Err BadField
unfolding on_texts
timer_of_version_1 = refl

clocks_of_version_1 : run_of_text (codes "{\"version\":1,\"ram\":64,\"sw1\":0,\"sw2\":0,\"clocks\":\"C1\",\"budget\":100,\"keys\":[]}") ≡ Err BadField
unfolding on_texts
clocks_of_version_1 = refl

third : run_of_text (codes "{\"version\":3,\"ram\":64,\"sw1\":0,\"sw2\":0,\"timer\":\"8253\",\"clocks\":\"C1\",\"budget\":100,\"keys\":[]}") ≡ Err BadField
unfolding on_texts
third = refl

-- a timer as a number, and a table in small letters, come before a budget that is too large
timer_as_number : run_of_text (codes "{\"version\":2,\"ram\":64,\"sw1\":0,\"sw2\":0,\"timer\":8254,\"clocks\":\"C1\",\"budget\":1099511627777,\"keys\":[]}")
    ≡ Err BadField
unfolding on_texts
timer_as_number = refl

small_letters : run_of_text
    (codes "{\"version\":2,\"ram\":64,\"sw1\":0,\"sw2\":0,\"timer\":\"8254\",\"clocks\":\"c1\",\"budget\":1099511627777,\"keys\":[]}")
    ≡ Err BadField
unfolding on_texts
small_letters = refl

open_brace : run_of_text (codes "{") ≡ Err NotJson
unfolding on_texts
open_brace = refl
