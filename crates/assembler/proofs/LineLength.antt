-- A row has as many bytes as its size says.
use Rattle.std.proofs.Common.{◌≡◌, ℕ, ◌++◌, [], length, refl, sym, subst, Bool, true, false, not, ◌||◌, Option, None, Some, is_none, if◌then◌else◌}
use Rattle.std.specs.Option.{option_map_or}
use Rattle.isa.specs.declared.form.Form.{Form}
use Rattle.isa.specs.declared.form.Values.{Values}
use Rattle.assembler_syntax.specs.declared.statement.Instruction.{Instruction}
use Rattle.assembler_syntax.specs.declared.statement.Line.{Line}
use Rattle.assembler_syntax.specs.declared.statement.Statement.{Statement}
use Rattle.assembler_syntax.specs.declared.statement.Statement.TheVariants as statements
use Rattle.assembler.specs.declared.fault.SourceFault.{SourceFault}
use Rattle.assembler.specs.declared.fault.SourceFault.TheVariants as faults
use Rattle.assembler_meaning.specs.declared.symbol.Location.{Location}
use Rattle.assembler_meaning.specs.Values.{Names}
use Rattle.assembler_meaning.specs.Instructions.{instruction_size, code_bytes}
use Rattle.assembler_meaning.specs.Data.{are_items_known}
use Rattle.assembler.specs.LocatedLines.{early_fault, has_unknown_constant, has_wrong_constant, opens_within, size_of}
use Rattle.assembler.specs.Placement.{content_of, fields_of}
use Rattle.assembler.specs.SecondPass.{HasSizeAt}
use Rattle.assembler_meaning.proofs.LeavesLength.{code_length, data_length, keeps_after}

-- tests
pub not_false : (a : Bool) → not a ≡ false → a ≡ true
not_false true e = refl
not_false false e = cc

-- instructions
fields_length : (f : Form) (i : Instruction) (v : Option Values) → is_none v ≡ false → length (option_map_or (code_bytes f i) v []) ≡ instruction_size f i
fields_length f i None there = cc
fields_length f i (Some v) there = code_length f i v

-- a line without early faults knows its counts
second_test : (a b : Bool) (f g : SourceFault) (rest : Option SourceFault) → (if a then Some f else (if b then Some g else rest)) ≡ None → b ≡ false
second_test true b f g rest none = cc
second_test false true f g rest none = cc
second_test false false f g rest none = refl

pub counts_known : (known : Names) (here : Option Location) (line : Line) (form : Option Form)
    → early_fault known here line form ≡ None → has_unknown_constant known line.statement ≡ false
unfolding early_fault
counts_known known here line form none =
    second_test (opens_within here line.statement || has_wrong_constant known line.statement)
    (has_unknown_constant known line.statement) faults.BadLine faults.UnknownName _ none

statement_length : (known more : Names) (location : Location) (statement : Statement) (form : Option Form) → has_unknown_constant known statement ≡ false
    → HasSizeAt (known ++ more) location (size_of known statement form) (content_of statement form)
statement_length known more location statements.Empty form counts named fits = refl
statement_length known more location (statements.Segment name n) form counts named fits = refl
statement_length known more location statements.Ends form counts named fits = refl
statement_length known more location (statements.Equ name n) form counts named fits = refl
statement_length known more location (statements.Org n) form counts named fits = refl
statement_length known more location (statements.Data width items) form counts named fits =
    data_length known (known ++ more) (keeps_after known more) location.offset width items counts
    (not_false (are_items_known (known ++ more) location.offset items) named)
statement_length known more location (statements.Instruction i) None counts named fits = refl
statement_length known more location (statements.Instruction i) (Some f) counts named fits =
    fields_length f i (fields_of (known ++ more) location (instruction_size f i) f i) fits

-- more names may follow those that are known at a line
pub keeps_size : (known more names : Names) (here : Option Location) (location : Location) (line : Line) (form : Option Form) (size : ℕ)
    → early_fault known here line form ≡ None → size ≡ size_of known line.statement form → names ≡ known ++ more
    → HasSizeAt names location size (content_of line.statement form)
keeps_size known more names here location line form size clean is all named fits =
    let at : size_of known line.statement form ≡ size = sym is in
    let by : known ++ more ≡ names = sym all in
    subst (λ (n : Names). HasSizeAt n location size (content_of line.statement form)) by
    (subst (λ (k : ℕ). HasSizeAt (known ++ more) location k (content_of line.statement form)) at
    (statement_length known more location line.statement form (counts_known known here line form clean)))
    named fits
