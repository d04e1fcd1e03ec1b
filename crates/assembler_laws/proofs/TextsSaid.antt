-- The text of an instruction is read as the line that it says.
use Rattle.std.proofs.Common.{◌≡◌, ◌∙◌, ℕ, List, [], ◌∷◌, ◌++◌, map, flat_map, append-nil, refl, sym, ap}
use Rattle.std.proofs.Common.{subst, inl, inr, Bool, true, false, if◌then◌else◌, Option, None, Some, Ok}
use Rattle.std.specs.Option.{option_map}
use Rattle.isa.specs.declared.operation.Operation.{Operation}
use Rattle.isa.specs.declared.operation.Operation.TheVariants.{Arithmetic, Shift, Product, Unary, Jump, Looping, Strings, Adjust, Transfer, Control, Processor}
use Rattle.isa.specs.declared.operation.Control.TheVariants as control
use Rattle.isa.specs.declared.operation.Transfer.TheVariants as transfer
use Rattle.isa.specs.declared.register.ByteRegister.TheVariants as byte_registers
use Rattle.isa.specs.declared.register.WordRegister.{WordRegister}
use Rattle.isa.specs.declared.register.WordRegister.TheVariants as word_registers
use Rattle.isa.specs.declared.register.SegmentRegister.TheVariants as segment_registers
use Rattle.isa.specs.declared.form.Base.{Base}
use Rattle.isa.specs.declared.form.Base.TheVariants as bases
use Rattle.isa.specs.declared.form.Prefix.{Prefix}
use Rattle.isa.specs.declared.form.Prefix.TheVariants as prefixes
use Rattle.isa.specs.declared.form.Repeat.TheVariants as repeats
use Rattle.isa.specs.declared.form.Form.{Form}
use Rattle.isa.specs.declared.form.Values.{Values}
use Rattle.isa.specs.declared.form.Instr.{Instr}
use Rattle.isa.specs.Row.{first_of, operation_of, second_of}
use Rattle.isa.specs.Encoding.{FitsForm}
use Rattle.dialect.specs.declared.keyword.Keyword.{Keyword}
use Rattle.dialect.specs.declared.keyword.Keyword.TheVariants as keywords
use Rattle.dialect.specs.declared.meaning.Meaning.TheVariants as meanings
use Rattle.dialect.specs.declared.mnemonic.Mnemonic.{Mnemonic}
use Rattle.dialect.specs.declared.mnemonic.Mnemonic.TheVariants as mnemonics
use Rattle.dialect.specs.declared.register.Register.{Register as RegisterType}
use Rattle.dialect.specs.declared.register.Register.TheVariants as registers
use Rattle.dialect.specs.DialectLaws.{KeywordsAreRead, OperationsAreRead, PrefixesAreRead, RegistersAreRead, StandsFor}
use Rattle.dialect.specs.Names.{keyword_name, mnemonic_name, operation_name, prefix_name, register_name, word_register_name}
use Rattle.dialect.specs.Words.{meaning_of, spells, words}
use Rattle.disassembler.specs.declared.written.Memory.{Memory as WrittenMemory}
use Rattle.disassembler.specs.declared.written.Written.{Written}
use Rattle.disassembler.specs.declared.written.Written.TheVariants.{Nothing, Register, One, Byte, Word, Short, Far, Memory}
use Rattle.disassembler.specs.Text.{address_text, base_text, body_text, instr_text, is_nop, memory_text, operand_text}
use Rattle.disassembler.specs.Text.{operands_text, plain_text, prefix_text, second_text, size_text, word_text}
use Rattle.assembler_lexeme.specs.declared.token.Token.{Token}
use Rattle.assembler_lexeme.specs.declared.token.Token.TheVariants as tokens
use Rattle.assembler_lexeme.specs.declared.token.Punctuator.TheVariants as punctuators
use Rattle.assembler_lexeme.specs.Lexemes.{lexemes}
use Rattle.assembler_lexeme.specs.Tokens.{number_token, token_of}
use Rattle.assembler_syntax.specs.declared.operand.Operand.{Operand}
use Rattle.assembler_syntax.specs.Lines.{line_of, read_line}
use Rattle.assembler_syntax.specs.Spelling.{address_tokens, base_tokens, inner_tokens, line_tokens, operand_tokens}
use Rattle.assembler_syntax.specs.Spelling.{prefix_tokens, register, size_tokens, with_commas, word}
use Rattle.assembler_syntax.specs.SyntaxLaws.{EachLineIsRead}
use Rattle.assembler_laws.specs.SaidTexts.{first_written, mnemonic_in, next_of, number, operands_in, said_address}
use Rattle.assembler_laws.specs.SaidTexts.{said_line, said_mnemonic, said_operands, said_size, second_written, TextsAreRead}
use Rattle.assembler_laws.proofs.Operations.{each_operation}
use Rattle.assembler_laws.proofs.TextPieces.{is_plain, open_says, opens_blank, opens_punctuator, opens_opens, opens_then, reads_nothing}
use Rattle.assembler_laws.proofs.TextPieces.{says_byte, says_meant, says_number, says_opens, says_then, says_word, Opens, Reads, Says}
use Rattle.assembler_laws.proofs.WrittenOperands.{operand_said, operand_written, operands_in_fine, said_is}
use Rattle.assembler_laws.proofs.WrittenOperands.{said_with_first, IsAddress, IsSizeWord, IsWritten, MayBeWritten}

-- ---- marks
opens_comma : Opens (44 ∷ []) (tokens.Punctuator punctuators.Comma ∷ [])
unfolding token_of
opens_comma = opens_punctuator 44 (tokens.Punctuator punctuators.Comma) (λ rest. refl) refl refl

opens_colon : Opens (58 ∷ []) (tokens.Punctuator punctuators.Colon ∷ [])
unfolding token_of
opens_colon = opens_punctuator 58 (tokens.Punctuator punctuators.Colon) (λ rest. refl) refl refl

opens_plus : Opens (43 ∷ []) (tokens.Punctuator punctuators.Plus ∷ [])
unfolding token_of
opens_plus = opens_punctuator 43 (tokens.Punctuator punctuators.Plus) (λ rest. refl) refl refl

opens_bracket : Opens (91 ∷ []) (tokens.Punctuator punctuators.OpenBracket ∷ [])
unfolding token_of
opens_bracket = opens_punctuator 91 (tokens.Punctuator punctuators.OpenBracket) (λ rest. refl) refl refl

closes_bracket : Opens (93 ∷ []) (tokens.Punctuator punctuators.CloseBracket ∷ [])
unfolding token_of
closes_bracket = opens_punctuator 93 (tokens.Punctuator punctuators.CloseBracket) (λ rest. refl) refl refl

-- ---- words
plain_byte : (r : _) → is_plain (register_name (registers.Byte r)) ≡ true
unfolding words
plain_byte byte_registers.Al = refl
plain_byte byte_registers.Cl = refl
plain_byte byte_registers.Dl = refl
plain_byte byte_registers.Bl = refl
plain_byte byte_registers.Ah = refl
plain_byte byte_registers.Ch = refl
plain_byte byte_registers.Dh = refl
plain_byte byte_registers.Bh = refl

plain_word : (r : WordRegister) → is_plain (register_name (registers.Word r)) ≡ true
unfolding words
plain_word word_registers.Ax = refl
plain_word word_registers.Cx = refl
plain_word word_registers.Dx = refl
plain_word word_registers.Bx = refl
plain_word word_registers.Sp = refl
plain_word word_registers.Bp = refl
plain_word word_registers.Si = refl
plain_word word_registers.Di = refl

plain_segment : (r : _) → is_plain (register_name (registers.Segment r)) ≡ true
unfolding words
plain_segment segment_registers.Es = refl
plain_segment segment_registers.Cs = refl
plain_segment segment_registers.Ss = refl
plain_segment segment_registers.Ds = refl

plain_register : (r : RegisterType) → is_plain (register_name r) ≡ true
plain_register (registers.Byte r) = plain_byte r
plain_register (registers.Word r) = plain_word r
plain_register (registers.Segment r) = plain_segment r

one_token : token_of (49 ∷ []) ≡ Some tokens.One
unfolding token_of number_token
one_token = refl

says_one : Says (49 ∷ []) (tokens.One ∷ [])
says_one = says_word 49 [] tokens.One refl one_token

text_with_first : (v w : Written) → IsWritten v → operands_text v w ≡ 32 ∷ (operand_text v ++ second_text w)
text_with_first Nothing w is = absurd is
text_with_first (Register r) w is = refl
text_with_first One w is = refl
text_with_first (Byte n) w is = refl
text_with_first (Word n) w is = refl
text_with_first (Short n) w is = refl
text_with_first (Far s o) w is = refl
text_with_first (Memory m) w is = refl

text_of_second : (w : Written) → IsWritten w → second_text w ≡ 44 ∷ operand_text w
text_of_second Nothing is = absurd is
text_of_second (Register r) is = refl
text_of_second One is = refl
text_of_second (Byte n) is = refl
text_of_second (Word n) is = refl
text_of_second (Short n) is = refl
text_of_second (Far s o) is = refl
text_of_second (Memory m) is = refl

-- the operands after a mnemonic
abbrev tokens_said : List Operand → List Token
tokens_said os = with_commas (map operand_tokens os)

-- ---- the mnemonic
all_plain : (o : Operation) → is_plain (operation_name o) ≡ true
unfolding words
all_plain o = each_operation (λ o. is_plain (operation_name o)) refl o

abbrev Means : List ℕ → Mnemonic → Type 0
Means name m = meaning_of name ≡ Some (meanings.Mnemonic m)

control_means : (c : _) → Means (operation_name (Control c)) (said_mnemonic (Control c))
unfolding words meaning_of spells
control_means control.Jmp = refl
control_means control.Call = refl
control_means control.Ret = refl
control_means control.JmpFar = refl
control_means control.CallFar = refl
control_means control.Retf = refl
control_means control.Int3 = refl
control_means control.Int = refl
control_means control.Into = refl
control_means control.Iret = refl

transfer_means : (t : _) → Means (operation_name (Transfer t)) (mnemonics.Plain (Transfer t))
unfolding words meaning_of spells
transfer_means transfer.Mov = refl
transfer_means transfer.Xchg = refl
transfer_means transfer.Lea = refl
transfer_means transfer.Les = refl
transfer_means transfer.Lds = refl
transfer_means transfer.Push = refl
transfer_means transfer.Pop = refl
transfer_means transfer.Pushf = refl
transfer_means transfer.Popf = refl
transfer_means transfer.Sahf = refl
transfer_means transfer.Lahf = refl
transfer_means transfer.Xlat = refl
transfer_means transfer.In = refl
transfer_means transfer.Out = refl

some_same : (o p : Operation) → Some o ≡ Some p → o ≡ p
some_same o p is = cc

-- a mnemonic of an operation that isn't JMP, CALL or XCHG
plain_stands : (o : Operation) → ((c : _) → Control c ≡ o → ⊥) → ((t : _) → Transfer t ≡ o → ⊥) → (m : Mnemonic) → StandsFor m o → m ≡ mnemonics.Plain o
plain_stands o not_control not_transfer (mnemonics.Plain p) (inl is) = ap mnemonics.Plain is
plain_stands o not_control not_transfer (mnemonics.Plain p) (inr is) = absurd (let never : None ≡ Some o = is in cc)
plain_stands o not_control not_transfer mnemonics.Jmp (inl is) = absurd (not_control control.Jmp is)
plain_stands o not_control not_transfer mnemonics.Jmp (inr is) = absurd (not_control control.JmpFar (some_same (Control control.JmpFar) o is))
plain_stands o not_control not_transfer mnemonics.Call (inl is) = absurd (not_control control.Call is)
plain_stands o not_control not_transfer mnemonics.Call (inr is) = absurd (not_control control.CallFar (some_same (Control control.CallFar) o is))
plain_stands o not_control not_transfer mnemonics.Nop (inl is) = absurd (not_transfer transfer.Xchg is)
plain_stands o not_control not_transfer mnemonics.Nop (inr is) = absurd (let never : None ≡ Some o = is in cc)

nop_means : Means (mnemonic_name mnemonics.Nop) mnemonics.Nop
unfolding words meaning_of spells
nop_means = refl

nop_plain : is_plain (mnemonic_name mnemonics.Nop) ≡ true
unfolding words
nop_plain = refl

lock_plain : is_plain (prefix_name prefixes.Lock) ≡ true
unfolding words
lock_plain = refl

repne_plain : is_plain (prefix_name (prefixes.Repeat repeats.Repne)) ≡ true
unfolding words
repne_plain = refl

rep_plain : is_plain (prefix_name (prefixes.Repeat repeats.Rep)) ≡ true
unfolding words
rep_plain = refl

byte_plain : is_plain (keyword_name keywords.Byte) ≡ true
unfolding words
byte_plain = refl

word_plain : is_plain (keyword_name keywords.Word) ≡ true
unfolding words
word_plain = refl

far_plain : is_plain (keyword_name keywords.Far) ≡ true
unfolding words
far_plain = refl

short_plain : is_plain (keyword_name keywords.Short) ≡ true
unfolding words
short_plain = refl

abbrev mnemonic_token : Mnemonic → Token
mnemonic_token m = tokens.Word (meanings.Mnemonic m)

whole : (text : List ℕ) (ts : List Token) → Says text ts → Reads text ts
whole text ts says =
    subst (λ (xs : List ℕ). Reads xs ts) (append-nil text) (subst (λ (us : List Token). Reads (text ++ []) us) (append-nil ts) (says [] [] refl reads_nothing))

read_by : (text : List ℕ) (l : _) → Reads text (line_tokens l) → line_of (line_tokens l) ≡ Ok l → read_line text ≡ Ok l
unfolding read_line lexemes
read_by text l reads is = rw (reads.characters, reads.tokens) is

-- what is known of words and lines
pub record AreRead : Type 0 where
  pub operations : OperationsAreRead
  pub registers : RegistersAreRead
  pub prefixes : PrefixesAreRead
  pub keywords : KeywordsAreRead
  pub lines : EachLineIsRead

module _ (words : AreRead) where
  says_register : (r : RegisterType) → Says (register_name r) (register r ∷ [])
  says_register r = says_meant (register_name r) (meanings.Register r) (plain_register r) (words.registers r)

  says_keyword : (k : Keyword) → is_plain (keyword_name k) ≡ true → Says (keyword_name k) (tokens.Word (meanings.Keyword k) ∷ [])
  says_keyword k plain = says_meant (keyword_name k) (meanings.Keyword k) plain (words.keywords k)

  -- a keyword with a blank after it
  opens_keyword : (k : Keyword) → is_plain (keyword_name k) ≡ true → Opens (keyword_name k ++ 32 ∷ []) (tokens.Word (meanings.Keyword k) ∷ [])
  opens_keyword k plain = says_opens (keyword_name k) 32 [] (tokens.Word (meanings.Keyword k) ∷ []) [] refl (says_keyword k plain) opens_blank

  -- ---- prefixes
  opens_segment : (r : _) → Opens (prefix_text (prefixes.Segment r)) (prefix_tokens (prefixes.Segment r))
  opens_segment r =
      says_opens (register_name (registers.Segment r)) 58 (32 ∷ []) (register (registers.Segment r) ∷ []) (tokens.Punctuator punctuators.Colon ∷ []) refl
      (says_register (registers.Segment r)) (opens_opens (58 ∷ []) (32 ∷ []) (tokens.Punctuator punctuators.Colon ∷ []) [] opens_colon opens_blank)

  opens_prefix_word : (p : Prefix) → is_plain (prefix_name p) ≡ true → meaning_of (prefix_name p) ≡ Some (meanings.Prefix p)
      → Opens (prefix_name p ++ 32 ∷ []) (tokens.Word (meanings.Prefix p) ∷ [])
  opens_prefix_word p plain means =
      says_opens (prefix_name p) 32 [] (tokens.Word (meanings.Prefix p) ∷ []) [] refl (says_meant (prefix_name p) (meanings.Prefix p) plain means) opens_blank

  opens_prefix : (p : Prefix) → Opens (prefix_text p) (prefix_tokens p)
  opens_prefix (prefixes.Segment r) = opens_segment r
  opens_prefix prefixes.Lock = opens_prefix_word prefixes.Lock lock_plain (words.prefixes prefixes.Lock)
  opens_prefix (prefixes.Repeat repeats.Repne) = opens_prefix_word (prefixes.Repeat repeats.Repne) repne_plain (words.prefixes (prefixes.Repeat repeats.Repne))
  opens_prefix (prefixes.Repeat repeats.Rep) = opens_prefix_word (prefixes.Repeat repeats.Rep) rep_plain (words.prefixes (prefixes.Repeat repeats.Rep))

  opens_prefixes : (ps : List Prefix) → Opens (flat_map prefix_text ps) (flat_map prefix_tokens ps)
  opens_prefixes [] = λ rest us reads. reads
  opens_prefixes (p ∷ ps) =
      opens_opens (prefix_text p) (flat_map prefix_text ps) (prefix_tokens p) (flat_map prefix_tokens ps) (opens_prefix p) (opens_prefixes ps)

  -- ---- places in memory
  says_word_register : (r : WordRegister) → Says (word_register_name r) (word r ∷ [])
  says_word_register r = says_register (registers.Word r)

  says_two : (r s : WordRegister) → Says (word_register_name r ++ 43 ∷ word_register_name s) (word r ∷ tokens.Punctuator punctuators.Plus ∷ word s ∷ [])
  says_two r s =
      says_then (word_register_name r) 43 (word_register_name s) (word r ∷ []) (tokens.Punctuator punctuators.Plus ∷ word s ∷ []) refl (says_word_register r)
      (opens_then (43 ∷ []) (word_register_name s) (tokens.Punctuator punctuators.Plus ∷ []) (word s ∷ []) opens_plus (says_word_register s))

  says_base : (b : Base) → Says (base_text b) (base_tokens b)
  says_base bases.BxSi = says_two word_registers.Bx word_registers.Si
  says_base bases.BxDi = says_two word_registers.Bx word_registers.Di
  says_base bases.BpSi = says_two word_registers.Bp word_registers.Si
  says_base bases.BpDi = says_two word_registers.Bp word_registers.Di
  says_base bases.Si = says_word_register word_registers.Si
  says_base bases.Di = says_word_register word_registers.Di
  says_base bases.Bp = says_word_register word_registers.Bp
  says_base bases.Bx = says_word_register word_registers.Bx

  says_address : (b : Option Base) (d : Option ℕ) → IsAddress b d → Says (address_text b d) (inner_tokens b (option_map number d))
  says_address None None is = absurd is
  says_address None (Some d) is = says_number d is
  says_address (Some b) None is = says_base b
  says_address (Some b) (Some d) is =
      says_then (base_text b) 43 (word_text d) (base_tokens b) (tokens.Punctuator punctuators.Plus ∷ tokens.Number d ∷ []) refl (says_base b)
      (opens_then (43 ∷ []) (word_text d) (tokens.Punctuator punctuators.Plus ∷ []) (tokens.Number d ∷ []) opens_plus (says_number d is))

  opens_size : (s : Option Keyword) → IsSizeWord s → Opens (size_text s) (size_tokens (said_size s))
  opens_size None is = λ rest us reads. reads
  opens_size (Some keywords.Byte) is = opens_keyword keywords.Byte byte_plain
  opens_size (Some keywords.Word) is = opens_keyword keywords.Word word_plain
  opens_size (Some keywords.Far) is = opens_keyword keywords.Far far_plain
  opens_size (Some _) is = absurd is

  says_memory : (m : WrittenMemory) → IsSizeWord m.size → IsAddress m.base m.displacement → Says (memory_text m) (address_tokens (said_address m))
  says_memory m size is =
      let inner : List Token = inner_tokens m.base (option_map number m.displacement) in
      opens_then (size_text m.size) (91 ∷ (address_text m.base m.displacement ++ 93 ∷ [])) (size_tokens (said_size m.size))
      (tokens.Punctuator punctuators.OpenBracket ∷ (inner ++ tokens.Punctuator punctuators.CloseBracket ∷ [])) (opens_size m.size size)
      (opens_then (91 ∷ []) (address_text m.base m.displacement ++ 93 ∷ [])
      (tokens.Punctuator punctuators.OpenBracket ∷ []) (inner ++ tokens.Punctuator punctuators.CloseBracket ∷ [])
      opens_bracket
      (says_then (address_text m.base m.displacement) 93 [] inner (tokens.Punctuator punctuators.CloseBracket ∷ []) refl (says_address m.base m.displacement is)
      (open_says (93 ∷ []) (tokens.Punctuator punctuators.CloseBracket ∷ []) closes_bracket)))

  says_operand : (w : Written) → IsWritten w → Says (operand_text w) (operand_tokens (operand_said w))
  unfolding words
  says_operand Nothing is = absurd is
  says_operand (Register r) is = says_register r
  says_operand One is = says_one
  says_operand (Byte n) is = says_byte n is
  says_operand (Word n) is = says_number n is
  says_operand (Short n) is =
      opens_then (keyword_name keywords.Short ++ 32 ∷ []) (word_text n) (tokens.Word (meanings.Keyword keywords.Short) ∷ []) (tokens.Number n ∷ [])
      (opens_keyword keywords.Short short_plain) (says_number n is)
  says_operand (Far s o) is =
      opens_then (keyword_name keywords.Far ++ 32 ∷ []) (word_text s ++ 58 ∷ word_text o) (tokens.Word (meanings.Keyword keywords.Far) ∷ [])
      (tokens.Number s ∷ tokens.Punctuator punctuators.Colon ∷ tokens.Number o ∷ []) (opens_keyword keywords.Far far_plain)
      (says_then (word_text s) 58 (word_text o) (tokens.Number s ∷ []) (tokens.Punctuator punctuators.Colon ∷ tokens.Number o ∷ []) refl (says_number s is.0)
      (opens_then (58 ∷ []) (word_text o) (tokens.Punctuator punctuators.Colon ∷ []) (tokens.Number o ∷ []) opens_colon (says_number o is.1)))
  says_operand (Memory m) is = says_memory m is.0 is.1

  says_with : (name : List ℕ) (t : Token) → Says name (t ∷ []) → (v w : Written) → MayBeWritten v → MayBeWritten w
      → Says (name ++ operands_text v w) (t ∷ tokens_said (said_operands v w))
  says_with name t says v w (inl none) here =
      subst (λ (x : Written). Says (name ++ operands_text x w) (t ∷ tokens_said (said_operands x w))) (sym none)
      (subst (λ (xs : List ℕ). Says xs (t ∷ [])) (sym (append-nil name)) says)
  says_with name t says v w (inr is) (inl none) =
      subst (λ (x : Written). Says (name ++ operands_text v x) (t ∷ tokens_said (said_operands v x))) (sym none)
      (subst (λ (xs : List ℕ). Says (name ++ xs) (t ∷ tokens_said (said_operands v Nothing)))
      (sym (text_with_first v Nothing is ∙ ap (λ (xs : List ℕ). 32 ∷ xs) (append-nil (operand_text v))))
      (subst (λ (os : List Operand). Says (name ++ 32 ∷ operand_text v) (t ∷ tokens_said os)) (sym (said_with_first v Nothing is))
      (says_then name 32 (operand_text v) (t ∷ []) (operand_tokens (operand_said v)) refl says
      (opens_then (32 ∷ []) (operand_text v) [] (operand_tokens (operand_said v)) opens_blank (says_operand v is)))))
  says_with name t says v w (inr is) (inr there) =
      subst (λ (xs : List ℕ). Says (name ++ xs) (t ∷ tokens_said (said_operands v w)))
      (sym (text_with_first v w is ∙ ap (λ (xs : List ℕ). 32 ∷ (operand_text v ++ xs)) (text_of_second w there)))
      (subst (λ (os : List Operand). Says (name ++ 32 ∷ (operand_text v ++ 44 ∷ operand_text w)) (t ∷ tokens_said os))
      (sym (said_with_first v w is ∙ ap (λ (os : List Operand). operand_said v ∷ os) (said_is w there)))
      (says_then name 32 (operand_text v ++ 44 ∷ operand_text w) (t ∷ [])
      (operand_tokens (operand_said v) ++ tokens.Punctuator punctuators.Comma ∷ operand_tokens (operand_said w)) refl says
      (opens_then (32 ∷ []) (operand_text v ++ 44 ∷ operand_text w) []
      (operand_tokens (operand_said v) ++ tokens.Punctuator punctuators.Comma ∷ operand_tokens (operand_said w)) opens_blank
      (says_then (operand_text v) 44 (operand_text w) (operand_tokens (operand_said v))
      (tokens.Punctuator punctuators.Comma ∷ operand_tokens (operand_said w)) refl (says_operand v is)
      (opens_then (44 ∷ []) (operand_text w) (tokens.Punctuator punctuators.Comma ∷ [])
      (operand_tokens (operand_said w)) opens_comma (says_operand w there))))))

  plain_means : (o : Operation) → ((c : _) → Control c ≡ o → ⊥) → ((t : _) → Transfer t ≡ o → ⊥) → Means (operation_name o) (mnemonics.Plain o)
  plain_means o not_control not_transfer =
      let read = words.operations o in
      read.1 ∙ ap (λ m. Some (meanings.Mnemonic m)) (plain_stands o not_control not_transfer read.0 read.2)

  operation_means : (o : Operation) → Means (operation_name o) (said_mnemonic o)
  operation_means (Control c) = control_means c
  operation_means (Transfer t) = transfer_means t
  operation_means (Arithmetic x) = plain_means (Arithmetic x) (λ c is. cc) (λ t is. cc)
  operation_means (Shift x) = plain_means (Shift x) (λ c is. cc) (λ t is. cc)
  operation_means (Product x) = plain_means (Product x) (λ c is. cc) (λ t is. cc)
  operation_means (Unary x) = plain_means (Unary x) (λ c is. cc) (λ t is. cc)
  operation_means (Jump x) = plain_means (Jump x) (λ c is. cc) (λ t is. cc)
  operation_means (Looping x) = plain_means (Looping x) (λ c is. cc) (λ t is. cc)
  operation_means (Strings x) = plain_means (Strings x) (λ c is. cc) (λ t is. cc)
  operation_means (Adjust x) = plain_means (Adjust x) (λ c is. cc) (λ t is. cc)
  operation_means (Processor x) = plain_means (Processor x) (λ c is. cc) (λ t is. cc)

  -- ---- the body
  says_plain : (f : Form) (v : Values) (next : ℕ) → FitsForm f v
      → Says (plain_text f v next)
      (mnemonic_token (said_mnemonic (operation_of f.row)) ∷ tokens_said (said_operands (first_written f v next) (second_written f v next)))
  says_plain f v next fits =
      let o = operation_of f.row in
      says_with (operation_name o) (mnemonic_token (said_mnemonic o))
      (says_meant (operation_name o) (meanings.Mnemonic (said_mnemonic o)) (all_plain o) (operation_means o)) (first_written f v next) (second_written f v next)
      (operand_written f v next (first_of f.row) (second_of f.row) fits) (operand_written f v next (second_of f.row) (first_of f.row) fits)

  says_nop : Says (mnemonic_name mnemonics.Nop) (mnemonic_token mnemonics.Nop ∷ [])
  says_nop = says_meant (mnemonic_name mnemonics.Nop) (meanings.Mnemonic mnemonics.Nop) nop_plain nop_means

  says_body : (f : Form) (v : Values) (next : ℕ) → FitsForm f v
      → Says (body_text f v next) (mnemonic_token (mnemonic_in f) ∷ tokens_said (operands_in f v next))
  unfolding body_text
  says_body f v next fits = by (is_nop f)
    where
      by : (b : Bool)
          → Says (if b then mnemonic_name mnemonics.Nop else plain_text f v next)
          (mnemonic_token (if b then mnemonics.Nop else said_mnemonic (operation_of f.row))
          ∷ tokens_said (if b then [] else said_operands (first_written f v next) (second_written f v next)))
      by true = says_nop
      by false = says_plain f v next fits

  says_text : (i : Instr) (ip : ℕ) → FitsForm i.form i.values → Says (instr_text i ip) (line_tokens (said_line i ip))
  unfolding instr_text
  says_text i ip fits =
      opens_then (flat_map prefix_text i.prefixes.items) (body_text i.form i.values (next_of i ip)) (flat_map prefix_tokens i.prefixes.items)
      (mnemonic_token (mnemonic_in i.form) ∷ tokens_said (operands_in i.form i.values (next_of i ip))) (opens_prefixes i.prefixes.items)
      (says_body i.form i.values (next_of i ip) fits)

  pub texts_are_read : TextsAreRead
  texts_are_read i ip is =
      read_by (instr_text i ip) (said_line i ip) (whole (instr_text i ip) (line_tokens (said_line i ip)) (says_text i ip is.values))
      (words.lines (said_line i ip) (operands_in_fine i.form i.values (next_of i ip) is.values))
