-- Each spelling of an item is read.
use Rattle.std.proofs.Common.{◌≡◌, ◌∙◌, ℕ, true, false, List, [], ◌∷◌, ◌++◌, refl, sym, ap, subst, Option, Result, Ok}
use Rattle.dialect.specs.declared.meaning.Meaning.TheVariants as meanings
use Rattle.dialect.specs.declared.keyword.Keyword.TheVariants as keywords
use Rattle.assembler_lexeme.specs.declared.fault.SyntaxFault.{SyntaxFault}
use Rattle.assembler_lexeme.specs.declared.token.Token.{Token}
use Rattle.assembler_lexeme.specs.declared.token.Token.TheVariants.{Quoted, Word, Punctuator}
use Rattle.assembler_lexeme.specs.declared.token.Punctuator.TheVariants.{OpenParenthesis, CloseParenthesis}
use Rattle.assembler_lexeme.specs.Faults.{◌>>=◌}
use Rattle.assembler_syntax.specs.declared.expression.Term.{Term}
use Rattle.assembler_syntax.specs.declared.statement.DataWidth.{DataWidth}
use Rattle.assembler_syntax.specs.declared.statement.DataWidth.TheVariants as widths
use Rattle.assembler_syntax.specs.declared.statement.Piece.{Piece}
use Rattle.assembler_syntax.specs.declared.statement.Piece.TheVariants as pieces
use Rattle.assembler_syntax.specs.declared.statement.Item.{Item}
use Rattle.assembler_syntax.specs.declared.statement.Item.TheVariants as items
use Rattle.assembler_syntax.specs.PartSteps.{onto_part, closed, is_dup, is_close_parenthesis}
use Rattle.assembler_syntax.specs.ItemSteps.{value_piece, single_piece, piece_of, pieces_of, in_parentheses, repeated, item_by, item_of, items_of}
use Rattle.assembler_syntax.specs.StatementSteps.{is_equ}
use Rattle.assembler_syntax.specs.Spelling.{keyword}
use Rattle.assembler_syntax.specs.Spellings.{Exactly, InTurn, SpellsConstant, SpellsItem, SpellsPiece, WithCommas}
use Rattle.assembler_syntax.proofs.Around.{AllPass, EachPasses, around_none, around_one, commas_pass, exactly_passes, fails, is_plain, pass_too, turn_passes}
use Rattle.assembler_syntax.proofs.EachTerms.{Begins, begins_value, constant_read, expression_begins, expression_read, led, plain_expression}
use Rattle.assembler_syntax.proofs.EachLists.{Whole, commas_read, is_calm, is_enclosed, keeps_both}
use Rattle.assembler_syntax.proofs.EachLists.{keeps_calm, keeps_enclosed, plain_is_calm, plain_is_enclosed}

-- ---- pieces
single_value : (width : DataWidth) (t : Token) → begins_value t ≡ true → single_piece width t ≡ value_piece (t ∷ [])
single_value widths.Byte (Quoted text) is = absurd (cc)
single_value widths.Byte t is = refl
single_value widths.Word t is = refl
single_value widths.Double t is = refl

piece_by : (width : DataWidth) (t : Token) (ts : List Token) → begins_value t ≡ true → piece_of width (t ∷ ts) ≡ value_piece (t ∷ ts)
unfolding piece_of
piece_by width t [] is = single_value width t is
piece_by width t (u ∷ ts) is = refl

value_begins : (width : DataWidth) (ts : List Token) → Begins ts → piece_of width ts ≡ value_piece ts
value_begins width ts b = ap (piece_of width) b.are ∙ piece_by width b.first b.rest b.is ∙ sym (ap value_piece b.are)

text_read : (width : DataWidth) (text : List ℕ) → width ≡ widths.Byte → piece_of width (Quoted text ∷ []) ≡ Ok (pieces.Text text)
unfolding piece_of
text_read widths.Byte text is = refl
text_read widths.Word text is = absurd (cc)
text_read widths.Double text is = absurd (cc)

piece_read : (width : DataWidth) (piece : Piece) (ts : List Token) → SpellsPiece width piece ts → piece_of width ts ≡ Ok piece
piece_read width (pieces.Value e) ts is =
    value_begins width ts (expression_begins e ts is) ∙ ap (λ (r : Result (List Term) SyntaxFault). r >>= λ e. Ok (pieces.Value e)) (expression_read e ts is)
piece_read width (pieces.Text text) ts is = ap (piece_of width) is.0 ∙ text_read width text is.1

plain_piece : (width : DataWidth) (piece : Piece) → EachPasses is_plain (SpellsPiece width piece)
plain_piece width (pieces.Value e) ts is = plain_expression e ts is
plain_piece width (pieces.Text text) ts is = exactly_passes is_plain (Quoted text ∷ []) refl ts is.0

calm_piece : (width : DataWidth) (piece : Piece) → EachPasses is_calm (SpellsPiece width piece)
calm_piece width piece ts is = pass_too is_plain is_calm plain_is_calm ts (plain_piece width piece ts is)

whole_piece : (width : DataWidth) (piece : Piece) (ts : List Token) → SpellsPiece width piece ts → Whole ts
whole_piece width piece ts is = keeps_calm false ts (calm_piece width piece ts is)

pieces_read : (width : DataWidth) (each : List Piece) (ts : List Token) → WithCommas (SpellsPiece width) each ts → pieces_of width ts ≡ Ok each
unfolding pieces_of
pieces_read width each ts is = commas_read (piece_of width) (SpellsPiece width) (whole_piece width) (piece_read width) each ts is

-- ---- pieces in parentheses
enclosed_pieces : (width : DataWidth) (each : List Piece) → EachPasses is_enclosed (WithCommas (SpellsPiece width) each)
enclosed_pieces width each =
    commas_pass is_enclosed refl (SpellsPiece width) (λ piece ts is. pass_too is_plain is_enclosed plain_is_enclosed ts (plain_piece width piece ts is)) each

enclosed_is_open : (t : Token) → is_enclosed t ≡ true → fails is_close_parenthesis t ≡ true
enclosed_is_open (Punctuator CloseParenthesis) is = cc
enclosed_is_open t is = refl

abbrev enclosed : List Token → List Token
enclosed ts = Punctuator OpenParenthesis ∷ (ts ++ Punctuator CloseParenthesis ∷ [])

enclosed_read : (ts : List Token) → AllPass is_enclosed ts → in_parentheses (enclosed ts) ≡ Ok ts
enclosed_read ts all =
    ap closed
    (around_one is_close_parenthesis ts (Punctuator CloseParenthesis) [] (pass_too is_enclosed (fails is_close_parenthesis) enclosed_is_open ts all) refl)

repeated_read : (width : DataWidth) (count : List Term) (each : List Piece) (front ts : List Token)
    → SpellsConstant count front → WithCommas (SpellsPiece width) each ts → repeated width front (enclosed ts) ≡ Ok (items.Repeated count each)
unfolding repeated
repeated_read width count each front ts is all =
    ap (λ (r : Result (List Term) SyntaxFault). r >>= λ c. in_parentheses (enclosed ts) >>= λ inner. pieces_of width inner >>= λ ps. Ok (items.Repeated c ps))
    (constant_read count front is)
    ∙ ap (λ (r : Result (List Token) SyntaxFault). r >>= λ inner. pieces_of width inner >>= λ ps. Ok (items.Repeated count ps))
    (enclosed_read ts (enclosed_pieces width each ts all))
    ∙ ap (λ (r : Result (List Piece) SyntaxFault). r >>= λ ps. Ok (items.Repeated count ps)) (pieces_read width each ts all)

-- ---- items
no_dup_passes : (t : Token) → is_plain t ≡ true → fails is_dup t ≡ true
no_dup_passes (Word (meanings.Keyword keywords.Dup)) is = cc
no_dup_passes t is = refl

once_read : (width : DataWidth) (piece : Piece) (ts : List Token) → SpellsPiece width piece ts → item_of width ts ≡ Ok (items.Once piece)
unfolding item_of
once_read width piece ts is =
    ap (λ (found : Option (List Token × List Token)). item_by found width ts)
    (around_none is_dup ts (pass_too is_plain (fails is_dup) no_dup_passes ts (plain_piece width piece ts is)))
    ∙ ap (λ (r : Result Piece SyntaxFault). r >>= λ p. Ok (items.Once p)) (piece_read width piece ts is)

abbrev PlainCount : List Token → Type 0
PlainCount front = AllPass is_plain front

dup_read : (width : DataWidth) (front back : List Token) → PlainCount front → item_of width (front ++ keyword keywords.Dup ∷ back) ≡ repeated width front back
unfolding item_of
dup_read width front back plain =
    ap (λ (found : Option (List Token × List Token)). item_by found width (front ++ keyword keywords.Dup ∷ back))
    (around_one is_dup front (keyword keywords.Dup) back (pass_too is_plain (fails is_dup) no_dup_passes front plain) refl)

-- the tokens of pieces that are repeated
record Repeats (width : DataWidth) (count : List Term) (each : List Piece) (ts : List Token) : Type 0 where
  front : List Token
  inner : List Token
  are : ts ≡ front ++ keyword keywords.Dup ∷ enclosed inner
  counts : SpellsConstant count front
  pieces : WithCommas (SpellsPiece width) each inner

repeats : (width : DataWidth) (count : List Term) (each : List Piece) (ts : List Token)
    → SpellsItem width (items.Repeated count each) ts → Repeats width count each ts
repeats width count each ts is =
    let dup = led (keyword keywords.Dup ∷ Punctuator OpenParenthesis ∷ [])
    (InTurn (WithCommas (SpellsPiece width) each) (Exactly (Punctuator CloseParenthesis ∷ []))) is.back is.second in
    let inside = dup.other in
    record {
      front = is.front;
      inner = inside.front;
      are = is.are
          ∙ ap (λ (us : List Token). is.front ++ us)
          (dup.are ∙ ap (λ (us : List Token). keyword keywords.Dup ∷ Punctuator OpenParenthesis ∷ us)
          (inside.are ∙ ap (λ (us : List Token). inside.front ++ us) inside.second));
      counts = is.first;
      pieces = inside.first;
    }

item_read : (width : DataWidth) (item : Item) (ts : List Token) → SpellsItem width item ts → item_of width ts ≡ Ok item
item_read width (items.Once piece) ts is = once_read width piece ts is
item_read width (items.Repeated count each) ts is =
    let made = repeats width count each ts is in
    ap (item_of width) made.are
    ∙ dup_read width made.front (enclosed made.inner) (plain_expression count made.front made.counts.0)
    ∙ repeated_read width count each made.front made.inner made.counts made.pieces

calm_constant : (count : List Term) (front : List Token) → SpellsConstant count front → AllPass is_calm front
calm_constant count front is = pass_too is_plain is_calm plain_is_calm front (plain_expression count front is.0)

keeps_enclosing : (ts : List Token) → AllPass is_enclosed ts → Whole (keyword keywords.Dup ∷ enclosed ts)
keeps_enclosing ts all back =
    ap (λ (ps : List (List Token)). onto_part (keyword keywords.Dup) (onto_part (Punctuator OpenParenthesis) ps))
    (keeps_both true true false ts (Punctuator CloseParenthesis ∷ []) (keeps_enclosed ts all) (λ back. refl) back)

whole_item : (width : DataWidth) (item : Item) (ts : List Token) → SpellsItem width item ts → Whole ts
whole_item width (items.Once piece) ts is = whole_piece width piece ts is
whole_item width (items.Repeated count each) ts is =
    let made = repeats width count each ts is in
    subst Whole (sym made.are)
    (keeps_both false false false made.front (keyword keywords.Dup ∷ enclosed made.inner)
    (keeps_calm false made.front (calm_constant count made.front made.counts))
    (keeps_enclosing made.inner (enclosed_pieces width each made.inner made.pieces)))

pub items_read : (width : DataWidth) (its : List Item) (ts : List Token) → WithCommas (SpellsItem width) its ts → items_of width ts ≡ Ok its
unfolding items_of
items_read width its ts is = commas_read (item_of width) (SpellsItem width) (whole_item width) (item_read width) its ts is

-- ---- no EQU is among the tokens of an item
plain_no_equ : (t : Token) → is_plain t ≡ true → fails is_equ t ≡ true
plain_no_equ (Word (meanings.Keyword keywords.Equ)) is = cc
plain_no_equ t is = refl

pub constant_no_equ : (count : List Term) → EachPasses (fails is_equ) (SpellsConstant count)
constant_no_equ count ts is = pass_too is_plain (fails is_equ) plain_no_equ ts (plain_expression count ts is.0)

piece_no_equ : (width : DataWidth) (piece : Piece) → EachPasses (fails is_equ) (SpellsPiece width piece)
piece_no_equ width piece ts is = pass_too is_plain (fails is_equ) plain_no_equ ts (plain_piece width piece ts is)

item_no_equ : (width : DataWidth) (item : Item) → EachPasses (fails is_equ) (SpellsItem width item)
item_no_equ width (items.Once piece) = piece_no_equ width piece
item_no_equ width (items.Repeated count each) =
    turn_passes (fails is_equ) (SpellsConstant count) (InTurn (Exactly (keyword keywords.Dup ∷ Punctuator OpenParenthesis ∷ []))
    (InTurn (WithCommas (SpellsPiece width) each) (Exactly (Punctuator CloseParenthesis ∷ []))))
    (constant_no_equ count)
    (turn_passes (fails is_equ) (Exactly (keyword keywords.Dup ∷ Punctuator OpenParenthesis ∷ []))
    (InTurn (WithCommas (SpellsPiece width) each) (Exactly (Punctuator CloseParenthesis ∷ [])))
    (exactly_passes (fails is_equ) (keyword keywords.Dup ∷ Punctuator OpenParenthesis ∷ []) refl)
    (turn_passes (fails is_equ) (WithCommas (SpellsPiece width) each) (Exactly (Punctuator CloseParenthesis ∷ []))
    (commas_pass (fails is_equ) refl (SpellsPiece width) (piece_no_equ width) each)
    (exactly_passes (fails is_equ) (Punctuator CloseParenthesis ∷ []) refl)))

pub items_no_equ : (width : DataWidth) (its : List Item) → EachPasses (fails is_equ) (WithCommas (SpellsItem width) its)
items_no_equ width its = commas_pass (fails is_equ) refl (SpellsItem width) (item_no_equ width) its
