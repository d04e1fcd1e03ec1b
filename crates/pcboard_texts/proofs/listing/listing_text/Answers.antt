use Rattle.std.proofs.Common.{ℕ, ◌≡◌, ◌∙◌, ◌++◌, [], ◌∷◌, List, string_bytes, sym, ap, arith, Some, option_map, drop}
use Rattle.board_types.specs.TextLines.{text_lines}
use Rattle.assembler.specs.Listing.{line_at}
use Rattle.assembler.specs.LocatedLines.{LocatedLine, names_of}
use Rattle.pcboard_texts.specs.Answer.{listing_text}
use Rattle.board_types.proofs.LineCounting.{few_lines}
use Rattle.pcboard_texts.proofs.Listed.{all_shown, holds_none, line_none, shows_all, shows_more}
use Rattle.pcboard_texts.proofs.listing.listing_text.Goals as goal
use Rattle.pcboard_texts.proofs.listing.listing_text.Goals.{else-loop-i-test, then-loop-i-test+in_ok-line+in_default}

pub loop-i-init : goal.loop-i-init
loop-i-init c = λ rows are. ap (λ (l : List _). l ++ listing_text c.args.listing.now.names (text_lines c.args.listing.now.source) rows) c.new-text.ensures.bytes

pub loop-i-preserved : goal.loop-i-preserved
loop-i-preserved c = λ rows are.
    let is : line_at c.args.listing.now.names (text_lines c.args.listing.now.source) rows c.loop-i.i ≡ Some (string_bytes c.in-Some.line) =
    sym (c.in_ok-line.ensures.line rows are) ∙ ap (option_map string_bytes) c.in-Some.is in
    shows_more c.args.listing.now.names (text_lines c.args.listing.now.source) rows c.loop-i.i (string_bytes c.loop-i.text) (string_bytes c.in-Some.line)
    (string_bytes c.push_line.new.text) (listing_text c.args.listing.now.names (text_lines c.args.listing.now.source) rows) is
    (c.in_ok-push_line.ensures ∙ ap (λ (l : List ℕ). string_bytes c.loop-i.text ++ (l ++ 10 ∷ [])) c.deref.ensures) (c.loop-i.invariant rows are)

pub returns-clause-listing : goal.returns-clause-listing
returns-clause-listing c =
    let texts : List (List _) = text_lines c.args.listing.now.source in
    let rows : List LocatedLine = c.requires.gives.located_lines in
    let shown = shows_all c.args.listing.now.names (names_of rows) texts rows c.loop-i.i (string_bytes c.loop-i.text)
    (c.loop-i.invariant rows c.requires.gives.are_located_lines) in
    let none : listing_text c.args.listing.now.names (drop c.loop-i.i texts) (drop c.loop-i.i rows) ≡ [] =
    elim c.loop-i-test.branch [
      | else-loop-i-test w ↦
          all_shown c.args.listing.now.names texts rows c.loop-i.i (omega (arith, few_lines c.args.listing.now.source, c.requires.size, w.loop-i-test.false))
      | then-loop-i-test+in_ok-line+in_default w ↦ line_none c.args.listing.now.names texts rows c.loop-i.i
          (sym (w.in_ok-line.ensures.line rows c.requires.gives.are_located_lines)
          ∙ ap (option_map string_bytes) (holds_none w.in_ok-line.field-0 w.in_default.not-Some))
    ] in
    record {
      image = c.args.listing.now.image;
      gives = c.requires.gives;
      is_text = shown none (c.requires.names rows c.requires.gives.are_located_lines);
    }
