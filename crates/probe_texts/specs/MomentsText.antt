-- The lines of the clocks at which a key is tried.
-- To be believed by callers of this crate: the headline does not rest on it.
use Rattle.std.specs.Prelude.{ℕ, List, ◌++◌, codes, Option, None, Some}
use Rattle.std.specs.Fmt.{decimal}
use Rattle.probe_texts.specs.declared.moments_text.Ends.{Ends}
use Rattle.probe_texts.specs.declared.moments_text.Moments.{Moments}

-- how runs end, in a line: `1 97 stop 1 1 97`, `98 200 none`
abbrev pub ends_text : Option Ends → List ℕ
ends_text None = codes " none\n"
ends_text (Some ends) =
    codes " stop " ++ (decimal ends.number
    ++ (codes " " ++ (decimal ends.least ++ (codes " " ++ (decimal ends.greatest ++ codes "\n")))))

unfoldable pub moments_line : Moments → List ℕ
moments_line m = decimal m.first ++ (codes " " ++ (decimal m.last ++ ends_text m.ends))
