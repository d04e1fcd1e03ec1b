-- The text of an image loads that image alone.
use Rattle.std.proofs.Common.{◌∙◌, ap, sym, ℕ, List}
use Rattle.board_types.specs.Image.{IsImage}
use Rattle.loader.specs.Laws.{LoadsAlone}
use Rattle.loader.specs.HexText.{hex_text}
use Rattle.loader.proofs.Loaded.{given_ok, loads_records, same_ok}
use Rattle.loader.proofs.ReadBack.{reads_back}

pub loads_alone : (image : List (ℕ × ℕ)) → IsImage image → LoadsAlone image
loads_alone image is_image other rises =
    let exact = loads_records (hex_text image) other rises in
    let back = reads_back image is_image in
    (λ loads. same_ok image other (sym back ∙ exact.1 loads), λ same. exact.0 (back ∙ ap given_ok same))
