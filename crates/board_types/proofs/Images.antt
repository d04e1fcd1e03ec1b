-- What a byte more leaves of an image.
use Rattle.std.proofs.Common.{◌≡◌, ◌<◌, ℕ, List}
use Rattle.std.specs.Ordering.{nat_cmp}
use Rattle.std.specs.BTreeMap.{insert_entry}
use Rattle.std.specs.List.Sorted.{IsStrictlySortedBy}
use Rattle.std.specs.Map.{keys_of}
use Rattle.std.proofs.lemmas.Map.Views.{All-keys-insert_entry, All-values-insert_entry}
use Rattle.board_types.specs.Image.{IsImage, IsLoadable}

pub image_put : (image put : List (ℕ × ℕ)) (address byte : ℕ) → put ≡ insert_entry nat_cmp image address byte
    → IsStrictlySortedBy nat_cmp (keys_of put) → IsImage image → IsLoadable address → byte < 256 → IsImage put
image_put image put address byte is rising whole loadable small = record {
  loadable = rw is (All-keys-insert_entry nat_cmp address byte IsLoadable image whole.loadable loadable);
  rising = rising;
  bytes = rw is (All-values-insert_entry nat_cmp address byte (λ byte. byte < 256) image whole.bytes small);
}
