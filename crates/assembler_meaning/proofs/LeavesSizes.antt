-- How many bytes data lines have.
use Rattle.std.proofs.Common.{◌≡◌, ℕ, ℤ, pos, negsuc, ◌+◌, ◌*◌, ◌^◌, ◌<◌, ◌≤◌, Bool, true, false, ◌||◌, ◌&&◌}
use Rattle.std.proofs.Common.{List, length, get_or, drop, Option, None, Some, refl, sym, ap, ◌∙◌, arith}
use Rattle.std.specs.List.{list_all, list_any}
use Rattle.std.specs.Option.{option_map_or}
use Rattle.std.proofs.lemmas.Bool.{or_parts}
use Rattle.std.proofs.Math.Nat.{mul-le-mul}
use Rattle.std.proofs.lemmas.Bool.Decides.{nat_tests}
use Rattle.std.proofs.lemmas.List.{at_drop_more}
use Rattle.std.proofs.lemmas.List.Folds.{list_any-append}
use Rattle.std.proofs.lemmas.List.Sums.{sum_by-drop_more}
use Rattle.assembler_syntax.specs.declared.statement.DataWidth.{DataWidth}
use Rattle.assembler_syntax.specs.declared.statement.Item.{Item}
use Rattle.assembler_syntax.specs.declared.statement.Item.TheVariants.{Once, Repeated}
use Rattle.assembler_syntax.specs.Weights.{is_item_within, item_weight, items_weight, pieces_weight}
use Rattle.assembler_meaning.specs.Data.{counts_of, data_size, item_counts, natural, pieces_of, pieces_size, times_of, is_other, is_wrong_count}
use Rattle.assembler_meaning.specs.Values.{Names, constant_of, term_limit}

natural_within : (o : Option ℤ) → (is_other (pos 1) (pos 65535) o || false) ≡ false → option_map_or natural o 0 ≤ 65535
natural_within None right = omega arith
natural_within (Some (pos n)) right = grind (arith, nat_tests)
natural_within (Some (negsuc n)) right = omega arith

times_within : (names : Names) (item : Item) → list_any (is_wrong_count names) (item_counts item) ≡ false → times_of names item ≤ 65535
times_within names (Once piece) right = omega arith
times_within names (Repeated count each) right = natural_within (constant_of names count) right

weight_of_pieces : (item : Item) → pieces_weight (pieces_of item) ≡ item_weight item
weight_of_pieces (Once piece) = omega arith
weight_of_pieces (Repeated count each) = refl

-- the item at a place, and those after it
pub counts_right : (names : Names) (items : List Item) (i : ℕ) (d : Item) → i < length items
    → list_any (is_wrong_count names) (counts_of (drop i items)) ≡ false
    → (list_any (is_wrong_count names) (item_counts (get_or items i d)) ≡ false)
    × (list_any (is_wrong_count names) (counts_of (drop (i + 1) items)) ≡ false)
counts_right names items i d within right =
    let split = at_drop_more (λ (is : List Item). list_any (is_wrong_count names) (counts_of is)) items i d within in
    let parts = list_any-append (is_wrong_count names) (item_counts (get_or items i d)) (counts_of (drop (i + 1) items)) in
    or_parts _ _ (sym parts ∙ sym split ∙ right)

pub item_room : (names : Names) (item : Item) (size : ℕ) → list_any (is_wrong_count names) (item_counts item) ≡ false
    → size ≤ 4 * pieces_weight (pieces_of item) → times_of names item * size ≤ 2 ^ 18 * item_weight item
item_room names item size right light =
    let times = times_within names item right in
    let weight = weight_of_pieces item in
    let product = mul-le-mul times light in
    omega (arith, product, weight)

pub size_more : (names : Names) (width : DataWidth) (items : List Item) (i : ℕ) (d : Item) → i < length items
    → data_size names width (drop i items)
    ≡ times_of names (get_or items i d) * pieces_size width (pieces_of (get_or items i d)) + data_size names width (drop (i + 1) items)
size_more names width items i d within = at_drop_more (data_size names width) items i d within

pub weight_more : (items : List Item) (i : ℕ) (d : Item) → i < length items
    → items_weight (drop i items) ≡ item_weight (get_or items i d) + items_weight (drop (i + 1) items)
weight_more items i d within = sum_by-drop_more item_weight items i d within

-- what an item adds to the sum so far
pub record Adds (names : Names) (width : DataWidth) (items : List Item) (i size : ℕ) : Type 0 where
  pub value : data_size names width (drop i items) ≡ size + data_size names width (drop (i + 1) items)
  pub bound : size + 2 ^ 18 * items_weight (drop (i + 1) items) ≤ 2 ^ 18 * items_weight (drop i items)
  pub counts : list_any (is_wrong_count names) (counts_of (drop (i + 1) items)) ≡ false

pub item_adds : (names : Names) (width : DataWidth) (items : List Item) (i : ℕ) (item : Item) (times each : ℕ) → i < length items
    → item ≡ get_or items i item → list_any (is_wrong_count names) (counts_of (drop i items)) ≡ false
    → times ≡ times_of names item → each ≡ pieces_size width (pieces_of item) → each ≤ 4 * pieces_weight (pieces_of item)
    → Adds names width items i (times * each)
item_adds names width items i item times each within is right times_is each_is light =
    let here = counts_right names items i item within right in
    let same : item_counts item ≡ item_counts (get_or items i item) = ap item_counts is in
    let room = item_room names item each (ap (list_any (is_wrong_count names)) same ∙ here.0) light in
    let weight = weight_more items i item within in
    let weight_is : item_weight item ≡ item_weight (get_or items i item) = ap item_weight is in
    let product : times * each ≡ times_of names (get_or items i item) * pieces_size width (pieces_of (get_or items i item)) =
    ap (λ (n : ℕ). n * each) times_is ∙ ap (λ (n : ℕ). times_of names item * n) each_is
    ∙ ap (λ (x : Item). times_of names x * pieces_size width (pieces_of x)) is in
    let product_is : times * each ≡ times_of names item * each = ap (λ (n : ℕ). n * each) times_is in
    record {
      value = size_more names width items i item within ∙ ap (λ (n : ℕ). n + data_size names width (drop (i + 1) items)) (sym product);
      bound = omega (arith, room, weight, weight_is, product_is);
      counts = here.1;
    }

pub short_more : (items : List Item) (i : ℕ) (d : Item) → i < length items → list_all (is_item_within term_limit) (drop i items) ≡ true
    → list_all (is_item_within term_limit) (drop (i + 1) items) ≡ true
short_more items i d within short =
    both _ _ (sym (at_drop_more (list_all (is_item_within term_limit)) items i d within) ∙ short)
  where
    both : (a b : Bool) → (a && b) ≡ true → b ≡ true
    both true b is = is
    both false b is = cc
