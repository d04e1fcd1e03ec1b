use Rattle.std.proofs.Common.{◌≡◌, ◌∙◌, ◌++◌, ◌∷◌, ◌<◌, [], ap, arith, length, suc, subst, ℕ, ◌-◌}
use Rattle.std.specs.Prelude.{Result, Ok, Err, OnOk}
use Rattle.std.specs.Io.KnownBytes.{Appends}
use Rattle.std.proofs.KnownBytes.{Appends-nil, Appends-trans}
use Rattle.loader.specs.HexText.{bytes_from, end_line, longest_run, row_lines}
use Rattle.loader.proofs.LinesLeft.{left_first, left_from, left_row, left_row_some, left_skipped, left_whole, left_within}
use Rattle.loader.proofs.hex_writer.write_hex.Goals as goal

pub loop-address-init : goal.loop-address-init
loop-address-init g c =
    let start : c.into_iter-address-iterator.result ≡ c.args.image.now =
    c.into_iter-address-iterator.ensures.into_iter_gives ∙ c.iter-address-items.ensures.entries in
    rw start (record { is_image = c.iter-address-items.ensures.is_image; text = ([], Appends-nil _, left_first c.args.image.now) })

pub loop-address-preserved-then-skip-gt0 : goal.loop-address-preserved-then-skip-gt0
loop-address-preserved-then-skip-gt0 g c =
    let t = (rw c.in-Some.ensures.steps at c.loop-address.invariant.text) in
    let one : c.loop-address.skip ≡ suc (c.loop-address.skip - 1) = omega (arith, c.if-skip-gt0.true) in record {
      is_image = c.loop-address.invariant.is_image;
      text = (t.0, t.1, left_skipped _ _ _ _ _ _ (c.in-Some.address.now, c.in-Some.field-0-1.now) one t.2);
    }

pub row_at-row-requires : goal.row_at-row-requires
row_at-row-requires g c =
    let t = (rw c.in-Some.ensures.steps at c.loop-address.invariant.text) in
    left_within _ _ _ _ _ c.in-Some.address.now c.in-Some.field-0-1.now c.loop-address.invariant.is_image t.2

pub row_text-text-requires-clause-address : goal.row_text-text-requires-clause-address
row_text-text-requires-clause-address g c =
    let t = (rw c.in-Some.ensures.steps at c.loop-address.invariant.text) in
    left_within _ _ _ _ _ c.in-Some.address.now c.in-Some.field-0-1.now c.loop-address.invariant.is_image t.2

pub overflow_sub-skip-in-loop-address : goal.overflow_sub-skip-in-loop-address
overflow_sub-skip-in-loop-address g c =
    let image = c.args.image.now in
    let a : ℕ = c.in-Some.address.now in
    let t = (rw c.in-Some.ensures.steps at c.loop-address.invariant.text) in
    let is = left_from _ _ _ _ _ a c.in-Some.field-0-1.now c.loop-address.invariant.is_image t.2 in
    let size : c.len-skip.result ≡ length (longest_run (bytes_from image a) a 16) = c.len-skip.ensures.value ∙ ap length c.row_at-row.ensures in
    let some : 0 < length (longest_run (bytes_from image a) a 16) = left_row_some image c.next.new.self a c.in-Some.field-0-1.now is in
    omega (arith, size, some)

pub loop-address-preserved : goal.loop-address-preserved
loop-address-preserved g c =
    let image = c.args.image.now in
    let a : ℕ = c.in-Some.address.now in
    let b : ℕ = c.in-Some.field-0-1.now in
    let bank = c.loop-address.bank in
    let t = (rw c.in-Some.ensures.steps at c.loop-address.invariant.text) in
    let from : bytes_from image a ≡ (a, b) ∷ c.next.new.self = left_from _ _ _ _ _ a b c.loop-address.invariant.is_image t.2 in
    let row = longest_run (bytes_from image a) a 16 in
    let size : c.len-skip.result ≡ length row = c.len-skip.ensures.value ∙ ap length c.row_at-row.ensures in
    let is : c.as_slice-in-loop-address.result.now ≡ row_lines bank a row =
    c.as_slice-in-loop-address.ensures.value ∙ c.row_text-text.ensures ∙ ap (row_lines bank a) (c.as_slice.ensures.value ∙ c.row_at-row.ensures) in
    let wrote : Appends (g.W.Write.contents c.loop-address.to) (g.W.Write.contents c.write_text.new.to) (row_lines bank a row) =
    subst (λ bytes. Appends (g.W.Write.contents c.loop-address.to) (g.W.Write.contents c.write_text.new.to) bytes) is c.in_ok-write_text.ensures in
    let none : c.loop-address.skip ≡ 0 = omega (arith, c.if-skip-gt0.false) in record {
      is_image = c.loop-address.invariant.is_image;
      text = (
        t.0 ++ row_lines bank a row,
        Appends-trans _ _ _ t.0 (row_lines bank a row) t.1 wrote,
        rw size (left_row image c.next.new.self bank c.loop-address.skip t.0 a b none from t.2),
      );
    }

pub returns : goal.returns
returns g c =
    let t = (rw c.in-None.ensures.steps.0 at c.loop-address.invariant.text) in
    let whole = left_whole c.args.image.now c.loop-address.bank c.loop-address.skip t.0 t.2 in
    ended c.write_text-2.result (λ wrote. subst (λ bytes. Appends (g.W.Write.contents c.args.to.now) (g.W.Write.contents c.write_text-2.new.to) bytes) whole
    (Appends-trans _ _ _ t.0 end_line t.1 wrote))
    c.write_text-2.ensures
  where
    ended : {T E P Q : Type 0} (r : Result T E) → (P → Q) → OnOk r P → OnOk r Q
    ended (Ok x) more wrote = more wrote
    ended (Err e) more wrote = tt
