use Rattle.std.proofs.Common.{◌≡◌, ap, ◌∙◌}
use Rattle.keyboard.specs.Keyboard.{KeyboardState, after_arrival}
use Rattle.parts_alone.proofs.Codes.{arrived, taken, after_take, takes_both}
use Rattle.parts_alone.proofs.keys.codes_of.Goals as goal

pub returns : goal.returns
returns c =
    let both = takes_both c.args.first c.args.second in
    let before : c.arrive-2.new.self ≡ arrived c.args.first c.args.second =
    c.arrive-2.ensures ∙ ap (λ (k : KeyboardState). after_arrival k c.args.second) (c.arrive.ensures
    ∙ ap (λ (k : KeyboardState). after_arrival k c.args.first) c.in_ok-keyboard.ensures) in
    let one_taken : c.take-one.new.keyboard ≡ after_take (arrived c.args.first c.args.second) = c.take-one.ensures.state ∙ ap after_take before in
    let two_taken : c.take-two.new.keyboard ≡ after_take (after_take (arrived c.args.first c.args.second)) =
    c.take-two.ensures.state ∙ ap after_take one_taken in
    let one : c.take-one.result ≡ c.args.first = c.take-one.ensures.code ∙ ap taken before ∙ both.0 in
    let two : c.take-two.result ≡ c.args.second = c.take-two.ensures.code ∙ ap taken one_taken ∙ both.1 in
    let three : c.take-three.result ≡ 0 = c.take-three.ensures.code ∙ ap taken two_taken ∙ both.2 in
    cc
