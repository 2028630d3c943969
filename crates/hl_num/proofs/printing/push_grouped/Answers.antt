use Rattle.std.proofs.Common.{◌≡◌, ◌<◌, ◌∷◌, [], ◌++◌, ap, ◌∙◌, rules, ℕ, List, get_or}
use Rattle.std.specs.String.{string_bytes}
use Rattle.std.specs.Fmt.{decimal}
use Rattle.hl_num.proofs.PrintingLemmas.{grouped-step, ascii_digit}
use Rattle.hl_num.proofs.printing.push_grouped.Goals as goal

pub loop-i-preserved : goal.loop-i-preserved
loop-i-preserved c =
    let bytes = c.as_bytes-bytes.result.now in
    let are_digits : bytes ≡ decimal c.args.number = search rules in
    let small : get_or bytes c.loop-i.i 0 < 128 = ascii_digit c.args.number bytes c.loop-i.i c.ranges.number.fits are_digits in
    let same : c.from.result ≡ get_or bytes c.loop-i.i 0 = search rules in
    let pushed : string_bytes c.push.new.self ≡ string_bytes c.loop-i.text ++ get_or bytes c.loop-i.i 0 ∷ [] =
    c.in_ok-push.ensures.bytes ∙ ap (λ (x : List ℕ). string_bytes c.loop-i.text ++ x) (c.in_ok-push.ensures.ascii (rw same small) ∙ ap (λ (x : ℕ). x ∷ []) same) in
    grouped-step c.args.shape.now (string_bytes c.loop-i.text) (string_bytes c.push.new.self) (string_bytes c.push_separator.new.text) _ bytes c.loop-i.i c.loop-i-test.true c.loop-i.invariant pushed (search rules)
