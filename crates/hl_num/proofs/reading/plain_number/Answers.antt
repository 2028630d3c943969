use Rattle.std.proofs.Common.{◌≡◌, ℕ, pos, ◌+◌, ◌-◌, ◌<◌, ◌^◌, ◌==◌, List, length, take, drop, slice_index_or, FitsSigned, take_all, length-drop, refl, sym, ◌∙◌, arith, rules}
use Rattle.std.specs.Prelude.{unwrap_or}
use Rattle.std.specs.Int.{w128}
use Rattle.std.proofs.lemmas.Bool.{and_parts}
use Rattle.std.proofs.lemmas.Int.{to_z-of_z}
use Rattle.hl_num.specs.Reading.{is_mark}
use Rattle.hl_num.proofs.PlainLemmas.{plain_is}
use Rattle.hl_num.proofs.reading.plain_number.Goals as goal

pub returns : goal.returns
returns c =
    let text : List ℕ = c.args.text.now in
    let end : ℕ = c.digits_end-end.result in
    let mark : ℕ = slice_index_or text end 0 in
    let decimals : List ℕ = take (length text - (end + 1)) (drop (end + 1) text) in
    let all : decimals ≡ drop (end + 1) text = take_all (length text - (end + 1)) (drop (end + 1) text) (omega (arith, length-drop (end + 1) text)) in
    let own = and_parts (is_mark mark) (unwrap_or c.args.decided mark == mark) (sym c.is_own_mark.ensures ∙ c.if-not-is_own_mark.false) in
    let fits : FitsSigned w128 c.from.result = search rules in
    let is : c.from.result ≡ pos c.in_ok-digits.digits = search rules in
    let small : c.in_ok-digits.digits < 2 ^ 64 = search rules in
    rw (to_z-of_z w128 c.from.result fits, is)
    (plain_is text decimals end mark c.in_ok-digits.digits c.args.decided c.digits_end-end.ensures (omega arith) refl all (c.are_few_digits.ensures.digits c.if-not-are_few_digits.false) own.0 own.1 (omega arith) (c.are_few_digits.ensures.few c.if-not-are_few_digits.false) c.in_ok-digits.ensures small)
