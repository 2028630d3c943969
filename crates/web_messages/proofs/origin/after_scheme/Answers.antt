use Rattle.std.proofs.Common.{ℕ, ◌+◌, ◌==◌, length, take, drop, sym, ap, ◌∙◌, arith, rules}
use Rattle.std.proofs.lemmas.List.Sums.{position_or_len_is}
use Rattle.std.proofs.lemmas.List.{take_rest, drop_all}
use Rattle.web_messages.proofs.origin.after_scheme.Goals as goal

pub returns-in-Some : goal.returns-in-Some
returns-in-Some c =
    let value = c.args.value.now in
    let found = position_or_len_is (λ (b : ℕ). b == 58) value c.in-Some.at 0 (search rules) (search rules) (search rules) in
    take_rest value _ ∙ ap (λ n. drop (n + 1) value) (sym found)

pub returns-in-None : goal.returns-in-None
returns-in-None c =
    let value = c.args.value.now in
    let none = position_or_len_is (λ (b : ℕ). b == 58) value (length value) 0 (omega arith) (search rules) (search rules) in
    sym (ap (λ n. drop (n + 1) value) none ∙ drop_all (length value + 1) value (omega arith))
