use Rattle.std.proofs.Common.{ℕ, Bool, cond, List, [], Option, Some, ap, ◌∙◌}
use Rattle.std.specs.Ordering.{nat_cmp, is_eq}
use Rattle.std.specs.Cmp.Lexicographic.{slice_cmp}
use Rattle.std.specs.Str.{bytes_eq}
use Rattle.std.specs.BTreeMap.{is_at}
use Rattle.std.specs.Map.{lookup}
use Rattle.prices.specs.declared.search.Found.{Found}
use Rattle.prices.specs.Fraction.{Fraction}
use Rattle.prices.proofs.Stable.{text_tie}
use Rattle.prices.proofs.search.at_target.Goals as goal

pub returns : goal.returns
returns c = λ s.
    let start : List Fraction → Found = λ rates. record { level = 0; rates = rates } in
    let none : Option Found = lookup (is_at (slice_cmp nat_cmp s)) c.new-found.result.entries in
    c.in_ok-insert.ensures.updates.0 s
    ∙ ap (λ (b : Bool). cond b (Some (start c.new.result)) none) (ap (λ (t : List ℕ). is_eq (slice_cmp nat_cmp t s)) c.new-2.ensures ∙ text_tie c.args.target.now s)
    ∙ ap (λ (rates : List Fraction). cond (bytes_eq s c.args.target.now) (Some (start rates)) none) c.new.ensures
    ∙ ap (λ (es : List (List ℕ × Found)). cond (bytes_eq s c.args.target.now) (Some (start [])) (lookup (is_at (slice_cmp nat_cmp s)) es)) c.new-found.ensures.empty
