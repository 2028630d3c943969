-- The parts of a date, one by one.
use Rattle.std.proofs.Common.{◌≡◌, ℕ, ◌+◌, ◌<◌, ◌≤◌, List, [], length, get_or, drop, Option, Some, None, refl, sym, ap, ◌∙◌}
use Rattle.std.proofs.lemmas.List.{drop_all}
use Rattle.query_terms.proofs.Walks.{left_here}
use Rattle.csv_rules.specs.declared.kinds.DatePart.{DatePart}
use Rattle.csv_entries.specs.Dates.{part_at, and_then, parts_of}
use Rattle.csv_entries.specs.declared.dates.Parts.{Parts}

step : (whole : Option Parts) (format : List DatePart) (i : ℕ) (d : DatePart) (p : Parts) (text : List ℕ) → whole ≡ parts_of (drop i format) p text → i < length format → d ≡ get_or format i d
    → whole ≡ and_then (part_at d p text) (λ x. parts_of (drop (i + 1) format) x.0 x.1)
step whole format i d p text w lt is = w ∙ rw (left_here format i d lt is) refl

pub one_more : (whole : Option Parts) (format : List DatePart) (i : ℕ) (d : DatePart) (p q : Parts) (text rest : List ℕ) → whole ≡ parts_of (drop i format) p text → i < length format → d ≡ get_or format i d
    → Some (q, rest) ≡ part_at d p text → whole ≡ parts_of (drop (i + 1) format) q rest
one_more whole format i d p q text rest w lt is found =
    step whole format i d p text w lt is ∙ ap (λ o. and_then o (λ x. parts_of (drop (i + 1) format) x.0 x.1)) (sym found)

pub no_part : (whole : Option Parts) (format : List DatePart) (i : ℕ) (d : DatePart) (p : Parts) (text : List ℕ) → whole ≡ parts_of (drop i format) p text → i < length format → d ≡ get_or format i d
    → None ≡ part_at d p text → None ≡ whole
no_part whole format i d p text w lt is found =
    sym (step whole format i d p text w lt is ∙ ap (λ o. and_then o (λ x. parts_of (drop (i + 1) format) x.0 x.1)) (sym found))

pub all_read : (whole result : Option Parts) (format : List DatePart) (i : ℕ) (p : Parts) (text : List ℕ) → whole ≡ parts_of (drop i format) p text → length format ≤ i
    → result ≡ parts_of [] p text → result ≡ whole
all_read whole result format i p text w le r = r ∙ sym (rw (drop_all i format le) at w)
