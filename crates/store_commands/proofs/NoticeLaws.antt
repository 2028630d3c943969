-- Lines of notices, one behind the other.
use Rattle.std.proofs.Common.{◌≡◌, ℕ, ◌+◌, ◌<◌, ◌≤◌, List, [], ◌∷◌, ◌++◌, length, get_or, take, sym, ap, ◌∙◌}
use Rattle.std.specs.List.{flat_map}
use Rattle.std.proofs.lemmas.List.{append-nil, take_all, take_more}
use Rattle.std.proofs.lemmas.List.Concat.{flat_map-append}
use Rattle.csv_rules.specs.declared.references.Reference.{Reference}
use Rattle.store_commands.specs.Notices.{notice_line}

pub lines_more : (rs : List Reference) (i : ℕ) (r : Reference) (text now : List ℕ) → text ≡ flat_map notice_line (take i rs) → i < length rs → r ≡ get_or rs i r → now ≡ text ++ notice_line r
    → now ≡ flat_map notice_line (take (i + 1) rs)
lines_more rs i r text now e lt is n =
    n
    ∙ (ap (λ (l : List ℕ). l ++ notice_line r) e
    ∙ (ap (λ (l : List ℕ). flat_map notice_line (take i rs) ++ l) (sym (append-nil (notice_line r)))
    ∙ (sym (flat_map-append notice_line (take i rs) (r ∷ []))
    ∙ ap (flat_map notice_line) (sym (take_more rs i r lt ∙ ap (λ (x : Reference). take i rs ++ x ∷ []) (sym is))))))

pub lines_done : (rs : List Reference) (i : ℕ) (text : List ℕ) → text ≡ flat_map notice_line (take i rs) → length rs ≤ i → text ≡ flat_map notice_line rs
lines_done rs i text e le = e ∙ ap (flat_map notice_line) (take_all i rs le)
