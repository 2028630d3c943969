-- Blocks that are lent.
use Rattle.std.proofs.Common.{Bor, ◌≡◌, ℕ, ◌+◌, ◌<◌, ◌≤◌, Bool, true, false, ◌||◌, cond, filter, List, [], ◌∷◌, ◌++◌, length, get_or, drop, map, refl, sym, ap, ◌∙◌}
use Rattle.std.specs.List.{list_any}
use Rattle.std.proofs.lemmas.List.{append-nil, append_assoc, map-append, drop_all}
use Rattle.std.proofs.lemmas.List.Folds.{list_any-append}
use Rattle.query_terms.proofs.Walks.{left_here}
use Rattle.query_terms.specs.Patterns.{Known}
use Rattle.csv_rules.specs.declared.kinds.Action.{Action}
use Rattle.csv_rules.specs.declared.kinds.Block.{Block}
use Rattle.csv_entries.specs.Blocks.{applies, actions_in, is_end, is_skip}

pub pushed : (old now : List (Bor Block)) (b : Bor Block) → now ≡ old ++ b ∷ [] → map (λ (b : Bor Block). b.now) now ≡ map (λ (b : Bor Block). b.now) old ++ b.now ∷ []
pushed old now b e = rw e (map-append (λ (b : Bor Block). b.now) old (b ∷ []))

kept_by : (p : Block → Bool) (done : List Block) (b : Block) (bs : List Block) (t : Bool) → p b ≡ t → done ++ filter p (b ∷ bs) ≡ (done ++ cond t (b ∷ []) []) ++ filter p bs
kept_by p done b bs true e = rw e (sym (append_assoc done (b ∷ []) (filter p bs)))
kept_by p done b bs false e = rw (e, append-nil done) refl

-- one block more, which applies or doesn't
pub one_more : (known now : Known) (names columns : List (List ℕ)) (whole done done_now : List Block) (blocks : List Block) (i : ℕ) (b : Block) (t : Bool)
    → whole ≡ done ++ filter (applies known names columns) (drop i blocks) → now ≡ known → i < length blocks → b ≡ get_or blocks i b
    → t ≡ applies now names columns b → done_now ≡ done ++ cond t (b ∷ []) [] → whole ≡ done_now ++ filter (applies known names columns) (drop (i + 1) blocks)
one_more known now names columns whole done done_now blocks i b t w same lt is met n =
    w ∙ rw (left_here blocks i b lt is, n) (kept_by (applies known names columns) done b (drop (i + 1) blocks) t (sym (met ∙ ap (λ k. applies k names columns b) same)))

pub all_done : (known : Known) (names columns : List (List ℕ)) (whole done : List Block) (blocks : List Block) (i : ℕ)
    → whole ≡ done ++ filter (applies known names columns) (drop i blocks) → length blocks ≤ i → done ≡ whole
all_done known names columns whole done blocks i w le = sym (w ∙ rw (drop_all i blocks le) (append-nil done))

-- ---- whether the actions of some block hold

abbrev lent : List (Bor Block) → List Block
lent blocks = map (λ (b : Bor Block). b.now) blocks

any_here : (p : Action → Bool) (blocks : List (Bor Block)) (i : ℕ) (b : Bor Block) → i < length blocks → b ≡ get_or blocks i b
    → list_any p (actions_in (lent (drop i blocks))) ≡ (list_any p b.now.actions || list_any p (actions_in (lent (drop (i + 1) blocks))))
any_here p blocks i b lt is =
    rw (left_here blocks i b lt is) (list_any-append p b.now.actions (actions_in (lent (drop (i + 1) blocks))))

found_here : (p : Action → Bool) (whole held : Bool) (blocks : List (Bor Block)) (i : ℕ) (b : Bor Block) → whole ≡ list_any p (actions_in (lent (drop i blocks)))
    → i < length blocks → b ≡ get_or blocks i b → held ≡ list_any p b.now.actions → held ≡ true → true ≡ whole
found_here p whole held blocks i b w lt is found holds =
    sym (w ∙ any_here p blocks i b lt is ∙ ap (λ x. x || list_any p (actions_in (lent (drop (i + 1) blocks)))) (sym found ∙ holds))

not_here : (p : Action → Bool) (whole held : Bool) (blocks : List (Bor Block)) (i : ℕ) (b : Bor Block) → whole ≡ list_any p (actions_in (lent (drop i blocks)))
    → i < length blocks → b ≡ get_or blocks i b → held ≡ list_any p b.now.actions → held ≡ false → whole ≡ list_any p (actions_in (lent (drop (i + 1) blocks)))
not_here p whole held blocks i b w lt is found holds =
    w ∙ any_here p blocks i b lt is ∙ ap (λ x. x || list_any p (actions_in (lent (drop (i + 1) blocks)))) (sym found ∙ holds)

none_more : (p : Action → Bool) (whole : Bool) (blocks : List (Bor Block)) (i : ℕ) → whole ≡ list_any p (actions_in (lent (drop i blocks))) → length blocks ≤ i → false ≡ whole
none_more p whole blocks i w le = sym (w ∙ rw (drop_all i blocks le) refl)

pub end_here : (whole held : Bool) (blocks : List (Bor Block)) (i : ℕ) (b : Bor Block) → whole ≡ list_any is_end (actions_in (map (λ (b : Bor Block). b.now) (drop i blocks)))
    → i < length blocks → b ≡ get_or blocks i b → held ≡ list_any is_end b.now.actions → held ≡ true → true ≡ whole
end_here whole held blocks i b w lt is found holds = found_here is_end whole held blocks i b w lt is found holds

pub end_not_here : (whole held : Bool) (blocks : List (Bor Block)) (i : ℕ) (b : Bor Block) → whole ≡ list_any is_end (actions_in (map (λ (b : Bor Block). b.now) (drop i blocks)))
    → i < length blocks → b ≡ get_or blocks i b → held ≡ list_any is_end b.now.actions → held ≡ false
    → whole ≡ list_any is_end (actions_in (map (λ (b : Bor Block). b.now) (drop (i + 1) blocks)))
end_not_here whole held blocks i b w lt is found holds = not_here is_end whole held blocks i b w lt is found holds

pub no_end : (whole : Bool) (blocks : List (Bor Block)) (i : ℕ) → whole ≡ list_any is_end (actions_in (map (λ (b : Bor Block). b.now) (drop i blocks))) → length blocks ≤ i → false ≡ whole
no_end whole blocks i w le = none_more is_end whole blocks i w le

pub skip_here : (whole held : Bool) (blocks : List (Bor Block)) (i : ℕ) (b : Bor Block) → whole ≡ list_any is_skip (actions_in (map (λ (b : Bor Block). b.now) (drop i blocks)))
    → i < length blocks → b ≡ get_or blocks i b → held ≡ list_any is_skip b.now.actions → held ≡ true → true ≡ whole
skip_here whole held blocks i b w lt is found holds = found_here is_skip whole held blocks i b w lt is found holds

pub skip_not_here : (whole held : Bool) (blocks : List (Bor Block)) (i : ℕ) (b : Bor Block) → whole ≡ list_any is_skip (actions_in (map (λ (b : Bor Block). b.now) (drop i blocks)))
    → i < length blocks → b ≡ get_or blocks i b → held ≡ list_any is_skip b.now.actions → held ≡ false
    → whole ≡ list_any is_skip (actions_in (map (λ (b : Bor Block). b.now) (drop (i + 1) blocks)))
skip_not_here whole held blocks i b w lt is found holds = not_here is_skip whole held blocks i b w lt is found holds

pub no_skip : (whole : Bool) (blocks : List (Bor Block)) (i : ℕ) → whole ≡ list_any is_skip (actions_in (map (λ (b : Bor Block). b.now) (drop i blocks))) → length blocks ≤ i → false ≡ whole
no_skip whole blocks i w le = none_more is_skip whole blocks i w le
