-- Groups of conditions, walked from the left.
use Rattle.std.proofs.Common.{◌≡◌, ℕ, ◌+◌, ◌<◌, ◌≤◌, Bool, true, false, ◌&&◌, ◌||◌, cond, List, [], ◌∷◌, length, get_or, take, drop, ◌-◌, refl, sym, ap, ◌∙◌, arith}
use Rattle.std.specs.List.{list_any, list_all}
use Rattle.std.proofs.lemmas.List.{drop_all, take_all}
use Rattle.query_terms.proofs.Walks.{left_here}
use Rattle.query_terms.specs.Patterns.{Known}
use Rattle.csv_rules.specs.declared.kinds.Condition.{Condition}
use Rattle.csv_entries.specs.Blocks.{holds, goes_on, groups_of, into_first, some_group, some_from}

-- all of the first group hold together with what stands before it, or all of another
abbrev with_first : (Condition → Bool) → Bool → List (List Condition) → Bool
with_first held all [] = all
with_first held all (g ∷ gs) = (all && list_all held g) || list_any (λ group. list_all held group) gs

and_assoc : (a b c d : Bool) → (((a && b) && c) || d) ≡ ((a && (b && c)) || d)
and_assoc true b c d = refl
and_assoc false b c d = refl

and_true : (a : Bool) → (a && true) ≡ a
and_true true = refl
and_true false = refl

or_false : (a : Bool) → (a || false) ≡ a
or_false true = refl
or_false false = refl

-- a condition before the first group
onto_first : (held : Condition → Bool) (all : Bool) (c : Condition) (gs : List (List Condition)) → with_first held (all && held c) gs ≡ with_first held all (into_first c gs)
onto_first held all c [] = sym (or_false (all && (held c && true)) ∙ ap (λ x. all && x) (and_true (held c)))
onto_first held all c (g ∷ gs) = and_assoc all (held c) (list_all held g) (list_any (λ group. list_all held group) gs)

-- the first group is never missing
into_true : (held : Condition → Bool) (c : Condition) (gs : List (List Condition)) → with_first held true (into_first c gs) ≡ list_any (λ group. list_all held group) (into_first c gs)
into_true held c [] = refl
into_true held c (g ∷ gs) = refl

true_by : (held : Condition → Bool) (c : Condition) (cs : List Condition) (t : Bool) → goes_on cs ≡ t → with_first held true (groups_of (c ∷ cs)) ≡ some_group held (c ∷ cs)
true_by held c cs true e = rw e (into_true held c (groups_of cs))
true_by held c cs false e = rw e refl

true_first : (held : Condition → Bool) (c : Condition) (cs : List Condition) → with_first held true (groups_of (c ∷ cs)) ≡ some_group held (c ∷ cs)
true_first held c cs = true_by held c cs (goes_on cs) refl

walk_by : (held : Condition → Bool) (all : Bool) (c d : Condition) (ds : List Condition) (t : Bool) → d.joined ≡ t
    → some_from held ((all && held c) && held d) ds ≡ with_first held (all && held c) (groups_of (d ∷ ds))
    → some_from held (held d) ds ≡ with_first held true (groups_of (d ∷ ds))
    → some_from held (all && held c) (d ∷ ds) ≡ with_first held all (groups_of (c ∷ d ∷ ds))
walk_by held all c d ds true e joins parts =
    ap (λ x. cond x (some_from held ((all && held c) && held d) ds) ((all && held c) || some_from held (held d) ds)) e
    ∙ joins ∙ onto_first held all c (groups_of (d ∷ ds))
    ∙ sym (ap (λ x. with_first held all (cond x (into_first c (groups_of (d ∷ ds))) ((c ∷ []) ∷ groups_of (d ∷ ds)))) e)
walk_by held all c d ds false e joins parts =
    ap (λ x. cond x (some_from held ((all && held c) && held d) ds) ((all && held c) || some_from held (held d) ds)) e
    ∙ ap (λ x. (all && held c) || x) (parts ∙ true_first held d ds)
    ∙ ap (λ x. (all && x) || some_group held (d ∷ ds)) (sym (and_true (held c)))
    ∙ sym (ap (λ x. with_first held all (cond x (into_first c (groups_of (d ∷ ds))) ((c ∷ []) ∷ groups_of (d ∷ ds)))) e)

walk : (held : Condition → Bool) (all : Bool) (c : Condition) (cs : List Condition) → some_from held (all && held c) cs ≡ with_first held all (groups_of (c ∷ cs))
walk held all c [] = sym (or_false (all && (held c && true)) ∙ ap (λ x. all && x) (and_true (held c)))
walk held all c (d ∷ ds) = walk_by held all c d ds d.joined refl (walk held (all && held c) d ds) (walk held true d ds)

-- walked from the first condition on
pub groups_hold : (held : Condition → Bool) (c : Condition) (cs : List Condition) → some_from held (held c) cs ≡ some_group held (c ∷ cs)
groups_hold held c cs = walk held true c cs ∙ true_first held c cs

or_assoc : (a b c : Bool) → (a || (b || c)) ≡ ((a || b) || c)
or_assoc true b c = refl
or_assoc false b c = refl

more_by : (held : Condition → Bool) (some all holds : Bool) (c : Condition) (cs : List Condition) (t : Bool) → c.joined ≡ t → holds ≡ held c
    → (some || some_from held all (c ∷ cs)) ≡ (cond t some (some || all) || some_from held (cond t (all && holds) holds) cs)
more_by held some all holds c cs true j h =
    ap (λ x. some || cond x (some_from held (all && held c) cs) (all || some_from held (held c) cs)) j
    ∙ ap (λ x. some || some_from held (all && x) cs) (sym h)
more_by held some all holds c cs false j h =
    ap (λ x. some || cond x (some_from held (all && held c) cs) (all || some_from held (held c) cs)) j
    ∙ or_assoc some all (some_from held (held c) cs)
    ∙ ap (λ x. (some || all) || some_from held x cs) (sym h)

-- one condition more
pub one_more : (known now : Known) (names columns : List (List ℕ)) (whole some all held some_now all_now : Bool) (cs : List Condition) (i : ℕ) (c : Condition)
    → whole ≡ (some || some_from (holds known names columns) all (drop i cs)) → now ≡ known → i < length cs → c ≡ get_or cs i c
    → held ≡ holds now names columns c → some_now ≡ cond c.joined some (some || all) → all_now ≡ cond c.joined (all && held) held
    → whole ≡ (some_now || some_from (holds known names columns) all_now (drop (i + 1) cs))
one_more known now names columns whole some all held some_now all_now cs i c w same lt is h s a =
    w ∙ rw (left_here cs i c lt is, s, a) (more_by (holds known names columns) some all held c (drop (i + 1) cs) c.joined refl (h ∙ ap (λ k. holds k names columns c) same))

pub last : (held : Condition → Bool) (whole some all : Bool) (cs : List Condition) (i : ℕ) → whole ≡ (some || some_from held all (drop i cs))
    → length cs ≤ i → (some || all) ≡ whole
last held whole some all cs i w le = sym (rw (drop_all i cs le) at w)

first_cut : (cs : List Condition) (c : Condition) → 1 ≤ length cs → c ≡ get_or cs 0 c → cs ≡ c ∷ drop 1 cs
first_cut [] c some is = absurd (omega arith)
first_cut (d ∷ ds) c some is = ap (λ x. x ∷ ds) (sym is)

-- all conditions of a block
pub applies_by : (known now : Known) (names columns : List (List ℕ)) (result held : Bool) (cs rest : List Condition) (c : Condition) → cs ≡ c ∷ rest
    → held ≡ holds known names columns c → now ≡ known → result ≡ some_from (holds now names columns) held rest → result ≡ some_group (holds known names columns) cs
applies_by known now names columns result held cs rest c cut h same r =
    r ∙ rw (same, h, cut) (groups_hold (holds known names columns) c rest)

front_all : (cs : List Condition) → take (length cs - 1) (drop 1 cs) ≡ drop 1 cs
front_all [] = refl
front_all (c ∷ cs) = take_all (length (c ∷ cs) - 1) cs (omega arith)

pub applies_all : (known now : Known) (names columns : List (List ℕ)) (result held : Bool) (cs : List Condition) (c : Condition) → 1 ≤ length cs → c ≡ get_or cs 0 c
    → held ≡ holds known names columns c → now ≡ known → result ≡ some_from (holds now names columns) held (take (length cs - 1) (drop 1 cs))
    → result ≡ some_group (holds known names columns) cs
applies_all known now names columns result held cs c some is h same r =
    applies_by known now names columns result held cs (drop 1 cs) c (first_cut cs c some is) h same
    (r ∙ ap (some_from (holds now names columns) held) (front_all cs))
