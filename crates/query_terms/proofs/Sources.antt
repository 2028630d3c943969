-- The first of some regexes with a source.
use Rattle.std.proofs.Common.{◌≡◌, ℕ, zero, suc, ◌+◌, ◌<◌, ◌≤◌, true, false, List, [], ◌∷◌, length, get_or, drop, set, Some, None, refl, ap, ◌∙◌, subst, arith}
use Rattle.std.specs.Str.{bytes_eq}
use Rattle.std.proofs.lemmas.List.{drop_all, get_or_default}
use Rattle.query_terms.specs.Finders.{one_known, all_known}
use Rattle.query_terms.specs.Patterns.{re_of}
use Rattle.query_terms.specs.declared.finding.Sought.{Sought}
use Rattle.query_terms.proofs.Walks.{left_here}

pub source_more : (source : List ℕ) (sought : List Sought) (i : ℕ) (s : Sought) → re_of (all_known sought) source ≡ re_of (all_known (drop i sought)) source → i < length sought → s ≡ get_or sought i s → bytes_eq (one_known s).0 source ≡ false → re_of (all_known sought) source ≡ re_of (all_known (drop (i + 1) sought)) source
source_more source sought i s e lt is miss =
    let step : re_of (all_known (drop i sought)) source ≡ re_of (all_known (drop (i + 1) sought)) source = rw (left_here sought i s lt is, miss) refl in
    e ∙ step

pub source_here : (source : List ℕ) (sought : List Sought) (i : ℕ) (s : Sought) → re_of (all_known sought) source ≡ re_of (all_known (drop i sought)) source → i < length sought → s ≡ get_or sought i s → bytes_eq (one_known s).0 source ≡ true → re_of (all_known sought) source ≡ Some (one_known s).1
source_here source sought i s e lt is hit =
    let step : re_of (all_known (drop i sought)) source ≡ Some (one_known s).1 = rw (left_here sought i s lt is, hit) refl in
    e ∙ step

pub source_none : (source : List ℕ) (sought : List Sought) (i : ℕ) → re_of (all_known sought) source ≡ re_of (all_known (drop i sought)) source → length sought ≤ i → re_of (all_known sought) source ≡ None
source_none source sought i e le = e ∙ (rw (drop_all i sought le) refl)

-- a regex that is known as before in its place
pub known_set : (sought : List Sought) (i : ℕ) (s t : Sought) → i < length sought → s ≡ get_or sought i s → one_known t ≡ one_known s → all_known (set sought i t) ≡ all_known sought
known_set [] i s t lt is e = refl
known_set (x ∷ xs) zero s t lt is e = ap (λ k. k ∷ all_known xs) (e ∙ ap one_known is)
known_set (x ∷ xs) (suc i) s t lt is e = ap (λ l. one_known x ∷ l) (known_set xs i s t (omega arith) is e)

pub source_first : (source : List ℕ) (sought : List Sought) (i : ℕ) (s d : Sought) → re_of (all_known sought) source ≡ re_of (all_known (drop i sought)) source → i < length sought → s ≡ get_or sought i s → bytes_eq (one_known s).0 source ≡ true → re_of (all_known sought) source ≡ Some (one_known (get_or sought i d)).1
source_first source sought i s d e lt is hit =
    let same : s ≡ get_or sought i d = is ∙ get_or_default sought i s d lt in
    subst (λ (x : Sought). re_of (all_known sought) source ≡ Some (one_known x).1) same (source_here source sought i s e lt is hit)
