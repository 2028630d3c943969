-- The columns of a record, one by one.
use Rattle.std.proofs.Common.{◌≡◌, ℕ, zero, suc, ◌+◌, ◌<◌, ◌≤◌, Bool, true, false, ◌&&◌, List, [], ◌∷◌, ◌++◌, map, length, drop, Some, None, refl, sym, ap, arith}
use Rattle.std.specs.List.{list_all}
use Rattle.std.specs.Str.{is_utf8}
use Rattle.std.proofs.lemmas.List.{append-nil, append_assoc, drop_all}
use Rattle.csv.specs.Records.{field_at}
use Rattle.csv_entries.specs.Spaces.{stripped}

-- a column at a place, and those behind it
pub here : (fields : List (List ℕ)) (i : ℕ) (x : List ℕ) → field_at fields i ≡ Some x → drop i fields ≡ x ∷ drop (i + 1) fields
unfolding field_at
here [] i x e = absurd (cc e)
here (f ∷ fs) zero x e = let k : f ≡ x = cc e in ap (λ y. y ∷ fs) k
here (f ∷ fs) (suc i) x e =
    let n : suc i + 1 ≡ suc (i + 1) = omega arith in
    rw n (here fs i x e)

-- a place inside has one
pub there : (fields : List (List ℕ)) (i : ℕ) → field_at fields i ≡ None → i < length fields → ⊥
unfolding field_at
there [] i e lt = omega arith
there (f ∷ fs) zero e lt = cc e
there (f ∷ fs) (suc i) e lt = there fs i e (omega arith)

pub next_column : (whole done now : List (List ℕ)) (fields : List (List ℕ)) (i : ℕ) (x : List ℕ) → whole ≡ done ++ map stripped (drop i fields) → field_at fields i ≡ Some x
    → now ≡ done ++ stripped x ∷ [] → whole ≡ now ++ map stripped (drop (i + 1) fields)
next_column whole done now fields i x e f n =
    rw (e, here fields i x f, n) (sym (append_assoc done (stripped x ∷ []) (map stripped (drop (i + 1) fields))))

pub no_column : (whole done : List (List ℕ)) (fields : List (List ℕ)) (i : ℕ) → whole ≡ done ++ map stripped (drop i fields) → length fields ≤ i → done ≡ whole
no_column whole done fields i e le = sym (rw (e, drop_all i fields le) (append-nil done))

pub next_text : (whole : Bool) (fields : List (List ℕ)) (i : ℕ) (x : List ℕ) → whole ≡ list_all is_utf8 (drop i fields) → field_at fields i ≡ Some x → is_utf8 x ≡ true
    → whole ≡ list_all is_utf8 (drop (i + 1) fields)
next_text whole fields i x e f u = rw (here fields i x f, u) at e

pub no_text : (whole : Bool) (fields : List (List ℕ)) (i : ℕ) (x : List ℕ) → whole ≡ list_all is_utf8 (drop i fields) → field_at fields i ≡ Some x → is_utf8 x ≡ false → false ≡ whole
no_text whole fields i x e f u = sym (rw (here fields i x f, u) at e)

pub all_text : (whole : Bool) (fields : List (List ℕ)) (i : ℕ) → whole ≡ list_all is_utf8 (drop i fields) → length fields ≤ i → true ≡ whole
all_text whole fields i e le = sym (rw (drop_all i fields le) at e)

first_of : (a b : Bool) → (a && b) ≡ true → (a ≡ true) × (b ≡ true)
first_of true b e = (refl, e)
first_of false b e = absurd (cc e)

-- each column of a text is one
pub one_text : (fields : List (List ℕ)) (i : ℕ) (x : List ℕ) → list_all is_utf8 fields ≡ true → field_at fields i ≡ Some x → is_utf8 x ≡ true
unfolding field_at
one_text [] i x all e = absurd (cc e)
one_text (f ∷ fs) zero x all e = let k : f ≡ x = cc e in rw (← k) ((first_of (is_utf8 f) (list_all is_utf8 fs) all).0)
one_text (f ∷ fs) (suc i) x all e = one_text fs i x (first_of (is_utf8 f) (list_all is_utf8 fs) all).1 e
