-- The values of the parameters of a name, one after another.
use Rattle.std.proofs.Common.{◌≡◌, ℕ, ◌+◌, ◌<◌, ◌≤◌, Bool, true, false, cond, ◌||◌, List, [], ◌∷◌, map, length, get_or, drop, Some, None, refl, sym, ap, ◌∙◌}
use Rattle.std.proofs.lemmas.List.{at_drop_all, drop_more}
use Rattle.std.specs.List.{filter, list_any}
use Rattle.std.specs.Str.{bytes_eq}
use Rattle.web_messages.specs.declared.form.Parameter.{Parameter}
use Rattle.web_messages.specs.Forms.{one_of, values_at}

-- the first of some parameters has the name, or hasn't
first_named : (name : List ℕ) (p : Parameter) (ps : List Parameter) → bytes_eq p.name name ≡ true → values_at name (p ∷ ps) ≡ p.value ∷ values_at name ps
first_named name p ps is = ap (λ (b : Bool). map (λ (q : Parameter). q.value) (cond b (p ∷ filter (λ (q : Parameter). bytes_eq q.name name) ps) (filter (λ (q : Parameter). bytes_eq q.name name) ps))) is

first_other : (name : List ℕ) (p : Parameter) (ps : List Parameter) → bytes_eq p.name name ≡ false → values_at name (p ∷ ps) ≡ values_at name ps
first_other name p ps is = ap (λ (b : Bool). map (λ (q : Parameter). q.value) (cond b (p ∷ filter (λ (q : Parameter). bytes_eq q.name name) ps) (filter (λ (q : Parameter). bytes_eq q.name name) ps))) is

place : (ps : List Parameter) (i : ℕ) (p : Parameter) → i < length ps → p ≡ get_or ps i p → drop i ps ≡ p ∷ drop (i + 1) ps
place ps i p less is = drop_more ps i p less ∙ ap (λ (q : Parameter). q ∷ drop (i + 1) ps) (sym is)

-- the next one hasn't the name
pub next_other : (name : List ℕ) (ps : List Parameter) (i : ℕ) (p : Parameter) → i < length ps → p ≡ get_or ps i p → bytes_eq p.name name ≡ false
    → values_at name (drop i ps) ≡ values_at name ps → values_at name (drop (i + 1) ps) ≡ values_at name ps
next_other name ps i p less is other so_far = sym (first_other name p (drop (i + 1) ps) other) ∙ sym (ap (values_at name) (place ps i p less is)) ∙ so_far

none_there : (name : List ℕ) (ps : List Parameter) → list_any (λ p. bytes_eq p.name name) ps ≡ false → values_at name ps ≡ []
none_there name [] h = refl
none_there name (p ∷ ps) h = by (bytes_eq p.name name) refl h (none_there name ps)
  where
    by : (b : Bool) → bytes_eq p.name name ≡ b → (b || list_any (λ p. bytes_eq p.name name) ps) ≡ false
        → (list_any (λ p. bytes_eq p.name name) ps ≡ false → values_at name ps ≡ []) → values_at name (p ∷ ps) ≡ []
    by true is h rest = cc
    by false is h rest = first_other name p ps is ∙ rest h

some_there : (name : List ℕ) (ps : List Parameter) → list_any (λ p. bytes_eq p.name name) ps ≡ true → (v : List ℕ) × (vs : List (List ℕ)) × (values_at name ps ≡ v ∷ vs)
some_there name [] h = cc
some_there name (p ∷ ps) h = by (bytes_eq p.name name) refl h (some_there name ps)
  where
    by : (b : Bool) → bytes_eq p.name name ≡ b → (b || list_any (λ p. bytes_eq p.name name) ps) ≡ true
        → (list_any (λ p. bytes_eq p.name name) ps ≡ true → (v : List ℕ) × (vs : List (List ℕ)) × (values_at name ps ≡ v ∷ vs))
        → (v : List ℕ) × (vs : List (List ℕ)) × (values_at name (p ∷ ps) ≡ v ∷ vs)
    by true is h rest = (p.value, values_at name ps, first_named name p ps is)
    by false is h rest = let r = rest h in (r.0, r.1, first_other name p ps is ∙ r.2)

-- the next one is the only one
pub only_here : (name : List ℕ) (ps : List Parameter) (i : ℕ) (p : Parameter) → i < length ps → p ≡ get_or ps i p → bytes_eq p.name name ≡ true
    → values_at name (drop i ps) ≡ values_at name ps → list_any (λ p. bytes_eq p.name name) (drop (i + 1) ps) ≡ false → Some p.value ≡ one_of (values_at name ps)
only_here name ps i p less is named so_far none =
    let all : values_at name ps ≡ p.value ∷ [] =
    sym so_far ∙ ap (values_at name) (place ps i p less is) ∙ first_named name p (drop (i + 1) ps) named ∙ ap (λ (vs : List (List ℕ)). p.value ∷ vs) (none_there name (drop (i + 1) ps) none) in
    sym (ap one_of all)

-- there is another
pub more_here : (name : List ℕ) (ps : List Parameter) (i : ℕ) (p : Parameter) → i < length ps → p ≡ get_or ps i p → bytes_eq p.name name ≡ true
    → values_at name (drop i ps) ≡ values_at name ps → list_any (λ p. bytes_eq p.name name) (drop (i + 1) ps) ≡ true → None ≡ one_of (values_at name ps)
more_here name ps i p less is named so_far some =
    let r = some_there name (drop (i + 1) ps) some in
    let all : values_at name ps ≡ p.value ∷ r.0 ∷ r.1 =
    sym so_far ∙ ap (values_at name) (place ps i p less is) ∙ first_named name p (drop (i + 1) ps) named ∙ ap (λ (vs : List (List ℕ)). p.value ∷ vs) r.2 in
    sym (ap one_of all)

-- there is none
pub none_here : (name : List ℕ) (ps : List Parameter) (i : ℕ) → length ps ≤ i → values_at name (drop i ps) ≡ values_at name ps → None ≡ one_of (values_at name ps)
none_here name ps i long so_far = sym (ap one_of (sym so_far ∙ at_drop_all (values_at name) ps i long))
