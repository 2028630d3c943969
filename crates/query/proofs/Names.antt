-- Names of accounts: words in either case, and parents.
use Rattle.std.proofs.Common.{◌≡◌, ℕ, suc, ◌+◌, ◌<◌, ◌≤◌, Bool, true, false, ◌&&◌, ◌==◌, nat_eq, List, [], ◌∷◌, ◌++◌, length, get_or, take, drop, map, if◌then◌else◌, Option, Some, Result, Ok, Err, OnOk, refl, sym, ap, ◌∙◌, subst, arith, drop-cons, add-one}
use Rattle.std.specs.Option.{option_or}
use Rattle.std.specs.Str.{bytes_eq, is_utf8}
use Rattle.std.proofs.lemmas.Bool.Decides.{nat_tests}
use Rattle.std.proofs.lemmas.List.{drop_all}
use Rattle.std.proofs.lemmas.Slice.Eq.{bytes_eq-Decides}
use Rattle.query_terms.specs.Reading.{upper}
use Rattle.query.specs.Types.{greater_letter, nearest, parents_below, parent_letter, noted, declared_of, declared_in}
use Rattle.book.specs.declared.item.Placed.{Placed}
use Rattle.query_terms.proofs.Walks.{left_here}
use Rattle.query_terms.proofs.Texts.{front_utf8, cut_before}

and_false : (b : Bool) → (b && false) ≡ false
and_false true = refl
and_false false = refl

-- names of other lengths differ
pub other_length : (p w : List ℕ) → (length p ≡ length w → ⊥) → false ≡ bytes_eq (map upper p) w
other_length [] [] ne = absurd (ne refl)
other_length [] (y ∷ ys) ne = refl
other_length (x ∷ xs) [] ne = refl
other_length (x ∷ xs) (y ∷ ys) ne =
    let rest : false ≡ bytes_eq (map upper xs) ys = other_length xs ys (λ e. ne (ap (λ n. suc n) e)) in
    sym (subst (λ (b : Bool). (nat_eq (upper x) y && b) ≡ false) rest (and_false (nat_eq (upper x) y)))

here : (xs : List ℕ) (i : ℕ) → i < length xs → drop i xs ≡ get_or xs i 0 ∷ drop (i + 1) xs
here xs i lt = rw (add-one, drop-cons xs i 0) refl

same : (x y : ℕ) → x ≡ y → nat_eq x y ≡ true
same x y e = grind (arith, nat_tests)

other : (x y : ℕ) → (x ≡ y → ⊥) → nat_eq x y ≡ false
other x y ne = grind (arith, nat_tests)

pub named_more : (whole : Bool) (p w : List ℕ) (i : ℕ) → whole ≡ bytes_eq (map upper (drop i p)) (drop i w) → i < length p → i < length w → upper (get_or p i 0) ≡ get_or w i 0 → whole ≡ bytes_eq (map upper (drop (i + 1) p)) (drop (i + 1) w)
named_more whole p w i e lp lw eq = rw (e, here p i lp, here w i lw, same (upper (get_or p i 0)) (get_or w i 0) eq) refl

pub named_differ : (whole : Bool) (p w : List ℕ) (i : ℕ) → whole ≡ bytes_eq (map upper (drop i p)) (drop i w) → i < length p → i < length w → (upper (get_or p i 0) ≡ get_or w i 0 → ⊥) → false ≡ whole
named_differ whole p w i e lp lw ne = rw (e, here p i lp, here w i lw, other (upper (get_or p i 0)) (get_or w i 0) ne) refl

pub named_end : (whole : Bool) (p w : List ℕ) (i : ℕ) → whole ≡ bytes_eq (map upper (drop i p)) (drop i w) → length p ≤ i → length w ≤ i → true ≡ whole
named_end whole p w i e lp lw = rw (e, drop_all i p lp, drop_all i w lw) refl

step_by : (own : List ℕ → Option ℕ) (account : List ℕ) (k : ℕ) (b : Bool) → (get_or account k 0 == 58) ≡ b → nearest own (parents_below account (suc k)) ≡ option_or (parent_letter own account k) (nearest own (parents_below account k))
step_by own account k true e = rw (e) refl
step_by own account k false e = rw (e) refl

pub parents_step : (own : List ℕ → Option ℕ) (account : List ℕ) (n k : ℕ) → n ≡ k + 1 → nearest own (parents_below account n) ≡ option_or (parent_letter own account k) (nearest own (parents_below account k))
parents_step own account n k e =
    let s : n ≡ suc k = omega arith in
    subst (λ (m : ℕ). nearest own (parents_below account m) ≡ option_or (parent_letter own account k) (nearest own (parents_below account k))) (sym s) (step_by own account k (get_or account k 0 == 58) refl)

pub parent_utf8 : (account : List ℕ) (k : ℕ) → k < length account → get_or account k 0 ≡ 58 → is_utf8 account ≡ true → is_utf8 (take k account) ≡ true
parent_utf8 account k lt colon u = front_utf8 account k (cut_before account k (omega arith) (λ _. omega arith)) u

-- the letters that some items declare, one item after the other
noted_append : (xs ys : List (List ℕ × ℕ)) (before : Option ℕ) (name : List ℕ) → noted (xs ++ ys) before name ≡ noted ys (noted xs before name) name
noted_append [] ys before name = refl
noted_append (x ∷ xs) ys before name = noted_append xs ys (if bytes_eq name x.0 then Some (greater_letter before x.1) else before) name

pub noted_more : (whole before after : Option ℕ) (items : List Placed) (i : ℕ) (p : Placed) (name : List ℕ) → whole ≡ noted (declared_of (drop i items)) before name → i < length items → p ≡ get_or items i p → after ≡ noted (declared_in p.item) before name → whole ≡ noted (declared_of (drop (i + 1) items)) after name
noted_more whole before after items i p name e lt is a =
    e ∙ (ap (λ l. noted (declared_of l) before name) (left_here items i p lt is) ∙ (noted_append (declared_in p.item) (declared_of (drop (i + 1) items)) before name ∙ ap (λ b. noted (declared_of (drop (i + 1) items)) b name) (sym a)))

pub noted_all : (whole before : Option ℕ) (items : List Placed) (i : ℕ) (name : List ℕ) → whole ≡ noted (declared_of (drop i items)) before name → length items ≤ i → before ≡ whole
noted_all whole before items i name e le = sym (e ∙ ap (λ l. noted (declared_of l) before name) (drop_all i items le))

-- a letter that is put under a name, where it counts
kept_at : (old : List ℕ → Option ℕ) (name q : List ℕ) (letter given : ℕ) (b : Bool) → bytes_eq q name ≡ b → given ≡ greater_letter (old name) letter → (if b then Some given else old q) ≡ (if b then Some (greater_letter (old q) letter) else old q)
kept_at old name q letter given true e g =
    let same : q ≡ name = (bytes_eq-Decides q name).0 e in
    ap (λ (n : ℕ). Some n) (g ∙ ap (λ (l : List ℕ). greater_letter (old l) letter) (sym same))
kept_at old name q letter given false e g = refl

pub kept : {T F : Type 0} (r : Result T F) (old new : List ℕ → Option ℕ) (name : List ℕ) (letter given : ℕ) → given ≡ greater_letter (old name) letter → OnOk r ((q : List ℕ) → new q ≡ (if bytes_eq q name then Some given else old q)) → OnOk r ((q : List ℕ) → new q ≡ (if bytes_eq q name then Some (greater_letter (old q) letter) else old q))
kept (Ok x) old new name letter given g h = λ q. h q ∙ kept_at old name q letter given (bytes_eq q name) refl g
kept (Err f) old new name letter given g h = h
