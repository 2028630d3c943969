-- The places of a shelf in memory.
use Rattle.std.proofs.Common.{◌≡◌, ◌≢◌, ℕ, zero, suc, ◌+◌, ◌<◌, Bool, true, false, cond, List, [], ◌∷◌, ◌++◌, length, get_or, set, drop, Option, Some, None, IsTrue, bytes_eq, refl, sym, ◌∙◌, ap, subst, arith}
use Rattle.std.proofs.lemmas.List.{drop_more}
use Rattle.std.proofs.lemmas.Bool.{true≢false}
use Rattle.std.proofs.lemmas.Slice.Eq.{bytes_eq-Decides}
use Rattle.hl_base.specs.declared.mem_disk.MemDisk.{MemDisk}
use Rattle.hl_base.specs.declared.mem_shelf.Place.{Place}
use Rattle.hl_base.specs.MemShelf.{disk_of, has_place, IsFirst, PlacesStay}

-- a place that is the first of its name lies in the list
pub first_inside : (name : List ℕ) (places : List Place) (i : ℕ) → IsFirst name places i → i < length places
first_inside name [] i first = absurd first
first_inside name (p ∷ ps) zero first = omega arith
first_inside name (p ∷ ps) (suc i) first = omega (arith, first_inside name ps i first.1)

-- another name
other_name : (own name other : List ℕ) → bytes_eq own name ≡ true → other ≢ name → (r : Bool) → bytes_eq own other ≡ r → r ≡ false
other_name own name other is apart false e = refl
other_name own name other is apart true e = absurd (apart (sym ((bytes_eq-Decides own other).0 e) ∙ (bytes_eq-Decides own name).0 is))

pub put_here : (name : List ℕ) (places : List Place) (i : ℕ) (d place : Place) (disk : MemDisk) → IsFirst name places i
    → place.name ≡ (get_or places i d).name → place.disk ≡ Some disk → disk_of name (set places i place) ≡ Some disk
put_here name [] i d place disk first same is = absurd first
put_here name (p ∷ ps) zero d place disk first same is = rw (same, first) is
put_here name (p ∷ ps) (suc i) d place disk first same is = rw (first.0) (put_here name ps i d place disk first.1 same is)

pub put_others : (name : List ℕ) (places : List Place) (i : ℕ) (d place : Place) (other : List ℕ) → IsFirst name places i
    → place.name ≡ (get_or places i d).name → other ≢ name → disk_of other (set places i place) ≡ disk_of other places
put_others name [] i d place other first same apart = absurd first
put_others name (p ∷ ps) zero d place other first same apart = rw (same, other_name p.name name other first apart (bytes_eq p.name other) refl) refl
put_others name (p ∷ ps) (suc i) d place other first same apart =
    ap (λ (o : Option MemDisk). cond (bytes_eq p.name other) p.disk o) (put_others name ps i d place other first.1 same apart)

pub put_places : (name : List ℕ) (places : List Place) (i : ℕ) (d place : Place) (other : List ℕ) → IsFirst name places i
    → place.name ≡ (get_or places i d).name → has_place other (set places i place) ≡ has_place other places
put_places name [] i d place other first same = absurd first
put_places name (p ∷ ps) zero d place other first same = ap (λ (n : List ℕ). cond (bytes_eq n other) true (has_place other ps)) same
put_places name (p ∷ ps) (suc i) d place other first same =
    ap (λ (b : Bool). cond (bytes_eq p.name other) true b) (put_places name ps i d place other first.1 same)

-- a place without a disk behind the others
pub disk_behind : (name : List ℕ) (places : List Place) (p : Place) → p.disk ≡ None → disk_of name (places ++ p ∷ []) ≡ disk_of name places
disk_behind name [] p none = no_disk (bytes_eq p.name name) p.disk none
  where
    no_disk : (b : Bool) (disk : Option MemDisk) → disk ≡ None → cond b disk None ≡ None
    no_disk true disk none = none
    no_disk false disk none = refl
disk_behind name (q ∷ ps) p none = ap (λ (o : Option MemDisk). cond (bytes_eq q.name name) q.disk o) (disk_behind name ps p none)

has_cases : (b rest longer : Bool) → (IsTrue rest → IsTrue longer) → IsTrue (cond b true rest) → IsTrue (cond b true longer)
has_cases true rest longer more has = refl
has_cases false rest longer more has = more has

pub place_behind : (name : List ℕ) (places more : List Place) → IsTrue (has_place name places) → IsTrue (has_place name (places ++ more))
place_behind name [] more has = absurd (true≢false (sym has))
place_behind name (p ∷ ps) more has = has_cases (bytes_eq p.name name) (has_place name ps) (has_place name (ps ++ more)) (place_behind name ps more) has

pub place_made : (name : List ℕ) (places : List Place) (p : Place) → p.name ≡ name → IsTrue (has_place name (places ++ p ∷ []))
place_made name [] p is = rw ((bytes_eq-Decides p.name name).1 is) refl
place_made name (q ∷ ps) p is = has_cases (bytes_eq q.name name) true (has_place name (ps ++ p ∷ [])) (λ _. place_made name ps p is) (has_true (bytes_eq q.name name))
  where
    has_true : (b : Bool) → IsTrue (cond b true true)
    has_true true = refl
    has_true false = refl

pub places_stay : (places : List Place) (p : Place) → p.disk ≡ None → PlacesStay places (places ++ p ∷ [])
places_stay places p none = record {
  disks = λ name. disk_behind name places p none;
  places = λ name has. place_behind name places (p ∷ []) has;
}

pub has_here : (name : List ℕ) (places : List Place) (i : ℕ) (d : Place) → i < length places → bytes_eq (get_or places i d).name name ≡ true
    → has_place name (drop i places) ≡ has_place name places → true ≡ has_place name places
has_here name places i d inside is same =
    sym (ap (has_place name) (drop_more places i d inside) ∙ ap (λ (b : Bool). cond b true (has_place name (drop (i + 1) places))) is) ∙ same

pub has_later : (name : List ℕ) (places : List Place) (i : ℕ) (d : Place) → i < length places → bytes_eq (get_or places i d).name name ≡ false
    → has_place name (drop i places) ≡ has_place name places → has_place name (drop (i + 1) places) ≡ has_place name places
has_later name places i d inside is_not same =
    sym (ap (has_place name) (drop_more places i d inside) ∙ ap (λ (b : Bool). cond b true (has_place name (drop (i + 1) places))) is_not) ∙ same

-- the first of a name, counted in what is left of a list, and in all of it
pub first_here : (name : List ℕ) (places : List Place) (i : ℕ) (d : Place) → i < length places → bytes_eq (get_or places i d).name name ≡ true
    → ((k : ℕ) → IsFirst name (drop i places) k → IsFirst name places (i + k)) → IsFirst name places i
first_here name places i d inside is first =
    let here : IsFirst name (drop i places) 0 = subst (λ (l : List Place). IsFirst name l 0) (sym (drop_more places i d inside)) is in
    let same : i + 0 ≡ i = omega arith in
    subst (λ (n : ℕ). IsFirst name places n) same (first 0 here)

pub first_later : (name : List ℕ) (places : List Place) (i : ℕ) (d : Place) → i < length places → bytes_eq (get_or places i d).name name ≡ false
    → ((k : ℕ) → IsFirst name (drop i places) k → IsFirst name places (i + k)) → (k : ℕ) → IsFirst name (drop (i + 1) places) k → IsFirst name places (i + 1 + k)
first_later name places i d inside is_not first k later =
    let here : IsFirst name (drop i places) (suc k) = subst (λ (l : List Place). IsFirst name l (suc k)) (sym (drop_more places i d inside)) (is_not, later) in
    let same : i + suc k ≡ i + 1 + k = omega arith in
    subst (λ (n : ℕ). IsFirst name places n) same (first (suc k) here)
