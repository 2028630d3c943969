-- Tests that some items of a list pass, or none.
use Rattle.std.proofs.Common.{◌≡◌, Bool, true, false, ◌&&◌, ◌||◌, cond, not, List, [], ◌∷◌, refl, sym, ap, ◌∙◌}
use Rattle.std.specs.List.{list_any, filter}
use Rattle.std.proofs.lemmas.Bool.{false≢true}

pub same-bool : (a b : Bool) → (a ≡ true → b ≡ true) → (b ≡ true → a ≡ true) → a ≡ b
same-bool true b f g = sym (f refl)
same-bool false true f g = g refl
same-bool false false f g = refl

pub and-both : (a b : Bool) → a ≡ true → b ≡ true → (a && b) ≡ true
and-both true b p q = q
and-both false b p q = absurd (false≢true p)

pub and-first : (a b : Bool) → (a && b) ≡ true → a ≡ true
and-first true b h = refl
and-first false b h = h

pub and-second : (a b : Bool) → (a && b) ≡ true → b ≡ true
and-second true b h = h
and-second false b h = absurd (false≢true h)

pub and-false : (a : Bool) → (a && false) ≡ false
and-false true = refl
and-false false = refl

pub or-left : (a b : Bool) → a ≡ true → (a || b) ≡ true
or-left true b p = refl
or-left false b p = absurd (false≢true p)

pub or-right : (a b : Bool) → b ≡ true → (a || b) ≡ true
or-right true b p = refl
or-right false b p = p

pub or-none : (a b : Bool) → a ≡ false → b ≡ false → (a || b) ≡ false
or-none true b p q = p
or-none false b p q = q

pub or-first : (a b : Bool) → (a || b) ≡ false → a ≡ false
or-first true b h = h
or-first false b h = refl

pub or-second : (a b : Bool) → (a || b) ≡ false → b ≡ false
or-second true b h = absurd (false≢true (sym h))
or-second false b h = h

pub not-true : (a : Bool) → (a ≡ true → ⊥) → a ≡ false
not-true true h = absurd (h refl)
not-true false h = refl

module _ {X : Type 0} where
  pub any-imp : (p q : X → Bool) → ((x : X) → p x ≡ true → q x ≡ true) → (xs : List X) → list_any p xs ≡ true → list_any q xs ≡ true
  any-imp p q f [] h = h
  any-imp p q f (x ∷ xs) h =
      elim (p x) as (λ b. p x ≡ b → (b || list_any p xs) ≡ true → (q x || list_any q xs) ≡ true) [
        | true ↦ λ e k. or-left (q x) (list_any q xs) (f x e)
        | false ↦ λ e k. or-right (q x) (list_any q xs) (any-imp p q f xs k)
      ] refl h

  pub none-imp : (p q : X → Bool) → ((x : X) → p x ≡ true → q x ≡ true) → (xs : List X) → list_any q xs ≡ false → list_any p xs ≡ false
  none-imp p q f xs h = not-true (list_any p xs) (λ e. false≢true (sym h ∙ any-imp p q f xs e))

  pub none-never : (p : X → Bool) → ((x : X) → p x ≡ false) → (xs : List X) → list_any p xs ≡ false
  none-never p f [] = refl
  none-never p f (x ∷ xs) = or-none (p x) (list_any p xs) (f x) (none-never p f xs)

  pub none-either : (p q : X → Bool) (xs : List X) → list_any p xs ≡ false → list_any q xs ≡ false → list_any (λ x. p x || q x) xs ≡ false
  none-either p q [] h k = refl
  none-either p q (x ∷ xs) h k =
      or-none (p x || q x) (list_any (λ y. p y || q y) xs)
      (or-none (p x) (q x) (or-first (p x) (list_any p xs) h) (or-first (q x) (list_any q xs) k))
      (none-either p q xs (or-second (p x) (list_any p xs) h) (or-second (q x) (list_any q xs) k))

  pub any-filter : (p q : X → Bool) (xs : List X) → list_any q (filter p xs) ≡ list_any (λ x. p x && q x) xs
  any-filter p q [] = refl
  any-filter p q (x ∷ xs) =
      let rest = any-filter p q xs in
      elim (p x) as (λ b. list_any q (cond b (x ∷ filter p xs) (filter p xs)) ≡ ((b && q x) || list_any (λ y. p y && q y) xs)) [
        | true ↦ ap (λ (b : Bool). q x || b) rest
        | false ↦ rest
      ]

  pub filter-none : (p : X → Bool) (xs : List X) → list_any p xs ≡ false → filter p xs ≡ []
  filter-none p [] h = refl
  filter-none p (x ∷ xs) h =
      ap (λ (b : Bool). cond b (x ∷ filter p xs) (filter p xs)) (or-first (p x) (list_any p xs) h)
      ∙ filter-none p xs (or-second (p x) (list_any p xs) h)
