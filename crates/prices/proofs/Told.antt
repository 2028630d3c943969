-- What a table keeps answers each symbol.
use Rattle.std.proofs.Common.{◌≡◌, ℕ, zero, suc, Bool, true, false, ◌||◌, cond, List, [], ◌∷◌, ◌++◌, map, Option, Some, None, Ok, inl, inr, refl, sym, ap, subst, ◌∙◌}
use Rattle.std.specs.Prelude.{is_some, unwrap_or}
use Rattle.std.specs.List.{list_any}
use Rattle.std.specs.Option.{option_or}
use Rattle.std.specs.Str.{bytes_eq}
use Rattle.std.proofs.lemmas.List.Folds.{list_any-append}
use Rattle.prices.specs.declared.quote.Quote.{Quote}
use Rattle.prices.specs.declared.search.Found.{Found}
use Rattle.prices.specs.Answers.{Answer}
use Rattle.prices.specs.Quotes.{latest}
use Rattle.prices.specs.Chains.{Pricing, priced_on, declared, either, IsRate}
use Rattle.prices.specs.Index.{quote_cmp, HasBoth}
use Rattle.prices.specs.Search.{steps_of, onward, first_on, found_within, chosen, worth}
use Rattle.prices.specs.Step.{Step}
use Rattle.std.specs.List.Sorted.{IsSorted}
use Rattle.prices.proofs.Texts.{same_text, equal_text, told, true≢false}
use Rattle.prices.proofs.Least.{stands}
use Rattle.prices.proofs.Choice.{chosen_is}
use Rattle.prices.proofs.Pairs.{are_steps, declared_has, either_has}

-- a symbol is among some
abbrev pub among : List (List ℕ) → List ℕ → Bool
among symbols s = list_any (λ t. bytes_eq t s) symbols

module _ (get : List ℕ → Option Answer) (symbols : List (List ℕ)) (answer : List ℕ → Answer) (told_so : (s : List ℕ) → get s ≡ cond (among symbols s) (Some (answer s)) None) (x : List ℕ) where
  with_last : (s : List ℕ) → among (symbols ++ x ∷ []) s ≡ (among symbols s || (bytes_eq x s || false))
  with_last s = list_any-append (λ t. bytes_eq t s) symbols (x ∷ [])

  pub told_again : is_some (get x) ≡ true → (s : List ℕ) → get s ≡ cond (among (symbols ++ x ∷ []) s) (Some (answer s)) None
  told_again h s = told_so s ∙ ap (λ (b : Bool). cond b (Some (answer s)) None) (by (among symbols s) refl ∙ sym (with_last s))
    where
      by : (b : Bool) → among symbols s ≡ b → b ≡ (b || (bytes_eq x s || false))
      by true e = refl
      by false e = elim (told (bytes_eq x s)) [
        | inl is ↦
            let here : is_some (get s) ≡ true = subst (λ (t : List ℕ). is_some (get t) ≡ true) (same_text x s is) h in
            absurd (true≢false (sym here ∙ ap is_some (told_so s ∙ ap (λ (b : Bool). cond b (Some (answer s)) None) e)))
        | inr isnt ↦ ap (λ (c : Bool). c || false) (sym isnt)
      ]

  pub told_more : (new : List ℕ → Option Answer) → ((s : List ℕ) → new s ≡ cond (bytes_eq x s) (Some (answer x)) (get s)) → (s : List ℕ) → new s ≡ cond (among (symbols ++ x ∷ []) s) (Some (answer s)) None
  told_more new h s = h s ∙ by (bytes_eq x s) refl ∙ ap (λ (b : Bool). cond b (Some (answer s)) None) (sym (with_last s))
    where
      always : (b : Bool) → true ≡ (b || true)
      always true = refl
      always false = refl

      never : (b : Bool) → b ≡ (b || false)
      never true = refl
      never false = refl

      by : (b : Bool) → bytes_eq x s ≡ b → cond b (Some (answer x)) (get s) ≡ cond (among symbols s || (b || false)) (Some (answer s)) None
      by true e = ap (λ (t : List ℕ). Some (answer t)) (same_text x s e) ∙ ap (λ (c : Bool). cond c (Some (answer s)) None) (always (among symbols s))
      by false e = told_so s ∙ ap (λ (c : Bool). cond c (Some (answer s)) None) (never (among symbols s))

-- a symbol from which no step leads isn't found
first_none : (level : ℕ) (found : List ℕ → Option Found) (s : List ℕ) (steps : List Step) → among (map (λ step. step.from) steps) s ≡ false → first_on level found s steps ≡ None
first_none level found s [] h = refl
first_none level found s (x ∷ xs) h = elim (told (bytes_eq x.from s)) [
  | inl is ↦ absurd (true≢false (sym (ap (λ (b : Bool). b || among (map (λ step. step.from) xs) s) is) ∙ h))
  | inr isnt ↦
      ap (λ (b : Bool). option_or (cond b (onward level x (found x.to)) None) (first_on level found s xs)) isnt
      ∙ first_none level found s xs (sym (ap (λ (b : Bool). b || among (map (λ step. step.from) xs) s) isnt) ∙ h)
]

found_none : (steps : List Step) (target : List ℕ) (level : ℕ) (s : List ℕ) → among (target ∷ map (λ step. step.from) steps) s ≡ false → found_within steps target level s ≡ None
found_none steps target zero s h = elim (told (bytes_eq s target)) [
  | inl is ↦ absurd (true≢false (sym (ap (λ (b : Bool). b || among (map (λ step. step.from) steps) s) (equal_text target s (sym (same_text s target is)))) ∙ h))
  | inr isnt ↦ ap (λ (b : Bool). cond b (Some (record { level = 0; rates = [] })) None) isnt
]
found_none steps target (suc level) s h =
    ap (λ (o : Option Found). option_or o (first_on level (found_within steps target level) s steps)) (found_none steps target level s h)
    ∙ first_none level (found_within steps target level) s steps (rest (bytes_eq target s) (among (map (λ step. step.from) steps) s) h)
  where
    rest : (a b : Bool) → (a || b) ≡ false → b ≡ false
    rest true b h = absurd (true≢false h)
    rest false b h = h

-- where a symbol isn't told there is no chain
pub untold : (steps : List Step) (target : List ℕ) (o : Option Found) (s : List ℕ) (b : Bool) → among (target ∷ map (λ step. step.from) steps) s ≡ b
    → unwrap_or (cond b (Some (worth (chosen o (found_within steps target 16 s)))) None) (Ok None) ≡ worth (chosen o (found_within steps target 16 s))
untold steps target o s true e = refl
untold steps target o s false e = ap (λ (p : Option Found). worth (chosen o p)) (sym (found_none steps target 16 s e))

none_itself : (quotes : List Quote) (day : ℕ) (a : List ℕ) → priced_on quotes day a a ≡ None
none_itself quotes day a = ap (λ (b : Bool). cond b None (latest quotes a a day)) (equal_text a a refl)

-- what is chosen is the rate
pub rate_is : (sorted pairs : List Quote) (target : List ℕ) (day : ℕ) → IsSorted quote_cmp pairs → HasBoth sorted pairs → (from : List ℕ)
    → IsRate (priced_on sorted day) target from (worth (chosen (found_within (steps_of (declared (priced_on sorted day)) pairs) target 16 from) (found_within (steps_of (either (priced_on sorted day)) pairs) target 16 from)))
rate_is sorted pairs target day up both from =
    let price : Pricing = priced_on sorted day in
    chosen_is price (none_itself sorted day) target from
    (found_within (steps_of (declared price) pairs) target 16 from) (found_within (steps_of (either price) pairs) target 16 from)
    (stands (declared price) target (steps_of (declared price) pairs) (are_steps (declared price) pairs up (declared_has sorted pairs day both)) 16 from)
    (stands (either price) target (steps_of (either price) pairs) (are_steps (either price) pairs up (either_has sorted pairs day both)) 16 from)

-- one more step
pub from_push : (target : List ℕ) (steps : List Step) (x : Step) → target ∷ map (λ step. step.from) (steps ++ x ∷ []) ≡ (target ∷ map (λ step. step.from) steps) ++ x.from ∷ []
from_push target [] x = refl
from_push target (s ∷ steps) x = ap (λ (l : List (List ℕ)). target ∷ l) (from_push s.from steps x)
