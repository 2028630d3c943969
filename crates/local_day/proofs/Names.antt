-- What a text of TZ names.
use Rattle.std.proofs.Common.{◌≡◌, ◌≢◌, ◌∙◌, ℕ, Bool, true, false, ◌==◌, ◌||◌, List, [], ◌∷◌, Option, None, Some, refl, sym, ap, arith}
use Rattle.std.specs.Prelude.{IsSome}
use Rattle.std.proofs.lemmas.Bool.{false≢true}
use Rattle.std.proofs.lemmas.Bool.Decides.{nat_tests}
use Rattle.local_day.specs.Naming.{name_in, climbs, goes_up}

-- a text behind a colon
pub colon_gone : (text name : List ℕ) → text ≡ 58 ∷ name → name ≡ name_in text
colon_gone text name is = sym (ap name_in is)

-- one that doesn't begin with a colon
pub no_colon : (text : List ℕ) → ((rest : List ℕ) → text ≢ 58 ∷ rest) → text ≡ name_in text
no_colon [] other = refl
no_colon (byte ∷ rest) other = go (byte == 58) refl
  where
    go : (t : Bool) → (byte == 58) ≡ t → (byte ∷ rest) ≡ name_in (byte ∷ rest)
    go true e = absurd (other rest (ap (λ n. n ∷ rest) (grind (arith, nat_tests))))
    go false e = rw e refl

climbs_step : (byte : ℕ) (rest : List ℕ) → climbs (byte ∷ rest) ≡ (goes_up byte rest || climbs rest)
unfolding climbs
climbs_step byte rest = refl

-- what is left of a name, of which no part before goes up
module _ (name left : List ℕ) (so_far : climbs left ≡ climbs name) where
  pub up_here : (byte : ℕ) (rest : List ℕ) → left ≡ byte ∷ rest → goes_up byte rest ≡ true → true ≡ climbs name
  up_here byte rest here up =
      sym (ap (λ (t : Bool). t || climbs rest) up) ∙ sym (climbs_step byte rest) ∙ sym (ap climbs here) ∙ so_far

  pub up_later : (byte : ℕ) (rest : List ℕ) → left ≡ byte ∷ rest → goes_up byte rest ≡ false → climbs rest ≡ climbs name
  up_later byte rest here stays =
      sym (ap (λ (t : Bool). t || climbs rest) stays) ∙ sym (climbs_step byte rest) ∙ sym (ap climbs here) ∙ so_far

  pub up_nowhere : left ≡ [] → false ≡ climbs name
  unfolding climbs
  up_nowhere here = sym (ap climbs here) ∙ so_far

-- an option with no value, where that it has one would make an error a success
pub none_is : {A : Type 0} (o : Option A) → (IsSome o → false ≡ true) → o ≡ None
none_is None never = refl
none_is (Some x) never = absurd (false≢true (never refl))
