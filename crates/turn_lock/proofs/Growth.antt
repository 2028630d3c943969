-- A pass grows by no call, by a call that makes an entry, and by calls in a row.
use Rattle.std.proofs.Common.{◌≡◌, ◌⊎◌, inl, inr, ℕ, List, [], ◌∷◌, ◌++◌, refl, sym, ap, ◌∙◌, subst, append_assoc, append-nil}
use mathlib.Core.List.{IsPrefix}
use Rattle.turn_lock.specs.Views.{Standing, stamped}
use Rattle.turn_lock.specs.Passes.{KeepsPass}
use Rattle.turn_lock.specs.Growth.{StandUnder, Grown}
use Rattle.turn_lock.specs.declared.known.Entered.{Entered}
use Rattle.turn_lock.specs.declared.known.Hold.TheVariants.{Free}

module _ {E : Type 0} (number : ℕ) where
  -- entries that stand in the one history, and then entries that stand in the other
  pub stand_row : (es fs : List E) (xs ys : List (Entered E)) → StandUnder number es xs → StandUnder number fs ys → StandUnder number (es ++ fs) (xs ++ ys)
  stand_row [] fs [] ys first second = second
  stand_row [] [] (x ∷ xs) ys first second = tt
  stand_row [] (f ∷ fs) (x ∷ xs) ys first second = inr (stand_row [] (f ∷ fs) xs ys tt second)
  stand_row (e ∷ es) fs [] ys first second = absurd first
  stand_row (e ∷ es) fs (x ∷ xs) ys (inl here) second = inl (here.0, stand_row es fs xs ys here.1 second)
  stand_row (e ∷ es) fs (x ∷ xs) ys (inr later) second = inr (stand_row (e ∷ es) fs xs ys later second)

  stand_last : (xs : List (Entered E)) (entry : E) → StandUnder number (entry ∷ []) (xs ++ stamped number entry ∷ [])
  stand_last [] entry = inl (refl, tt)
  stand_last (x ∷ xs) entry = inr (stand_last xs entry)

module _ {T E : Type 0} where
  pub no_calls : (pass : Standing T E) → Grown pass pass []
  no_calls pass = record {
    lock = refl;
    number = refl;
    made = refl;
    joined = refl;
    hold = refl;
    mine = sym (append-nil pass.mine);
    seen = ([], sym (append-nil pass.seen), tt);
  }

  -- more of the history was seen
  pub only_seen : (old new : Standing T E) → KeepsPass old new → IsPrefix old.seen new.seen → new.hold ≡ old.hold → Grown old new []
  only_seen old new keeps more hold = record {
    lock = keeps.0;
    number = keeps.1;
    made = keeps.2;
    joined = keeps.4;
    hold = hold;
    mine = keeps.3 ∙ sym (append-nil old.mine);
    seen = (more.0, sym more.1, tt);
  }

  -- the value was taken and given back with an entry
  pub one_call : (old taken new : Standing T E) (entry : E) → KeepsPass old taken → IsPrefix old.seen taken.seen → old.hold ≡ Free
      → new ≡ record taken { seen = taken.seen ++ stamped taken.number entry ∷ []; mine = taken.mine ++ entry ∷ []; hold = Free } → Grown old new (entry ∷ [])
  one_call old taken new entry keeps more free given = record {
    lock = ap (λ (p : Standing T E). p.lock) given ∙ keeps.0;
    number = ap (λ (p : Standing T E). p.number) given ∙ keeps.1;
    made = ap (λ (p : Standing T E). p.made) given ∙ keeps.2;
    joined = ap (λ (p : Standing T E). p.joined) given ∙ keeps.4;
    hold = ap (λ (p : Standing T E). p.hold) given ∙ sym free;
    mine = ap (λ (p : Standing T E). p.mine) given ∙ ap (λ (l : List E). l ++ entry ∷ []) keeps.3;
    seen = (
      more.0 ++ stamped old.number entry ∷ [],
      ap (λ (p : Standing T E). p.seen) given
          ∙ ap (λ (n : ℕ). taken.seen ++ stamped n entry ∷ []) keeps.1
          ∙ ap (λ (l : List (Entered E)). l ++ stamped old.number entry ∷ []) (sym more.1)
          ∙ append_assoc old.seen more.0 (stamped old.number entry ∷ []),
      stand_last old.number more.0 entry,
    );
  }

  pub calls_in_a_row : (old mid new : Standing T E) (es fs : List E) → Grown old mid es → Grown mid new fs → Grown old new (es ++ fs)
  calls_in_a_row old mid new es fs first second =
      let later = subst (λ (n : ℕ). StandUnder n fs second.seen.0) first.number second.seen.2 in
      record {
        lock = second.lock ∙ first.lock;
        number = second.number ∙ first.number;
        made = second.made ∙ first.made;
        joined = second.joined ∙ first.joined;
        hold = second.hold ∙ first.hold;
        mine = second.mine ∙ ap (λ (l : List E). l ++ fs) first.mine ∙ append_assoc old.mine es fs;
        seen = (
          first.seen.0 ++ second.seen.0,
          second.seen.1 ∙ ap (λ (l : List (Entered E)). l ++ second.seen.0) first.seen.1 ∙ append_assoc old.seen first.seen.0 second.seen.0,
          stand_row old.number es fs first.seen.0 second.seen.0 first.seen.2 later,
        );
      }
