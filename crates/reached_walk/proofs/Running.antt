-- A walk to its end.
use Rattle.std.proofs.Common.{◌≡◌, ℕ, suc, zero, ◌<◌, ◌==◌, Bool, true, false, ◌||◌, not, ◌⊎◌, inl, inr, List, [], ◌∷◌, ◌++◌, length, filter, get_or, Option, Some, None, Result, Ok, Err, IfOk, IfErr, OnOk, refl, sym, ap, subst, ◌∙◌, arith}
use Rattle.std.specs.List.{list_any, range_with_len, slice_get, AllByRecursion}
use Rattle.std.proofs.lemmas.Bool.{eq-eqb, eqb-true, false≢true, not_from_false, not_from_true}
use Rattle.std.proofs.lemmas.List.Folds.{list_any-append}
use Rattle.book.specs.declared.transaction.Txn.{Txn}
use Rattle.reached_entries.specs.Reached.{AreSame}
use Rattle.watchers.proofs.Tests.{or-left}
use Rattle.reached_walk.specs.declared.fault.ReachFault.{ReachFault}
use Rattle.reached_walk.specs.declared.fault.ReachFault.TheVariants.{Dated, Memory}
use Rattle.reached_walk.specs.declared.place.Spot.{Spot}
use Rattle.reached_walk.specs.declared.walking.Reach.{Reach}
use Rattle.reached_walk.specs.Closed.{edit_of, Edit, IsEdit, ReachesDated}
use Rattle.reached_walk.specs.Apart.{is_dated}
use Rattle.reached_walk.specs.Notes.{IsCause}
use Rattle.reached_walk.specs.Spots.{holds, AreOnce}
use Rattle.reached_walk.specs.Walks.{Walks, WasDated}
use Rattle.reached_walk.proofs.Counting.{fewer}
use Rattle.reached_walk.proofs.Entries.{some-same}
use Rattle.reached_walk.proofs.Lists.{all-last}
use Rattle.reached_walk.proofs.Passing.{holds-last}

pub ok-map : {T E : Type 0} (P Q : T → Type 0) → ((x : T) → P x → Q x) → (r : Result T E) → IfOk r P → IfOk r Q
ok-map P Q f (Ok x) h = f x h
ok-map P Q f (Err e) h = tt

pub on-map : {E : Type 0} (P Q : Type 0) → (P → Q) → (r : Result (Unit {0}) E) → OnOk r P → OnOk r Q
on-map P Q f (Ok x) h = f h
on-map P Q f (Err e) h = tt

pub cause-map : (P Q : Type 0) → (P → Q) → (fault : ReachFault) → IsCause fault P → IsCause fault Q
cause-map P Q f Dated h = f h
cause-map P Q f Memory h = tt

pub err-map : {T : Type 0} (P Q : Type 0) → (P → Q) → (r : Result T ReachFault) → IfErr r (λ fault. IsCause fault P) → IfErr r (λ fault. IsCause fault Q)
err-map P Q f (Ok x) h = tt
err-map P Q f (Err fault) h = cause-map P Q f fault h

-- the edit of one transaction of a text, whose new form stands on its day
pub edit-is : (number : ℕ) (before after : List Txn) (s : Spot) (new : Txn) → number < length after → AreSame (λ n. n == number) 0 before after → slice_get after number ≡ Some new → s.number ≡ number → s.day ≡ new.day → IsEdit (edit_of number before after) (s ∷ [])
edit-is number before after s new inside others here own day = record {
  others = others;
  rise = (refl, tt);
  each = (
    record {
      own = eq-eqb s.number number own;
      day = λ txn got. ap (λ (t : Txn). t.day) (some-same txn new (sym got ∙ ap (slice_get after) own ∙ here)) ∙ sym day;
      inside = subst (λ (n : ℕ). n < length after) (sym own) inside;
    },
    tt,
  );
  all = λ n on. or-left (s.number == n) false (eq-eqb s.number n (own ∙ sym (eqb-true n number on)));
}

-- the old form of an edited transaction is dated
pub dated-old : (edit : Edit) (n : ℕ) → edit.is_edited n ≡ true → WasDated n edit.before → ReachesDated edit
dated-old edit n own was = record {
  number = n;
  reached = λ other closed. closed.edited n own;
  txn = was.0;
  stands = inl was.1;
  dated = was.2;
}

-- a transaction that was answered is
pub dated-new : (edit : Edit) (answered handed : List Spot) (s : Spot) (walk : Reach) (txn : Txn) → Walks edit (answered ++ s ∷ []) handed walk → slice_get edit.after s.number ≡ Some txn → is_dated txn ≡ true → ReachesDated edit
dated-new edit answered handed s walk txn h got dated = record {
  number = s.number;
  reached = λ other closed. all-last (λ (t : Spot). other t.number ≡ true) answered s (h.least other closed);
  txn = txn;
  stands = inr got;
  dated = dated;
}

pub stands-inside : (edit : Edit) (answered handed : List Spot) (s : Spot) (walk : Reach) → Walks edit (answered ++ s ∷ []) handed walk → s.number < length edit.after
stands-inside edit answered handed s walk h = all-last (λ (t : Spot). t.number < length edit.after) answered s h.inside

once-last : (spots : List Spot) (s : Spot) → AreOnce (spots ++ s ∷ []) → holds spots s.number ≡ false
once-last [] s h = refl
once-last (x ∷ spots) s h = both (x.number == s.number) (holds spots s.number) (other (x.number == s.number) apart) (once-last spots s h.1)
  where
    both : (a b : Bool) → a ≡ false → b ≡ false → (a || b) ≡ false
    both true b p q = p
    both false b p q = q

    other : (b : Bool) → (b ≡ true → ⊥) → b ≡ false
    other true f = absurd (f refl)
    other false f = refl

    apart : (x.number == s.number) ≡ true → ⊥
    apart e =
        let same : s.number ≡ x.number = sym (eqb-true x.number s.number e) in
        false≢true (sym h.0 ∙ holds-last spots s x.number same)

-- fewer transactions are left
pub left-less : (edit : Edit) (answered handed : List Spot) (s : Spot) (walk : Reach) → Walks edit (answered ++ s ∷ []) handed walk → length (filter (λ n. not (holds (answered ++ s ∷ []) n)) (range_with_len 0 (length edit.after))) < length (filter (λ n. not (holds answered n)) (range_with_len 0 (length edit.after)))
left-less edit answered handed s walk h =
    fewer (λ n. not (holds answered n)) (λ n. not (holds (answered ++ s ∷ []) n)) within s.number (length edit.after) (stands-inside edit answered handed s walk h)
    (not_from_false (holds answered s.number) (once-last answered s h.once))
    (not_from_true (holds (answered ++ s ∷ []) s.number) (holds-last answered s s.number refl))
  where
    front : (a b : Bool) → not (a || b) ≡ true → not a ≡ true
    front true b q = q
    front false b q = refl

    within : (n : ℕ) → not (holds (answered ++ s ∷ []) n) ≡ true → not (holds answered n) ≡ true
    within n q =
        front (holds answered n) (holds (s ∷ []) n) (ap not (sym (list_any-append (λ (t : Spot). t.number == n) answered (s ∷ []))) ∙ q)
