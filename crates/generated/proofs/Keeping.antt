-- What is remembered of accounts holds of the postings that are asked about.
use Rattle.std.proofs.Common.{◌≡◌, inl, inr, ℕ, zero, suc, ◌+◌, ◌<◌, Bool, true, false, cond, List, [], ◌∷◌, ◌++◌, map, length, get_or, Option, Some, None, Result, Ok, Err, OnOk, refl, sym, ap, subst, ◌∙◌, arith}
use Rattle.std.specs.Prelude.{IfSome}
use Rattle.std.specs.HashMap.{get_by_text}
use Rattle.std.specs.Str.{bytes_eq}
use Rattle.std.proofs.lemmas.Bool.{false≢true}
use Rattle.std.proofs.lemmas.List.{get_or_append_left, length-append, length-map}
use Rattle.std.proofs.Math.Seq.{get_or-append_seam}
use Rattle.book.specs.declared.transaction.Posting.{Posting}
use Rattle.book.specs.declared.transaction.Txn.{Txn}
use Rattle.entry_balance.proofs.Turnover.{alike}
use Rattle.query.specs.Matching.{Own}
use Rattle.query.specs.Words.{terms_mean}
use Rattle.rule_entries.specs.Added.{made_posting}
use Rattle.generated.specs.Added.{added_by, added_if}
use Rattle.generated.specs.Alone.{AreVerdicts, IsSo, IsVerdict, known_at}
use Rattle.generated.specs.Asking.{AllAsk, all_asked, asked_of}
use Rattle.generated.specs.Remembering.{IsPlaceOf, Remembers}
use Rattle.generated.specs.Rules.{Asked}
use Rattle.generated.specs.declared.asking.Asker.{Asker}
use Rattle.generated.specs.declared.remembering.Remembered.{Remembered}
use Rattle.generated.proofs.Steps.{there}

-- what is known of one of the rules and a posting of the account
pub known_here : (own : Own) (txn : Txn) (posting : Posting) (old now : List Asker) (i at : ℕ) (d : Asker) (known : List (Option Bool)) (one : Option Bool)
    → AllAsk old now → i < length old → at ≡ i → AreVerdicts posting.account (all_asked old) known → one ≡ known_at known at
    → IsSo own txn posting (asked_of (get_or now i d)) one
known_here own txn posting old now i at d known one so inside same verdicts is =
    let e = asked_of (get_or now i d) in
    let within : i < length (all_asked old) = omega (arith, inside, length-map old asked_of) in
    let told : IsSo own txn posting (get_or (all_asked old) i e) (known_at known i) = verdicts i e within own txn posting refl in
    subst (λ (v : Option Bool). IsSo own txn posting e v) (ap (known_at known) (sym same) ∙ sym is)
    (subst (λ (rule : Asked). IsSo own txn posting rule (known_at known i)) (sym (there old now i d so inside e)) told)

-- what a rule adds that was asked
pub added_asked : (own : Own) (txn : Txn) (posting : Posting) (asked rule : Asked) (means : Bool) → means ≡ terms_mean rule.terms own posting txn
    → asked ≡ rule → added_if means posting asked ≡ added_by own txn posting rule
added_asked own txn posting asked rule means found same =
    ap (λ (b : Bool). added_if b posting asked) found ∙ ap (added_if (terms_mean rule.terms own posting txn) posting) same

pub if_asked : (means : Bool) (posting : Posting) (rule : Asked) → means ≡ true → map (made_posting posting) rule.postings ≡ added_if means posting rule
if_asked means posting rule is = sym (ap (λ (b : Bool). added_if b posting rule) is)

pub unless_asked : (means : Bool) (posting : Posting) (rule : Asked) → means ≡ false → [] ≡ added_if means posting rule
unless_asked means posting rule is = sym (ap (λ (b : Bool). added_if b posting rule) is)

-- ---- one verdict after another

-- what holds of nothing holds at each place behind the last
pushed : (P : ℕ → Option Bool → Type 0) (known : List (Option Bool)) (v : Option Bool) → ((k : ℕ) → P k None) → ((k : ℕ) → P k (known_at known k))
    → ((n : ℕ) → n ≡ length known → P n v) → (k : ℕ) → P k (known_at (known ++ v ∷ []) k)
pushed P [] v none all here zero = here zero (omega arith)
pushed P [] v none all here (suc k) = none (suc k)
pushed P (x ∷ xs) v none all here zero = all zero
pushed P (x ∷ xs) v none all here (suc k) =
    pushed (λ n. P (suc n)) xs v (λ n. none (suc n)) (λ n. all (suc n)) (λ n is. here (suc n) (omega (arith, is))) k

pub verdicts_none : (account : List ℕ) (rules : List Asked) (known : List (Option Bool)) → known ≡ [] → AreVerdicts account rules known
verdicts_none account rules known none =
    subst (λ (vs : List (Option Bool)). AreVerdicts account rules vs) (sym none) (λ at d inside own txn posting same. tt)

pub verdicts_more : (account : List ℕ) (rules : List Asked) (known new : List (Option Bool)) (i : ℕ) (v : Option Bool) → length known ≡ i
    → AreVerdicts account rules known → ((d : Asked) → IsVerdict account (get_or rules i d) v) → new ≡ known ++ v ∷ [] → AreVerdicts account rules new
verdicts_more account rules known new i v many so one is =
    let P : ℕ → Option Bool → Type 0 = λ at one. (d : Asked) → at < length rules → IsVerdict account (get_or rules at d) one in
    let all : (at : ℕ) → P at (known_at (known ++ v ∷ []) at) =
    pushed P known v (λ at d inside own txn posting same. tt) (λ at d inside. so at d inside)
    (λ n same d inside. subst (λ (k : ℕ). IsVerdict account (get_or rules k d) v) (sym (same ∙ many)) (one d)) in
    subst (λ (vs : List (Option Bool)). AreVerdicts account rules vs) (sym is) (λ at d inside. all at d inside)

-- ---- one account more

weaker : (o : Option ℕ) (P Q : ℕ → Type 0) → ((at : ℕ) → P at → Q at) → IfSome o P → IfSome o Q
weaker None P Q f h = tt
weaker (Some at) P Q f h = f at h

module _ (rules : List Asked) (old new : List (List (Option Bool))) (account : List ℕ) (known : List (Option Bool))
    (verdicts : AreVerdicts account rules known) (more : new ≡ old ++ known ∷ []) where
  longer : length new ≡ length old + 1
  longer = omega (arith, ap length more, length-append old (known ∷ []))

  last : get_or new (length old) [] ≡ known
  last = ap (λ (vs : List (List (Option Bool))). get_or vs (length old) []) more ∙ get_or-append_seam old known [] []

  -- the new account has its place
  here : (name : List ℕ) → name ≡ account → IsPlaceOf rules new name (length old)
  here name same = (
    omega (arith, longer),
    subst (λ (vs : List (Option Bool)). AreVerdicts name rules vs) (sym last) (subst (λ (n : List ℕ). AreVerdicts n rules known) (sym same) verdicts),
  )

  -- and each other keeps its own
  other : (name : List ℕ) (at : ℕ) → IsPlaceOf rules old name at → IsPlaceOf rules new name at
  other name at so = (
    omega (arith, longer, so.0),
    subst (λ (vs : List (Option Bool)). AreVerdicts name rules vs)
        (sym (ap (λ (vs : List (List (Option Bool))). get_or vs at []) more ∙ get_or_append_left old (known ∷ []) [] at so.0)) so.1,
  )

  placed : (name : List ℕ) (b : Bool) (was : Option ℕ) → ((b ≡ true) → name ≡ account) → IfSome was (IsPlaceOf rules old name)
      → IfSome (cond b (Some (length old)) was) (IsPlaceOf rules new name)
  placed name true was same so = here name (same refl)
  placed name false was same so = weaker was (IsPlaceOf rules old name) (IsPlaceOf rules new name) (other name) so

named_by : (a b : List ℕ) (t : Bool) → bytes_eq a b ≡ t → t ≡ true → a ≡ b
named_by a b t is holds = elim (alike a b) [ inl same ↦ same | inr differ ↦ absurd (false≢true (sym differ ∙ is ∙ holds)) ]

pub remembers_more : (rules : List Asked) (old new : Remembered) (account : List ℕ) (known : List (Option Bool)) (place : ℕ)
    → new.verdicts.items ≡ old.verdicts.items ++ known ∷ [] → place ≡ length old.verdicts.items
    → ((q : List ℕ) → get_by_text new.places q ≡ cond (bytes_eq q account) (Some place) (get_by_text old.places q))
    → AreVerdicts account rules known → Remembers rules old → Remembers rules new
remembers_more rules old new account known place more last put verdicts so = record {
  each = λ name.
      subst (λ (o : Option ℕ). IfSome o (IsPlaceOf rules new.verdicts.items name))
      (sym (put name ∙ ap (λ (n : ℕ). cond (bytes_eq name account) (Some n) (get_by_text old.places name)) last))
      (placed rules old.verdicts.items new.verdicts.items account known verdicts more name (bytes_eq name account) (get_by_text old.places name)
      (λ t. named_by name account (bytes_eq name account) refl t) (so.each name));
}

-- what is known of an account that has a place
pub known_placed : (rules : List Asked) (kept : Remembered) (account : List ℕ) (at : ℕ) (known : List (Option Bool)) → get_by_text kept.places account ≡ Some at
    → known ≡ get_or kept.verdicts.items at [] → Remembers rules kept → AreVerdicts account rules known
known_placed rules kept account at known placed is so =
    let told : IsPlaceOf rules kept.verdicts.items account at =
    subst (λ (o : Option ℕ). IfSome o (IsPlaceOf rules kept.verdicts.items account)) placed (so.each account) in
    subst (λ (vs : List (Option Bool)). AreVerdicts account rules vs) (sym is) told.1

-- what follows from what was done, if it was
pub then_so : {T E : Type 0} (r : Result T E) (P Q : Type 0) → (P → Q) → OnOk r P → OnOk r Q
then_so (Ok x) P Q f h = f h
then_so (Err e) P Q f h = tt
