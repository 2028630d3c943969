-- Rules that are asked one after another.
use Rattle.std.proofs.Common.{◌≡◌, ℕ, zero, suc, ◌+◌, ◌-◌, ◌^◌, ◌<◌, ◌≤◌, min, Bool, true, false, cond, List, [], ◌∷◌, ◌++◌, append_assoc, length, map, take, set, get_or, Result, Ok, Err, OnOk, refl, sym, ap, subst, ◌∙◌, arith}
use Rattle.std.specs.List.{flat_map}
use Rattle.std.proofs.lemmas.List.{append-nil, length-map, map-append, take_all, take_more}
use Rattle.std.proofs.lemmas.Grind.{flat_map-append}
use Rattle.book.specs.declared.transaction.Posting.{Posting}
use Rattle.book.specs.declared.transaction.Txn.{Txn}
use Rattle.query.specs.Matching.{Own}
use Rattle.query.specs.Words.{terms_mean}
use Rattle.rule_entries.specs.Added.{made_posting}
use Rattle.rule_entries.specs.Counted.{told}
use Rattle.rule_entries.proofs.Totals.{flat_more, length_more}
use Rattle.generated.specs.Added.{added, added_by, added_to, with_added}
use Rattle.generated.specs.Asking.{AllAnswer, AllAsk, Answers, AreQueries, Asks, IsQuery, all_asked, asked_of}
use Rattle.generated.specs.Queries.{asked_by}
use Rattle.generated.specs.Remembering.{AreReady, Remembers}
use Rattle.generated.specs.Rules.{Asked}
use Rattle.generated.specs.declared.rules.RuleQuery.{RuleQuery}
use Rattle.generated.specs.declared.asking.Asker.{Asker}
use Rattle.generated.specs.declared.remembering.Remembered.{Remembered}

pub ask_none : (askers : List Asker) → AllAnswer askers → AllAsk askers askers
ask_none askers so = record { same = refl; answers = so }

-- after they were asked they are ready still
pub ready_after : (old now : List Asker) (kept : Remembered) → AreReady old kept → AllAsk old now → AreReady now kept
ready_after old now kept so ask = record {
  answers = ask.answers;
  kept = subst (λ (rules : List Asked). Remembers rules kept) (sym ask.same) so.kept;
}

pub ask_then : (a b c : List Asker) → AllAsk a b → AllAsk b c → AllAsk a c
ask_then a b c first second = record { same = second.same ∙ first.same; answers = second.answers }

pub answer_at : (askers : List Asker) (i : ℕ) (d : Asker) → AllAnswer askers → i < length askers → Answers (get_or askers i d)
answer_at [] i d so inside = absurd (omega arith)
answer_at (a ∷ rest) zero d so inside = so.0
answer_at (a ∷ rest) (suc i) d so inside = answer_at rest i d so.1 (omega arith)

answer_set : (askers : List Asker) (i : ℕ) (new : Asker) → AllAnswer askers → Answers new → AllAnswer (set askers i new)
answer_set [] i new so is = so
answer_set (a ∷ rest) zero new so is = (is, so.1)
answer_set (a ∷ rest) (suc i) new so is = (so.0, answer_set rest i new so.1 is)

asked_set : (askers : List Asker) (i : ℕ) (d new : Asker) → i < length askers → asked_of new ≡ asked_of (get_or askers i d)
    → all_asked (set askers i new) ≡ all_asked askers
asked_set [] i d new inside is = refl
asked_set (a ∷ rest) zero d new inside is = ap (λ (x : Asked). x ∷ all_asked rest) is
asked_set (a ∷ rest) (suc i) d new inside is = ap (λ (xs : List Asked). asked_of a ∷ xs) (asked_set rest i d new (omega arith) is)

asked_get : (askers : List Asker) (i : ℕ) (d : Asker) (e : Asked) → i < length askers → asked_of (get_or askers i d) ≡ get_or (all_asked askers) i e
asked_get [] i d e inside = absurd (omega arith)
asked_get (a ∷ rest) zero d e inside = refl
asked_get (a ∷ rest) (suc i) d e inside = asked_get rest i d e (omega arith)

same_length : (old now : List Asker) → AllAsk old now → length now ≡ length old
same_length old now so = sym (length-map now asked_of) ∙ ap length so.same ∙ length-map old asked_of

-- one of the rules is asked
module _ (old now : List Asker) (i : ℕ) (d : Asker) (so : AllAsk old now) (inside : i < length old) where
  within : i < length now
  within = omega (arith, inside, same_length old now so)

  pub answers_there : Answers (get_or now i d)
  answers_there = answer_at now i d so.answers within

  pub ask_there : (new : Asker) → Asks (get_or now i d) new → AllAsk old (set now i new)
  ask_there new asks = record {
    same = asked_set now i d new within asks.same ∙ so.same;
    answers = answer_set now i new so.answers asks.answers;
  }

  pub there : (e : Asked) → asked_of (get_or now i d) ≡ get_or (all_asked old) i e
  there e = asked_get now i d e within ∙ ap (λ (xs : List Asked). get_or xs i e) so.same

  front : (e : Asked) → take (i + 1) (all_asked old) ≡ take i (all_asked old) ++ get_or (all_asked old) i e ∷ []
  front e = take_more (all_asked old) i e (omega (arith, inside, length-map old asked_of))

  -- what rules make so far, with what this one makes
  pub made_there : {X : Type 0} (f : Asked → List X)
      → flat_map f (take i (all_asked old)) ++ f (asked_of (get_or now i d)) ≡ flat_map f (take (i + 1) (all_asked old))
  made_there f =
      let e = asked_of (get_or now i d) in
      ap (λ (x : Asked). flat_map f (take i (all_asked old)) ++ f x) (there e)
      ∙ ap (λ xs. flat_map f (take i (all_asked old)) ++ xs) (sym (append-nil (f (get_or (all_asked old) i e))))
      ∙ sym (flat_map-append f (take i (all_asked old)) (get_or (all_asked old) i e ∷ []))
      ∙ ap (flat_map f) (sym (front e))

  pub count_there : {X : Type 0} (f : Asked → List X) (count more : ℕ)
      → count ≡ told (length (flat_map f (take i (all_asked old)))) → more ≡ told (length (f (asked_of (get_or now i d))))
      → min (count + more) (2 ^ 64 - 1) ≡ told (length (flat_map f (take (i + 1) (all_asked old))))
  count_there f count more so_far is =
      length_more (flat_map f (take i (all_asked old))) (f (asked_of (get_or now i d))) count more so_far is
      ∙ ap (λ xs. told (length xs)) (made_there f)

-- all of them were asked
pub all_made : {X : Type 0} (f : Asked → List X) (old : List Asker) (i : ℕ) → length old ≤ i
    → flat_map f (take i (all_asked old)) ≡ flat_map f (all_asked old)
all_made f old i past = ap (flat_map f) (take_all i (all_asked old) (omega (arith, past, length-map old asked_of)))

-- what the rules that were asked add for an item is what they added before
pub count_same : (own : Own) (txn : Txn) (old now : List Asker) → AllAsk old now → (ps : List Posting) (i : ℕ) (p : Posting) → p ≡ get_or ps i p
    → told (length (added own (all_asked now) txn p)) ≡ told (length (added own (all_asked old) txn (get_or ps i p)))
count_same own txn old now so ps i p is =
    ap (λ (rules : List Asked). told (length (added own rules txn p))) so.same
    ∙ ap (λ (q : Posting). told (length (added own (all_asked old) txn q))) is

pub count_same_txn : (own : Own) (old now : List Asker) → AllAsk old now → (ts : List Txn) (i : ℕ) (t : Txn) → t ≡ get_or ts i t
    → told (length (added_to own (all_asked now) t)) ≡ told (length (added_to own (all_asked old) (get_or ts i t)))
count_same_txn own old now so ts i t is =
    ap (λ (rules : List Asked). told (length (added_to own rules t))) so.same
    ∙ ap (λ (u : Txn). told (length (added_to own (all_asked old) u))) is

-- further rules are made ready
pub query_at : (reads : List RuleQuery) (i : ℕ) (d : RuleQuery) → AreQueries reads → i < length reads → IsQuery (get_or reads i d)
query_at [] i d so inside = absurd (omega arith)
query_at (r ∷ rest) zero d so inside = so.0
query_at (r ∷ rest) (suc i) d so inside = query_at rest i d so.1 (omega arith)

pub answers_push : (askers : List Asker) (new : Asker) → AllAnswer askers → Answers new → AllAnswer (askers ++ new ∷ [])
answers_push [] new so is = (is, so)
answers_push (a ∷ rest) new so is = (so.0, answers_push rest new so.1 is)

pub asked_push : (askers : List Asker) (reads : List RuleQuery) (i : ℕ) (new : Asker) (d : RuleQuery) → i < length reads
    → all_asked askers ≡ map asked_by (take i reads) → asked_of new ≡ asked_by (get_or reads i d)
    → all_asked (askers ++ new ∷ []) ≡ map asked_by (take (i + 1) reads)
asked_push askers reads i new d inside so is =
    map-append asked_of askers (new ∷ [])
    ∙ ap (λ (rules : List Asked). rules ++ asked_of new ∷ []) so
    ∙ ap (λ (r : Asked). map asked_by (take i reads) ++ r ∷ []) is
    ∙ sym (map-append asked_by (take i reads) (get_or reads i d ∷ []))
    ∙ ap (map asked_by) (sym (take_more reads i d inside))

-- what a rule adds, where its terms mean the posting, and where they don't
pub added_yes : (own : Own) (txn : Txn) (p : Posting) (rule : Asked) (b : Bool) → b ≡ true → b ≡ terms_mean rule.terms own p txn
    → map (made_posting p) rule.postings ≡ added_by own txn p rule
added_yes own txn p rule b holds is =
    ap (λ (x : Bool). cond x (map (made_posting p) rule.postings) []) (sym holds ∙ is)

pub added_no : (own : Own) (txn : Txn) (p : Posting) (rule : Asked) (b : Bool) → b ≡ false → b ≡ terms_mean rule.terms own p txn
    → [] ≡ added_by own txn p rule
added_no own txn p rule b fails is =
    ap (λ (x : Bool). cond x (map (made_posting p) rule.postings) []) (sym fails ∙ is)

-- how many that are
pub count_yes : (own : Own) (txn : Txn) (p : Posting) (rule : Asked) (b : Bool) (count : ℕ) → b ≡ true → b ≡ terms_mean rule.terms own p txn
    → count ≡ length rule.postings → count < 2 ^ 64 → count ≡ told (length (added_by own txn p rule))
count_yes own txn p rule b count holds is same small =
    let all : length rule.postings ≡ length (added_by own txn p rule) =
    sym (length-map rule.postings (made_posting p)) ∙ ap length (added_yes own txn p rule b holds is) in
    omega (arith, same, small, all)

pub count_no : (own : Own) (txn : Txn) (p : Posting) (rule : Asked) (b : Bool) → b ≡ false → b ≡ terms_mean rule.terms own p txn
    → 0 ≡ told (length (added_by own txn p rule))
count_no own txn p rule b fails is = ap (λ (ps : List Posting). told (length ps)) (added_no own txn p rule b fails is)

-- what holds whatever is answered
pub always : {T E : Type 0} (r : Result T E) (P : Type 0) → P → OnOk r P
always (Ok x) P h = h
always (Err e) P h = tt

-- one more posting, and what the rules add behind it
pub added_more : (own : Own) (txn : Txn) (old now : List Asker) (ps before made new : List Posting) (i : ℕ) (p : Posting) → AllAsk old now
    → i < length ps → p ≡ get_or ps i p → before ≡ flat_map (λ (q : Posting). q ∷ added own (all_asked old) txn q) (take i ps)
    → made ≡ before ++ p ∷ [] → new ≡ made ++ added own (all_asked now) txn p
    → new ≡ flat_map (λ (q : Posting). q ∷ added own (all_asked old) txn q) (take (i + 1) ps)
added_more own txn old now ps before made new i p so inside is so_far one all =
    let f : Posting → List Posting = λ q. q ∷ added own (all_asked old) txn q in
    all
    ∙ ap (λ (rules : List Asked). made ++ added own rules txn p) so.same
    ∙ ap (λ (qs : List Posting). qs ++ added own (all_asked old) txn p) one
    ∙ append_assoc before (p ∷ []) (added own (all_asked old) txn p)
    ∙ ap (λ (qs : List Posting). qs ++ f p) so_far
    ∙ ap (λ (q : Posting). flat_map f (take i ps) ++ f q) is
    ∙ sym (flat_more f ps i p inside)

-- one more transaction
pub txns_more : (own : Own) (old now : List Asker) (ts before new : List Txn) (i : ℕ) (t made : Txn) → AllAsk old now
    → i < length ts → t ≡ get_or ts i t → before ≡ map (with_added own (all_asked old)) (take i ts)
    → made ≡ with_added own (all_asked now) t → new ≡ before ++ made ∷ []
    → new ≡ map (with_added own (all_asked old)) (take (i + 1) ts)
txns_more own old now ts before new i t made so inside is so_far one all =
    let f : Txn → Txn = with_added own (all_asked old) in
    all
    ∙ ap (λ (us : List Txn). us ++ made ∷ []) so_far
    ∙ ap (λ (u : Txn). map f (take i ts) ++ u ∷ []) (one ∙ ap (λ (rules : List Asked). with_added own rules t) so.same ∙ ap f is)
    ∙ sym (map-append f (take i ts) (get_or ts i t ∷ []))
    ∙ ap (map f) (sym (take_more ts i t inside))
