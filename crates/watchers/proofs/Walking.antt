-- Postings whose watches go into a set, or out of it, one after another.
use Rattle.std.proofs.Common.{◌≡◌, ℕ, suc, ◌+◌, ◌<◌, List, [], ◌∷◌, ◌++◌, length, get_or, drop, add-one, refl, sym, ap, subst, ◌∙◌}
use Rattle.std.proofs.lemmas.List.{drop_more}
use Rattle.std.specs.BTreeSet.{replace_key}
use Rattle.shared_set.specs.Sorted.{without_key}
use Rattle.book.specs.declared.transaction.Posting.{Posting}
use Rattle.book.specs.declared.transaction.Txn.{Txn}
use Rattle.watchers.specs.declared.watch.Watch.{Watch}
use Rattle.watchers.specs.Order.{watch_cmp}
use Rattle.watchers.specs.Walk.{gone_all, put_all, watches_from, watches_posting}
use Rattle.watchers.specs.Watches.{numbered_from, watches_in, watches_of}
use Rattle.watchers.proofs.Members.{from-is}

put-append : (ws one two : List Watch) → put_all ws (one ++ two) ≡ put_all (put_all ws one) two
put-append ws [] two = refl
put-append ws (w ∷ one) two = put-append (replace_key watch_cmp ws w) one two

gone-append : (ws one two : List Watch) → gone_all ws (one ++ two) ≡ gone_all (gone_all ws one) two
gone-append ws [] two = refl
gone-append ws (w ∷ one) two = gone-append (without_key watch_cmp w ws) one two

rest-at : {A : Type 0} (xs : List A) (i : ℕ) (x : A) → i < length xs → x ≡ get_or xs i x → drop i xs ≡ x ∷ drop (suc i) xs
rest-at xs i x lt e =
    drop_more xs i x lt ∙ (λ k. sym e k ∷ drop (add-one i k) xs)

one-more : (t : Txn) (number : ℕ) (ps : List Posting) (i : ℕ) (p : Posting) → i < length ps → p ≡ get_or ps i p → watches_from t number i (drop i ps) ≡ watches_posting t number i p ++ watches_from t number (i + 1) (drop (i + 1) ps)
one-more t number ps i p lt e =
    ap (watches_from t number i) (rest-at ps i p lt e)
    ∙ (λ k. watches_posting t number i p ++ watches_from t number (sym (add-one i) k) (drop (sym (add-one i) k) ps))

-- what was put in and what is left are all
pub put-more : (t : Txn) (number : ℕ) (ps : List Posting) (i : ℕ) (p : Posting) (all now new : List Watch) → i < length ps → p ≡ get_or ps i p → new ≡ put_all now (watches_posting t number i p) → put_all now (watches_from t number i (drop i ps)) ≡ all → put_all new (watches_from t number (i + 1) (drop (i + 1) ps)) ≡ all
put-more t number ps i p all now new lt e put so_far =
    ap (λ (ws : List Watch). put_all ws (watches_from t number (i + 1) (drop (i + 1) ps))) put
    ∙ sym (put-append now (watches_posting t number i p) (watches_from t number (i + 1) (drop (i + 1) ps)))
    ∙ sym (ap (put_all now) (one-more t number ps i p lt e))
    ∙ so_far

pub gone-more : (t : Txn) (number : ℕ) (ps : List Posting) (i : ℕ) (p : Posting) (all now new : List Watch) → i < length ps → p ≡ get_or ps i p → new ≡ gone_all now (watches_posting t number i p) → gone_all now (watches_from t number i (drop i ps)) ≡ all → gone_all new (watches_from t number (i + 1) (drop (i + 1) ps)) ≡ all
gone-more t number ps i p all now new lt e gone so_far =
    ap (λ (ws : List Watch). gone_all ws (watches_from t number (i + 1) (drop (i + 1) ps))) gone
    ∙ sym (gone-append now (watches_posting t number i p) (watches_from t number (i + 1) (drop (i + 1) ps)))
    ∙ sym (ap (gone_all now) (one-more t number ps i p lt e))
    ∙ so_far

pub txn-more : (ts : List Txn) (i : ℕ) (t : Txn) (all now new : List Watch) → i < length ts → t ≡ get_or ts i t → new ≡ put_all now (watches_from t i 0 t.postings) → put_all now (watches_of (numbered_from i (drop i ts))) ≡ all → put_all new (watches_of (numbered_from (i + 1) (drop (i + 1) ts))) ≡ all
txn-more ts i t all now new lt e put so_far =
    (λ k. put_all (put k) (watches_of (numbered_from (add-one i k) (drop (add-one i k) ts))))
    ∙ ap (λ (ws : List Watch). put_all (put_all now ws) (watches_of (numbered_from (suc i) (drop (suc i) ts)))) (from-is t i 0 t.postings)
    ∙ sym (put-append now (watches_in i t) (watches_of (numbered_from (suc i) (drop (suc i) ts))))
    ∙ sym (ap (λ (l : List Txn). put_all now (watches_of (numbered_from i l))) (rest-at ts i t lt e))
    ∙ so_far
