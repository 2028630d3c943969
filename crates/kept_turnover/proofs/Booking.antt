-- What the transactions of a book move.
use Rattle.std.proofs.Common.{◌≡◌, ℕ, zero, suc, ◌+◌, ◌<◌, Bool, true, List, [], ◌∷◌, ◌++◌, length, get_or, set, take, drop, slice_get, Option, Some, None, refl, sym, ap, subst, ◌∙◌, arith, append_assoc, append-nil}
use Rattle.std.proofs.lemmas.Grind.{flat_map-append}
use Rattle.book.specs.Postings.{postings_of}
use Rattle.book.specs.declared.transaction.Posting.{Posting}
use Rattle.book.specs.declared.transaction.Txn.{Txn}
use Rattle.entry_balance.specs.Entry.{moved, moved_by}
use Rattle.entry_balance.specs.Values.{Value}
use Rattle.entry_balance.proofs.Adding.{made-more}
use Rattle.kept_turnover.specs.Keeping.{AreOf, Gains, Loses, Symbols}
use Rattle.kept_turnover.proofs.Holding.{gains_both, loses_both}

pub moved_both : (ps qs : List Posting) → moved (ps ++ qs) ≡ moved ps ++ moved qs
moved_both ps qs = flat_map-append moved_by ps qs

-- ---- one posting more

pub gains_posting : (old mid new : Symbols) (ps : List Posting) (i : ℕ) (p : Posting) → i < length ps → p ≡ get_or ps i p → Gains old mid (moved (take i ps)) → Gains mid new (moved_by p) → Gains old new (moved (take (i + 1) ps))
gains_posting old mid new ps i p h is before more =
    subst (Gains old new) (sym (made-more moved_by ps i p h is)) (gains_both old mid new (moved (take i ps)) (moved_by p) before more)

pub loses_posting : (old mid new : Symbols) (ps : List Posting) (i : ℕ) (p : Posting) → i < length ps → p ≡ get_or ps i p → Loses old mid (moved (take i ps)) → Loses mid new (moved_by p) → Loses old new (moved (take (i + 1) ps))
loses_posting old mid new ps i p h is before more =
    subst (Loses old new) (sym (made-more moved_by ps i p h is)) (loses_both old mid new (moved (take i ps)) (moved_by p) before more)

-- ---- one transaction more

moved_more : (ts : List Txn) (i : ℕ) (t : Txn) → i < length ts → t ≡ get_or ts i t → moved (postings_of (take (i + 1) ts)) ≡ moved (postings_of (take i ts)) ++ moved t.postings
moved_more ts i t h is = ap moved (made-more (λ (u : Txn). u.postings) ts i t h is) ∙ moved_both (postings_of (take i ts)) t.postings

pub gains_txn : (old new : Symbols) (ts : List Txn) (i : ℕ) (t : Txn) → i < length ts → t ≡ get_or ts i t → AreOf old (moved (postings_of (take i ts))) → Gains old new (moved t.postings) → AreOf new (moved (postings_of (take (i + 1) ts)))
gains_txn old new ts i t h is before more =
    let vs = moved (postings_of (take i ts)) in
    subst (AreOf new) (ap (λ (ws : List Value). vs ++ ws) (append-nil (moved t.postings)) ∙ sym (moved_more ts i t h is))
    (more vs [] (subst (AreOf old) (sym (append-nil vs)) before))

-- ---- another form

-- what a book moves before and behind a transaction
pub record IsAround (book : List Txn) (n : ℕ) (one other : Txn) : Type 0 where
  pub front : List Value
  pub back : List Value
  pub was : moved (postings_of book) ≡ front ++ (moved one.postings ++ back)
  pub is : moved (postings_of (set book n other)) ≡ front ++ (moved other.postings ++ back)

some_is : (a b : Txn) → Some a ≡ Some b → a ≡ b
some_is a b h = let same : a ≡ b = cc in same

around : (book : List Txn) (n : ℕ) (one other : Txn) → slice_get book n ≡ Some one → IsAround book n one other
around [] n one other h = absurd (let never : ⊥ = cc in never)
around (t ∷ ts) zero one other h = record {
  front = [];
  back = moved (postings_of ts);
  was = ap (λ (u : Txn). moved (u.postings ++ postings_of ts)) (some_is t one h) ∙ moved_both one.postings (postings_of ts);
  is = moved_both other.postings (postings_of ts);
}
around (t ∷ ts) (suc n) one other h =
    let rest = around ts n one other h in
    record {
      front = moved t.postings ++ rest.front;
      back = rest.back;
      was = moved_both t.postings (postings_of ts) ∙ ap (λ (vs : List Value). moved t.postings ++ vs) rest.was ∙ sym (append_assoc (moved t.postings) rest.front (moved one.postings ++ rest.back));
      is = moved_both t.postings (postings_of (set ts n other)) ∙ ap (λ (vs : List Value). moved t.postings ++ vs) rest.is ∙ sym (append_assoc (moved t.postings) rest.front (moved other.postings ++ rest.back));
    }

pub replaces : (old mid new : Symbols) (one other : Txn) → Loses old mid (moved one.postings) → Gains mid new (moved other.postings)
    → (book : List Txn) (n : ℕ) → slice_get book n ≡ Some one → AreOf old (moved (postings_of book)) → AreOf new (moved (postings_of (set book n other)))
replaces old mid new one other loses gains book n there h =
    let a = around book n one other there in
    subst (AreOf new) (sym a.is) (gains a.front a.back (loses a.front a.back (subst (AreOf old) a.was h)))
