-- What was moved can be moved back, and is then as it was.
use Rattle.std.proofs.Common.{◌≡◌, ℕ, zero, suc, List, [], ◌∷◌, ◌++◌, map, take, drop, refl, arith}
use Rattle.std.specs.List.{AllByRecursion}
use Rattle.hl_base.specs.declared.items.Piece.{Piece}
use Rattle.book.specs.declared.item.Item.{Item}
use Rattle.book.specs.declared.item.Item.TheVariants as item
use Rattle.book.specs.declared.item.Placed.{Placed}
use Rattle.book.specs.declared.rules.RulePosting.{RulePosting}
use Rattle.book.specs.declared.transaction.Posting.{Posting}
use Rattle.book.specs.declared.transaction.Txn.{Txn}
use Rattle.moved_lines.specs.Moving.{back, back_offset, moved_item, moved_number, moved_piece, moved_placed, moved_posting, moved_rule_posting, moved_txn, CanMove, CanMoveItem, CanMovePiece, CanMovePlaced, CanMovePosting, CanMoveRulePosting, CanMoveTxn}
use Rattle.moved_lines.specs.declared.shift.Offset.{Offset}
use Rattle.moved_lines.specs.declared.shift.Shift.{Shift}

-- ---- lists

module _ {X : Type 0} (there home : X → X) (P Q : X → Type 0) (same : (x : X) → P x → home (there x) ≡ x) (can : (x : X) → P x → Q (there x)) where
  pub each-home : (xs : List X) → AllByRecursion P xs → map home (map there xs) ≡ xs
  each-home [] h = refl
  each-home (x ∷ xs) h = λ i. same x h.0 i ∷ each-home xs h.1 i

  pub each-can : (xs : List X) → AllByRecursion P xs → AllByRecursion Q (map there xs)
  each-can [] h = tt
  each-can (x ∷ xs) h = (can x h.0, each-can xs h.1)

  pub from-home : (n : ℕ) (xs : List X) → AllByRecursion P (drop n xs)
      → take n (take n xs ++ map there (drop n xs)) ++ map home (drop n (take n xs ++ map there (drop n xs))) ≡ xs
  from-home zero xs h = each-home xs h
  from-home (suc n) [] h = refl
  from-home (suc n) (x ∷ xs) h = λ i. x ∷ from-home n xs h i

  pub from-can : (n : ℕ) (xs : List X) → AllByRecursion P (drop n xs) → AllByRecursion Q (drop n (take n xs ++ map there (drop n xs)))
  from-can zero xs h = each-can xs h
  from-can (suc n) [] h = tt
  from-can (suc n) (x ∷ xs) h = from-can n xs h

-- ---- one of them

number-home : (by : Shift) (n : ℕ) → CanMove by n → moved_number (back by) (moved_number by n) ≡ n
number-home by n h = omega (arith, h.behind)

number-can : (by : Shift) (n : ℕ) → CanMove by n → CanMove (back by) (moved_number by n)
number-can by n h = record { behind = omega arith; below = omega (arith, h.behind, h.below) }

posting-home : (by : Shift) (p : Posting) → CanMovePosting by p → moved_posting (back by) (moved_posting by p) ≡ p
posting-home by p h = λ i. record p { line = number-home by p.line h i }

posting-can : (by : Shift) (p : Posting) → CanMovePosting by p → CanMovePosting (back by) (moved_posting by p)
posting-can by p h = number-can by p.line h

postings-home : (by : Shift) (ps : List Posting) → AllByRecursion (CanMovePosting by) ps → map (moved_posting (back by)) (map (moved_posting by) ps) ≡ ps
postings-home by ps h = each-home (moved_posting by) (moved_posting (back by)) (CanMovePosting by) (CanMovePosting (back by)) (posting-home by) (posting-can by) ps h

postings-can : (by : Shift) (ps : List Posting) → AllByRecursion (CanMovePosting by) ps → AllByRecursion (CanMovePosting (back by)) (map (moved_posting by) ps)
postings-can by ps h = each-can (moved_posting by) (moved_posting (back by)) (CanMovePosting by) (CanMovePosting (back by)) (posting-home by) (posting-can by) ps h

rule-posting-home : (by : Shift) (r : RulePosting) → CanMoveRulePosting by r → moved_rule_posting (back by) (moved_rule_posting by r) ≡ r
rule-posting-home by r h = λ i. record r { posting = posting-home by r.posting h i }

rule-posting-can : (by : Shift) (r : RulePosting) → CanMoveRulePosting by r → CanMoveRulePosting (back by) (moved_rule_posting by r)
rule-posting-can by r h = number-can by r.posting.line h

rules-home : (by : Shift) (rs : List RulePosting) → AllByRecursion (CanMoveRulePosting by) rs → map (moved_rule_posting (back by)) (map (moved_rule_posting by) rs) ≡ rs
rules-home by rs h = each-home (moved_rule_posting by) (moved_rule_posting (back by)) (CanMoveRulePosting by) (CanMoveRulePosting (back by)) (rule-posting-home by) (rule-posting-can by) rs h

rules-can : (by : Shift) (rs : List RulePosting) → AllByRecursion (CanMoveRulePosting by) rs → AllByRecursion (CanMoveRulePosting (back by)) (map (moved_rule_posting by) rs)
rules-can by rs h = each-can (moved_rule_posting by) (moved_rule_posting (back by)) (CanMoveRulePosting by) (CanMoveRulePosting (back by)) (rule-posting-home by) (rule-posting-can by) rs h

pub txn-home : (by : Shift) (t : Txn) → CanMoveTxn by t → moved_txn (back by) (moved_txn by t) ≡ t
txn-home by t h = λ i. record t { line = number-home by t.line h.line i; postings = postings-home by t.postings h.postings i }

pub txn-can : (by : Shift) (t : Txn) → CanMoveTxn by t → CanMoveTxn (back by) (moved_txn by t)
txn-can by t h = record { line = number-can by t.line h.line; postings = postings-can by t.postings h.postings }

item-home : (by : Shift) (i : Item) → CanMoveItem by i → moved_item (back by) (moved_item by i) ≡ i
item-home by (item.Txn t) h = λ i. item.Txn (txn-home by t h i)
item-home by (item.Auto r) h = λ i. item.Auto (record r { line = number-home by r.line h.line i; postings = rules-home by r.postings h.postings i })
item-home by (item.Periodic r) h = λ i. item.Periodic (record r { line = number-home by r.line h.line i; postings = postings-home by r.postings h.postings i })
item-home by item.Gap h = refl
item-home by item.Block h = refl
item-home by (item.Price p) h = refl
item-home by (item.Directive d) h = refl

item-can : (by : Shift) (i : Item) → CanMoveItem by i → CanMoveItem (back by) (moved_item by i)
item-can by (item.Txn t) h = txn-can by t h
item-can by (item.Auto r) h = record { line = number-can by r.line h.line; postings = rules-can by r.postings h.postings }
item-can by (item.Periodic r) h = record { line = number-can by r.line h.line; postings = postings-can by r.postings h.postings }
item-can by item.Gap h = tt
item-can by item.Block h = tt
item-can by (item.Price p) h = tt
item-can by (item.Directive d) h = tt

pub piece-home : (by : Offset) (p : Piece) → CanMovePiece by p → moved_piece (back_offset by) (moved_piece by p) ≡ p
piece-home by p h = λ i. record p { at = number-home by.bytes p.at h.at i; line = number-home by.lines p.line h.line i }

pub piece-can : (by : Offset) (p : Piece) → CanMovePiece by p → CanMovePiece (back_offset by) (moved_piece by p)
piece-can by p h = record { at = number-can by.bytes p.at h.at; line = number-can by.lines p.line h.line }

pub placed-home : (by : Offset) (p : Placed) → CanMovePlaced by p → moved_placed (back_offset by) (moved_placed by p) ≡ p
placed-home by p h = λ i. record { piece = piece-home by p.piece h.piece i; item = item-home by.lines p.item h.item i }

pub placed-can : (by : Offset) (p : Placed) → CanMovePlaced by p → CanMovePlaced (back_offset by) (moved_placed by p)
placed-can by p h = record { piece = piece-can by p.piece h.piece; item = item-can by.lines p.item h.item }
