-- Transactions that are moved from a number on have other lines; and those of items that are moved are moved.
use Rattle.std.proofs.Common.{◌≡◌, ℕ, zero, suc, ◌+◌, ◌≤◌, nat_lt, Bool, true, false, cond, List, [], ◌∷◌, ◌++◌, map, length, take, drop, refl, sym, ap, subst, ◌∙◌, arith, length-append}
use Rattle.std.proofs.lemmas.Bool.{false≢true}
use Rattle.std.proofs.lemmas.Bool.Decides.{nat_tests}
use Rattle.book.specs.declared.item.Item.{Item}
use Rattle.book.specs.declared.item.Item.TheVariants as item
use Rattle.book.specs.declared.item.Placed.{Placed}
use Rattle.book.specs.declared.transaction.Posting.{Posting}
use Rattle.book.specs.declared.transaction.Txn.{Txn}
use Rattle.book.specs.Postings.{txn_in, txns_of}
use Rattle.balancing.specs.Solves.{Solves}
use Rattle.moved_lines.specs.Moving.{line_from, moved_from, moved_item, moved_items_from, moved_number, moved_piece, moved_pieces_from, moved_placed, moved_txn}
use Rattle.moved_lines.specs.Relined.{relined, relined_from, relined_posting, relined_txn}
use Rattle.moved_lines.specs.declared.shift.Offset.{Offset}
use Rattle.moved_lines.specs.declared.shift.Shift.{Shift}
use Rattle.moved_lines.proofs.Lists.{map-both}
use Rattle.moved_lines.proofs.Solved.{solves-relined}

postings-stay : (ps : List Posting) → map (relined_posting (λ l. l)) ps ≡ ps
postings-stay [] = refl
postings-stay (p ∷ ps) = λ i. p ∷ postings-stay ps i

txn-stays : (t : Txn) → relined_txn (λ l. l) t ≡ t
txn-stays t = λ i. record t { postings = postings-stay t.postings i }

before-one : (by : Shift) (b : Bool) (t : Txn) → b ≡ true → relined_txn (λ l. cond b l (moved_number by l)) t ≡ t
before-one by true t h = txn-stays t
before-one by false t h = absurd (false≢true h)

behind-one : (by : Shift) (b : Bool) (t : Txn) → b ≡ false → relined_txn (λ l. cond b l (moved_number by l)) t ≡ moved_txn by t
behind-one by true t h = absurd (false≢true (sym h))
behind-one by false t h = refl

not-before : (k n : ℕ) → n ≤ k → nat_lt k n ≡ false
not-before k n h = grind (arith, nat_tests)

is-before : (k n : ℕ) → suc k ≤ n → nat_lt k n ≡ true
is-before k n h = grind (arith, nat_tests)

all-behind : (n : ℕ) (by : Shift) (k : ℕ) (ts : List Txn) → n ≤ k → relined_from (line_from n by) k ts ≡ map (moved_txn by) ts
all-behind n by k [] h = refl
all-behind n by k (t ∷ ts) h = λ i. behind-one by (nat_lt k n) t (not-before k n h) i ∷ all-behind n by (suc k) ts (omega arith) i

from-number : (m k : ℕ) (by : Shift) (ts : List Txn) → relined_from (line_from (k + m) by) k ts ≡ take m ts ++ map (moved_txn by) (drop m ts)
from-number zero k by ts = all-behind (k + 0) by k ts (omega arith)
from-number (suc m) k by [] = refl
from-number (suc m) k by (t ∷ ts) =
    let next : k + suc m ≡ suc k + m = omega arith in
    let rest : relined_from (line_from (k + suc m) by) (suc k) ts ≡ take m ts ++ map (moved_txn by) (drop m ts) =
    ap (λ (n : ℕ). relined_from (line_from n by) (suc k) ts) next ∙ from-number m (suc k) by ts in
    λ i. before-one by (nat_lt k (k + suc m)) t (is-before k (k + suc m) (omega arith)) i ∷ rest i

pub moved-is : (n : ℕ) (by : Shift) (ts : List Txn) → moved_from n by ts ≡ relined (line_from n by) ts
moved-is n by ts =
    let same : n ≡ 0 + n = omega arith in
    sym (ap (λ (k : ℕ). relined_from (line_from k by) 0 ts) same ∙ from-number n 0 by ts)

pub solves-moved : (n : ℕ) (by : Shift) (written book : List Txn) → Solves written book → Solves (moved_from n by written) (moved_from n by book)
solves-moved n by written book s =
    let P : List Txn → Type 0 = λ ws. Solves ws (moved_from n by book) in
    let Q : List Txn → Type 0 = λ bs. Solves (relined (line_from n by) written) bs in
    subst P (sym (moved-is n by written)) (subst Q (sym (moved-is n by book)) (solves-relined (line_from n by) written book s))

-- ---- items

txn-moved : (by : Shift) (i : Item) → txn_in (moved_item by i) ≡ map (moved_txn by) (txn_in i)
txn-moved by (item.Txn t) = refl
txn-moved by (item.Auto r) = refl
txn-moved by (item.Periodic r) = refl
txn-moved by item.Gap = refl
txn-moved by item.Block = refl
txn-moved by (item.Price p) = refl
txn-moved by (item.Directive d) = refl

txns-moved : (by : Offset) (items : List Placed) → txns_of (map (moved_placed by) items) ≡ map (moved_txn by.lines) (txns_of items)
txns-moved by [] = refl
txns-moved by (p ∷ items) =
    (λ i. txn-moved by.lines p.item i ++ txns-moved by items i) ∙ sym (map-both (moved_txn by.lines) (txn_in p.item) (txns_of items))

more-before : (by : Shift) (front ts : List Txn) (n : ℕ) → front ++ moved_from n by ts ≡ moved_from (length front + n) by (front ++ ts)
more-before by [] ts n = let same : n ≡ 0 + n = omega arith in ap (λ (k : ℕ). moved_from k by ts) same
more-before by (t ∷ front) ts n =
    let next : suc (length front + n) ≡ suc (length front) + n = omega arith in
    (λ i. t ∷ more-before by front ts n i) ∙ ap (λ (k : ℕ). moved_from k by (t ∷ (front ++ ts))) next

pub items-moved : (n : ℕ) (by : Offset) (items : List Placed) → txns_of (moved_items_from n by items) ≡ moved_from (length (txns_of (take n items))) by.lines (txns_of items)
items-moved zero by items = txns-moved by items
items-moved (suc n) by [] = refl
items-moved (suc n) by (p ∷ items) =
    ap (λ (ts : List Txn). txn_in p.item ++ ts) (items-moved n by items)
    ∙ more-before by.lines (txn_in p.item) (txns_of items) (length (txns_of (take n items)))
    ∙ ap (λ (k : ℕ). moved_from k by.lines (txn_in p.item ++ txns_of items)) (sym (length-append (txn_in p.item) (txns_of (take n items))))

pub pieces-moved : (n : ℕ) (by : Offset) (items : List Placed) → map (λ (p : Placed). p.piece) (moved_items_from n by items) ≡ moved_pieces_from n by (map (λ (p : Placed). p.piece) items)
pieces-moved zero by [] = refl
pieces-moved zero by (p ∷ items) = λ i. moved_piece by p.piece ∷ pieces-moved zero by items i
pieces-moved (suc n) by [] = refl
pieces-moved (suc n) by (p ∷ items) = λ i. p.piece ∷ pieces-moved n by items i
