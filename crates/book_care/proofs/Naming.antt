-- Names that are declared or meant, one after another.
use Rattle.std.proofs.Common.{◌≡◌, ℕ, ◌+◌, ◌<◌, ◌≤◌, Bool, true, false, ◌&&◌, ◌||◌, not, List, length, get_or, drop, map, cond, Option, Some, None, Result, Ok, Err, OnOk, refl, sym, ap, ◌∙◌}
use Rattle.std.specs.List.{find, flat_map, list_any}
use Rattle.std.specs.Option.{option_and_then, option_to_list}
use Rattle.std.specs.Str.{bytes_eq}
use Rattle.std.proofs.lemmas.Cmp.{nat_list_eq_equiv}
use Rattle.std.proofs.lemmas.List.{drop_all}
use Rattle.std.proofs.lemmas.List.Folds.{list_any-append}
use Rattle.std.proofs.lemmas.Slice.Eq.{bytes_eq-Decides}
use Rattle.book.specs.declared.item.Placed.{Placed}
use Rattle.book.specs.declared.transaction.Txn.{Txn}
use Rattle.query_terms.proofs.Walks.{left_here}
use Rattle.book_care.specs.Breaks.{first_by, first_fault, first_lacked, first_named, first_undeclared, name_fault}
use Rattle.book_care.specs.DeclaredNames.{AreDeclaredIn, IsDeclaredFor}
use Rattle.book_care.specs.Declarations.{needs, declared_of}
use Rattle.book_care.specs.Names.{has}
use Rattle.book_care.specs.Uses.{Use, is_lacking, uses_of}
use Rattle.book_care.specs.declared.declarations.Declarations.{Declarations}
use Rattle.book_care.specs.declared.declarations.Declared.{Declared}
use Rattle.book_care.specs.declared.faults.Check.{Check}
use Rattle.book_care.specs.declared.faults.Check.TheVariants as checks

there_by : (test : List ℕ → Bool) (name q : List ℕ) (b : Bool) → bytes_eq q name ≡ b → test name ≡ true → test q ≡ (b || test q)
there_by test name q true e there = ap test ((bytes_eq-Decides q name).0 e) ∙ there
there_by test name q false e there = refl

-- a name that is there changes nothing
pub there_already : (test : List ℕ → Bool) (name q : List ℕ) → test name ≡ true → test q ≡ (bytes_eq q name || test q)
there_already test name q there = there_by test name q (bytes_eq q name) refl there

or_front : (a rest before : Bool) → ((a || rest) || before) ≡ (rest || (a || before))
or_front true true before = refl
or_front true false before = refl
or_front false rest before = refl

module _ {X A : Type 0} (f : X → List A) (p : A → Bool) (xs : List X) (i : ℕ) (whole old new : Bool) where
  -- a part of a list more
  pub any_more : (x : X) → i < length xs → x ≡ get_or xs i x → whole ≡ (list_any p (flat_map f (drop i xs)) || old) → new ≡ (list_any p (f x) || old) → whole ≡ (list_any p (flat_map f (drop (i + 1) xs)) || new)
  any_more x lt is e n =
      e
      ∙ ap (λ l. list_any p (flat_map f l) || old) (left_here xs i x lt is)
      ∙ ap (λ b. b || old) (list_any-append p (f x) (flat_map f (drop (i + 1) xs)))
      ∙ or_front (list_any p (f x)) (list_any p (flat_map f (drop (i + 1) xs))) old
      ∙ ap (λ b. list_any p (flat_map f (drop (i + 1) xs)) || b) (sym n)

  pub any_all : length xs ≤ i → whole ≡ (list_any p (flat_map f (drop i xs)) || old) → old ≡ whole
  any_all le e = sym (e ∙ ap (λ l. list_any p (flat_map f l) || old) (drop_all i xs le))

module _ {X A : Type 0} (f : X → A) (p : A → Bool) (xs : List X) (i : ℕ) (whole old new : Bool) where
  -- an item of a list more
  pub one_more : (x : X) → i < length xs → x ≡ get_or xs i x → whole ≡ (list_any p (map f (drop i xs)) || old) → new ≡ (p (f x) || old) → whole ≡ (list_any p (map f (drop (i + 1) xs)) || new)
  one_more x lt is e n =
      e
      ∙ ap (λ l. list_any p (map f l) || old) (left_here xs i x lt is)
      ∙ or_front (p (f x)) (list_any p (map f (drop (i + 1) xs))) old
      ∙ ap (λ b. list_any p (map f (drop (i + 1) xs)) || b) (sym n)

  pub one_all : length xs ≤ i → whole ≡ (list_any p (map f (drop i xs)) || old) → old ≡ whole
  one_all le e = sym (e ∙ ap (λ l. list_any p (map f l) || old) (drop_all i xs le))

-- what is kept of the declared names finds the first name that isn't declared
pub first_is : (declared : Declared) (check : Check) (items : List Placed) (txns : List Txn) → declared.check ≡ check → ((q : List ℕ) → has declared.names q ≡ list_any (bytes_eq q) (declared_of check items)) → find (is_lacking declared) (uses_of declared.check txns) ≡ first_undeclared check items txns
first_is declared check items txns same names =
    λ k. find (λ (u : Use). needs (same k) u.1 && not (names u.1 k)) (uses_of (same k) txns)

-- nothing is there yet
pub start_any : (a b : Bool) → b ≡ false → a ≡ (a || b)
start_any true b none = refl
start_any false b none = sym none

either : (b old : Bool) → cond b true old ≡ (b || old)
either true old = refl
either false old = refl

-- a name that is put in
pub put_is : (key name q : List ℕ) (old new : Bool) → key ≡ name → new ≡ cond (bytes_eq key q) true old → new ≡ (bytes_eq q name || old)
put_is key name q old new same h =
    h ∙ ap (λ b. cond b true old) (ap (λ (k : List ℕ). bytes_eq k q) same ∙ nat_list_eq_equiv.symm name q) ∙ either (bytes_eq q name) old

-- the name that a directive declares, if it does
pub note_some : (q name : List ℕ) (o : Option (List ℕ)) (old new : Bool) → Some name ≡ o → new ≡ (bytes_eq q name || old) → new ≡ (list_any (bytes_eq q) (option_to_list o) || old)
note_some q name o old new is h =
    h ∙ by_name (bytes_eq q name) old ∙ ap (λ (x : Option (List ℕ)). list_any (bytes_eq q) (option_to_list x) || old) is
  where
    by_name : (b old : Bool) → (b || old) ≡ ((b || false) || old)
    by_name true old = refl
    by_name false old = refl

pub note_none : (q : List ℕ) (o : Option (List ℕ)) (old : Bool) → None ≡ o → old ≡ (list_any (bytes_eq q) (option_to_list o) || old)
note_none q o old is = ap (λ (x : Option (List ℕ)). list_any (bytes_eq q) (option_to_list x) || old) is

-- what follows after a call that answers Ok
pub on_ok : {T E P Q : Type 0} → (r : Result T E) → (P → Q) → OnOk r P → OnOk r Q
on_ok (Ok x) f h = f h
on_ok (Err e) f h = h

-- what is said of the first name that isn't kept is what the check says of the items
pub lacked_is : (declared : Declared) (check : Check) (items : List Placed) (txns : List Txn) → IsDeclaredFor check items declared → first_lacked declared txns ≡ first_named check items txns
lacked_is declared check items txns kept =
    ap (λ (c : Check). option_and_then (name_fault c) (find (is_lacking declared) (uses_of declared.check txns))) kept.asked
    ∙ ap (option_and_then (name_fault check)) (first_is declared check items txns kept.asked kept.names)

-- where what is kept is what items declare, it says what the definition says of the items
pub first_by_is : (items : List Placed) (declarations : Declarations) (check : Check) (txns : List Txn) → AreDeclaredIn items declarations → first_by declarations check txns ≡ first_fault check items txns
first_by_is items declarations checks.Accounts txns are = lacked_is declarations.accounts checks.Accounts items txns are.accounts
first_by_is items declarations checks.Commodities txns are = lacked_is declarations.commodities checks.Commodities items txns are.commodities
first_by_is items declarations checks.Payees txns are = lacked_is declarations.payees checks.Payees items txns are.payees
first_by_is items declarations checks.Tags txns are = lacked_is declarations.tags checks.Tags items txns are.tags
first_by_is items declarations checks.OrderedDates txns are = refl
