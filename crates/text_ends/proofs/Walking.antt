-- What pieces of bytes say one after another, as a loop reads them.
use Rattle.std.proofs.Common.{◌≡◌, ℕ, ◌+◌, ◌<◌, ◌≤◌, zero, suc, Bool, true, false, cond, List, [], ◌∷◌, ◌++◌, length, take, drop, get_or, Option, Some, None, Result, Ok, Err, refl, sym, ap, subst, ◌∙◌, arith, append_assoc, append-nil, length-take, length-drop}
use Rattle.std.specs.Prelude.{IfSome}
use Rattle.std.specs.List.{AllByRecursion}
use Rattle.std.proofs.lemmas.List.{at_drop_all, drop_more, take_all}
use Rattle.std.proofs.lemmas.List.Sums.{sum_by-cons}
use Rattle.hl_base.specs.declared.items.Piece.{Piece}
use Rattle.hl_base.specs.Items.{items_of}
use Rattle.hl_base.specs.Pieces.{IsWithin, bytes_in}
use Rattle.book.specs.declared.fault.Fault.{Fault}
use Rattle.book.specs.declared.item.Item.{Item}
use Rattle.book.specs.declared.item.Item.TheVariants as item
use Rattle.book.specs.declared.item.Placed.{Placed}
use Rattle.entry_reader.specs.After.{context_after}
use Rattle.entry_reader.specs.Causes.{cause_in, ◌>>=◌}
use Rattle.entry_reader.specs.Contexts.{Context}
use Rattle.entry_reader.specs.declared.fault.ReadFault.{ReadFault}
use Rattle.entry_reader.specs.declared.fault.ReadFault.TheVariants as faults
use Rattle.journal_reader.specs.Items.{reading}
use Rattle.hl_base.specs.Gives.{Gives}
use Rattle.text_ends.specs.Growth.{growth_fault, grown_with, lines_taken, put_behind, read_on, read_rest, rest_of, shifted, taken, unless_fault}
use Rattle.text_ends.specs.Told.{AreInside, IsSo, before_read, grown_told, is_directive, onto_told, told_behind, told_on, told_rest}
use Rattle.text_ends.specs.declared.kept.KeptEnd.{KeptEnd}
use Rattle.text_ends.specs.declared.reading.Grown.{Grown}

abbrev pub Told : Type 0
Told = Result (Option (List Placed)) Fault

-- ---- one piece

regroup : (front : List Placed) (p : Placed) (read : Told) → before_read front (read >>= λ more. Ok (onto_told p more)) ≡ before_read (front ++ p ∷ []) read
regroup front p (Ok None) = refl
regroup front p (Ok (Some more)) = ap (λ (xs : List Placed). Ok (Some xs)) (sym (append_assoc front (p ∷ []) more))
regroup front p (Err fault) = refl

module _ (context : Context) (at lines : ℕ) (bytes : List ℕ) (pieces : List Piece) (i : ℕ) (d : Piece) (front : List Placed) (total : Told) (lt : i < length pieces)
    (so_far : before_read front (told_on context at lines bytes (drop i pieces)) ≡ total) where
  abbrev p : Piece
  p = get_or pieces i d

  abbrev here : Result Item Fault
  here = reading context (lines + p.line) (take p.len (drop p.at bytes))

  abbrev place : Item → Placed
  place it = record { piece = shifted at lines p; item = it }

  abbrev left : Told
  left = told_on context at lines bytes (drop (i + 1) pieces)

  abbrev step : Result Item Fault → Told
  step r = r >>= λ it. cond {A = Told} (is_directive it) (Ok None) (left >>= λ more. Ok (onto_told (place it) more))

  split : before_read front (told_on context at lines bytes (drop i pieces)) ≡ before_read front (step here)
  unfolding told_on
  split = ap (λ (ps : List Piece). before_read front (told_on context at lines bytes ps)) (drop_more pieces i d lt)

  pub more_told : (it : Item) (front' : List Placed) → here ≡ Ok it → is_directive it ≡ false → front' ≡ front ++ place it ∷ [] → before_read front' left ≡ total
  more_told it front' said other is =
      ap (λ (xs : List Placed). before_read xs left) is
      ∙ sym (regroup front (place it) left)
      ∙ sym (ap (λ (t : Bool). before_read front (cond {A = Told} t (Ok None) (left >>= λ more. Ok (onto_told (place it) more)))) other)
      ∙ sym (ap (λ (r : Result Item Fault). before_read front (step r)) said) ∙ sym split ∙ so_far

  pub none_told : (it : Item) → here ≡ Ok it → is_directive it ≡ true → total ≡ Ok None
  none_told it said is =
      sym so_far ∙ split ∙ ap (λ (r : Result Item Fault). before_read front (step r)) said
      ∙ ap (λ (t : Bool). before_read front (cond {A = Told} t (Ok None) (left >>= λ more. Ok (onto_told (place it) more)))) is

  pub fault_told : (fault : ReadFault) → IfSome (cause_in fault) (λ f. here ≡ Err f) → IfSome (cause_in fault) (λ f. total ≡ Err f)
  fault_told faults.Memory h = tt
  fault_told (faults.Read fault) h = sym so_far ∙ split ∙ ap (λ (r : Result Item Fault). before_read front (step r)) h

pub all_told : (context : Context) (at lines : ℕ) (bytes : List ℕ) (pieces : List Piece) (i : ℕ) (front items : List Placed) (total : Told) → length pieces ≤ i → items ≡ front
    → before_read front (told_on context at lines bytes (drop i pieces)) ≡ total → total ≡ Ok (Some items)
unfolding told_on
all_told context at lines bytes pieces i front items total le e so_far =
    sym so_far ∙ at_drop_all (λ (ps : List Piece). before_read front (told_on context at lines bytes ps)) pieces i le
    ∙ ap (λ (xs : List Placed). Ok (Some xs)) (append-nil front ∙ sym e)

pub none_before : (r : Told) → before_read [] r ≡ r
none_before (Ok None) = refl
none_before (Ok (Some more)) = refl
none_before (Err fault) = refl

-- ---- the bytes that were read

-- the bytes of the first pieces are no more than those of all
read_bound : (pieces : List Piece) (i : ℕ) (d : Piece) → i < length pieces → bytes_in (take i pieces) + (get_or pieces i d).len ≤ bytes_in pieces
read_bound [] i d lt = absurd (omega arith)
read_bound (p ∷ ps) zero d lt =
    let none : bytes_in (take 0 (p ∷ ps)) ≡ 0 = refl in
    let one : get_or (p ∷ ps) 0 d ≡ p = refl in
    let all : bytes_in (p ∷ ps) ≡ p.len + bytes_in ps = sum_by-cons (λ (q : Piece). q.len) p ps in
    let len : (get_or (p ∷ ps) 0 d).len ≡ p.len = ap (λ (q : Piece). q.len) one in
    omega (arith, none, len, all)
read_bound (p ∷ ps) (suc i) d lt =
    let more = read_bound ps i d (omega arith) in
    let front : bytes_in (take (suc i) (p ∷ ps)) ≡ p.len + bytes_in (take i ps) = sum_by-cons (λ (q : Piece). q.len) p (take i ps) in
    let all : bytes_in (p ∷ ps) ≡ p.len + bytes_in ps = sum_by-cons (λ (q : Piece). q.len) p ps in
    let same : get_or (p ∷ ps) (suc i) d ≡ get_or ps i d = refl in
    let len : (get_or (p ∷ ps) (suc i) d).len ≡ (get_or ps i d).len = ap (λ (q : Piece). q.len) same in
    omega (arith, more, front, all, len)

pub read_at : (pieces : List Piece) (i : ℕ) (d : Piece) (old now later : ℕ) → i < length pieces → now ≡ old + bytes_in (take i pieces) → later ≡ now + (get_or pieces i d).len → later ≤ old + bytes_in pieces
read_at pieces i d old now later lt e h = omega (arith, e, h, read_bound pieces i d lt)

pub read_all : (pieces : List Piece) (i old now : ℕ) → length pieces ≤ i → now ≡ old + bytes_in (take i pieces) → now ≤ old + bytes_in pieces
read_all pieces i old now le e = omega (arith, e, ap bytes_in (take_all i pieces le))

pub inside : (at lines : ℕ) (bytes : List ℕ) (pieces : List Piece) → at + length bytes ≤ 16777216 → lines ≤ at → AllByRecursion (IsWithin (length bytes)) pieces → AreInside at lines bytes pieces
inside at lines bytes [] few least h = tt
inside at lines bytes (p ∷ ps) few least h =
    let ends = (h.0).bytes in
    let counted = (h.0).lines in
    ((ends, omega (arith, ends, counted, few, least), omega (arith, ends, few)), inside at lines bytes ps few least h.1)

pub short : (n at : ℕ) (bytes : List ℕ) → at + n ≤ length bytes → length (take n (drop at bytes)) ≡ n
short n at bytes h = omega (arith, h, length-take n (drop at bytes), length-drop at bytes)

-- ---- what is told is so

-- an item that is no directive leaves the context as it is
pub stays : (context : Context) (i : Item) → is_directive i ≡ false → context_after context i ≡ context
stays context (item.Txn t) h = refl
stays context item.Gap h = refl
stays context item.Block h = refl
stays context (item.Auto r) h = refl
stays context (item.Periodic r) h = refl
stays context (item.Price p) h = refl
stays context (item.Directive d) h = absurd (let never : ⊥ = cc in never)

-- what is told of some pieces, and what they say
abbrev SaysSo : Told → Result (List Placed) Fault → Type 0
SaysSo (Ok None) r = Unit {0}
SaysSo (Ok (Some items)) r = r ≡ Ok items
SaysSo (Err fault) r = r ≡ Err fault

onto_so : (p : Placed) (t : Told) (r : Result (List Placed) Fault) → SaysSo t r → SaysSo (t >>= λ more. Ok (onto_told p more)) (r >>= λ more. Ok (p ∷ more))
onto_so p (Ok None) r h = tt
onto_so p (Ok (Some items)) r h = ap (λ (x : Result (List Placed) Fault). x >>= λ more. Ok (p ∷ more)) h
onto_so p (Err fault) r h = ap (λ (x : Result (List Placed) Fault). x >>= λ more. Ok (p ∷ more)) h

one_so : (o : Result Item Fault) (place : Item → Placed) (told : Told) (rest : Item → Result (List Placed) Fault) → ((i : Item) → is_directive i ≡ false → SaysSo told (rest i))
    → SaysSo (o >>= λ i. cond {A = Told} (is_directive i) (Ok None) (told >>= λ more. Ok (onto_told (place i) more))) (o >>= λ i. rest i >>= λ more. Ok (place i ∷ more))
one_so (Err fault) place told rest h = refl
one_so (Ok i) place told rest h = by (is_directive i) refl
  where
    by : (t : Bool) → is_directive i ≡ t → SaysSo (cond {A = Told} t (Ok None) (told >>= λ more. Ok (onto_told (place i) more))) (rest i >>= λ more. Ok (place i ∷ more))
    by true e = tt
    by false e = onto_so (place i) told (rest i) (h i e)

told_so : (context : Context) (at lines : ℕ) (bytes : List ℕ) (ps : List Piece) → SaysSo (told_on context at lines bytes ps) (read_on context at lines bytes ps)
unfolding told_on read_on
told_so context at lines bytes [] = refl
told_so context at lines bytes (p ∷ ps) =
    one_so (reading context (lines + p.line) (take p.len (drop p.at bytes))) (λ i. record { piece = shifted at lines p; item = i }) (told_on context at lines bytes ps) (λ i. read_on (context_after context i) at lines bytes ps)
    (λ i e. subst (λ (c : Context). SaysSo (told_on context at lines bytes ps) (read_on c at lines bytes ps)) (sym (stays context i e)) (told_so context at lines bytes ps))

answer_is : (e : KeptEnd) (bytes : List ℕ) (r : Result (Option Grown) ReadFault) (o : Option Fault) (t : Told) (s : Result (List Placed) Fault) → SaysSo t s
    → Gives (λ (g : Option Grown). g) cause_in r (unless_fault o (t >>= λ items. Ok (grown_told e bytes items)))
    → IsSo r (unless_fault o (s >>= λ items. Ok (grown_with e bytes items)))
answer_is e bytes (Ok None) o t s h g = tt
answer_is e bytes (Ok (Some grown)) (Some fault) t s h g = absurd (let never : ⊥ = cc in never)
answer_is e bytes (Ok (Some grown)) None (Ok None) s h g = absurd (let never : ⊥ = cc in never)
answer_is e bytes (Ok (Some grown)) None (Ok (Some items)) s h g =
    ap (λ (x : Result (List Placed) Fault). x >>= λ is. Ok (grown_with e bytes is)) h ∙ (let same : grown_with e bytes items ≡ grown = cc in λ i. Ok (same i))
answer_is e bytes (Ok (Some grown)) None (Err fault) s h g = absurd (let never : ⊥ = cc in never)
answer_is e bytes (Err faults.Memory) o t s h g = tt
answer_is e bytes (Err (faults.Read fault)) (Some cause) t s h g = g2 g
  where
    g2 : (let x : Result (Option Grown) Fault = Err cause in x) ≡ Err fault → (let y : Result Grown Fault = Err cause in y) ≡ Err fault
    g2 k = let same : cause ≡ fault = cc in λ i. Err (same i)
answer_is e bytes (Err (faults.Read fault)) None (Ok items) s h g = absurd (let never : ⊥ = cc in never)
answer_is e bytes (Err (faults.Read fault)) None (Err cause) s h g =
    ap (λ (x : Result (List Placed) Fault). x >>= λ is. Ok (grown_with e bytes is)) h ∙ (let same : cause ≡ fault = cc in λ i. Err (same i))

pub is_so : (e : KeptEnd) (bytes : List ℕ) (r : Result (Option Grown) ReadFault) → Gives (λ (g : Option Grown). g) cause_in r (told_behind e bytes) → IsSo r (put_behind e bytes)
is_so e bytes r h = answer_is e bytes r (growth_fault e bytes) (told_rest e bytes) (read_rest e bytes) (told_so e.context (e.bytes + taken e bytes) (e.lines + lines_taken e bytes) (rest_of e bytes) (items_of (rest_of e bytes))) h

abbrev pub Items : Type 0
Items = Option (List Placed)
