-- Reading pieces one after the other, as a loop does.
use Rattle.std.proofs.Common.{◌≡◌, ℕ, zero, suc, ◌+◌, ◌^◌, ◌<◌, ◌≤◌, List, [], ◌∷◌, ◌++◌, map, Option, Result, Ok, Err, length, get_or, take, drop, refl, sym, ap, subst, ◌∙◌, append_assoc, arith}
use Rattle.std.specs.Prelude.{IfSome}
use Rattle.std.proofs.lemmas.List.{append-nil, at_drop_all, drop_more, map_push, get_or_default}
use Rattle.std.specs.List.{AllByRecursion}
use Rattle.std.proofs.lemmas.List.Sums.{sum_by-cons}
use Rattle.hl_base.specs.declared.items.Piece.{Piece}
use Rattle.hl_base.specs.Pieces.{IsWithin, bytes_in}
use Rattle.book.specs.declared.fault.Fault.{Fault}
use Rattle.book.specs.declared.item.Item.{Item}
use Rattle.book.specs.declared.item.Placed.{Placed}
use Rattle.entry_reader.specs.declared.fault.ReadFault.{ReadFault}
use Rattle.entry_reader.specs.declared.fault.ReadFault.TheVariants as faults
use Rattle.entry_reader.specs.Causes.{◌>>=◌, cause_in}
use Rattle.entry_reader.specs.Contexts.{Context, context_of}
use Rattle.entry_reader.proofs.Lines.{few_within}
use Rattle.journal_reader.specs.Whole.{AreWithin}
use Rattle.journal_reader.specs.Items.{reading, reading_from}

abbrev pub items_at : List Placed → List Item
items_at placed = map (λ p. p.item) placed

-- items before others that are still to be read
abbrev pub items_before : List Placed → Result (List Placed) Fault → Result (List Placed) Fault
items_before front read = read >>= λ items. Ok (front ++ items)

regroup : (front : List Placed) (p : Placed) (read : Result (List Placed) Fault) → items_before front (read >>= λ more. Ok (p ∷ more)) ≡ items_before (front ++ p ∷ []) read
regroup front p (Ok more) = ap (λ (x : List Placed). Ok x) (sym (append_assoc front (p ∷ []) more))
regroup front p (Err f) = refl

-- one piece more
item_more : (year : Option ℕ) (text : List ℕ) (pieces : List Piece) (i : ℕ) (front found : List Placed) (piece : Piece) (it : Item) (total : Result (List Placed) Fault) → i < length pieces → piece ≡ get_or pieces i piece
    → reading (context_of year (items_at front)) piece.line (take piece.len (drop piece.at text)) ≡ Ok it → found ≡ front ++ record { piece = piece; item = it } ∷ []
    → items_before front (reading_from year (items_at front) text (drop i pieces)) ≡ total → items_before found (reading_from year (items_at found) text (drop (i + 1) pieces)) ≡ total
unfolding reading_from
item_more year text pieces i front found piece it total lt at read made so_far =
    let placed : Placed = record { piece = piece; item = it } in
    let rest = drop (i + 1) pieces in
    let cut : drop i pieces ≡ piece ∷ rest = drop_more pieces i piece lt ∙ ap (λ (p : Piece). p ∷ rest) (sym at) in
    let more : items_at found ≡ items_at front ++ it ∷ [] = ap items_at made ∙ map_push (λ (p : Placed). p.item) front placed in
    let one : items_before front (reading_from year (items_at front) text (drop i pieces)) ≡ items_before (front ++ placed ∷ []) (reading_from year (items_at front ++ it ∷ []) text rest) =
    rw (cut, read) (regroup front placed (reading_from year (items_at front ++ it ∷ []) text rest)) in
    rw (more, made) (sym one ∙ so_far)

item_stops : (fault : ReadFault) (year : Option ℕ) (text : List ℕ) (pieces : List Piece) (i : ℕ) (front : List Placed) (piece : Piece) (total : Result (List Placed) Fault) → i < length pieces → piece ≡ get_or pieces i piece
    → IfSome (cause_in fault) (λ f. reading (context_of year (items_at front)) piece.line (take piece.len (drop piece.at text)) ≡ Err f)
    → items_before front (reading_from year (items_at front) text (drop i pieces)) ≡ total → IfSome (cause_in fault) (λ f. total ≡ Err f)
unfolding reading_from
item_stops faults.Memory year text pieces i front piece total lt at h so_far = tt
item_stops (faults.Read fault) year text pieces i front piece total lt at read so_far =
    let rest = drop (i + 1) pieces in
    let cut : drop i pieces ≡ piece ∷ rest = drop_more pieces i piece lt ∙ ap (λ (p : Piece). p ∷ rest) (sym at) in
    let one : items_before front (reading_from year (items_at front) text (drop i pieces)) ≡ Err fault = rw (cut, read) refl in
    sym so_far ∙ one

pub all_read : (year : Option ℕ) (text : List ℕ) (pieces : List Piece) (i : ℕ) (front items : List Placed) (total : Result (List Placed) Fault) → length pieces ≤ i → items ≡ front
    → items_before front (reading_from year (items_at front) text (drop i pieces)) ≡ total → total ≡ Ok items
unfolding reading_from
all_read year text pieces i front items total le e so_far =
    sym so_far ∙ ap (items_before front) (at_drop_all (reading_from year (items_at front) text) pieces i le) ∙ ap (λ (x : List Placed). Ok x) (append-nil front ∙ sym e)

-- the same, at the place that a loop has reached
same_reading : (year : Option ℕ) (text bytes : List ℕ) (context : Context) (front : List Placed) (p : Piece) → context ≡ context_of year (items_at front) → bytes ≡ take p.len (drop p.at text)
    → reading context p.line bytes ≡ reading (context_of year (items_at front)) p.line (take p.len (drop p.at text))
same_reading year text bytes context front p e h = ap (λ (c : Context). reading c p.line bytes) e ∙ ap (reading (context_of year (items_at front)) p.line) h

pub more_at : (year : Option ℕ) (text bytes : List ℕ) (context next : Context) (pieces : List Piece) (i : ℕ) (d : Piece) (front found : List Placed) (it : Item) (total : Result (List Placed) Fault) → i < length pieces
    → context ≡ context_of year (items_at front) → bytes ≡ take (get_or pieces i d).len (drop (get_or pieces i d).at text) → reading context (get_or pieces i d).line bytes ≡ Ok it
    → found ≡ front ++ record { piece = get_or pieces i d; item = it } ∷ [] → next ≡ context_of year (items_at front ++ it ∷ []) → items_before front (reading_from year (items_at front) text (drop i pieces)) ≡ total
    → (items_before found (reading_from year (items_at found) text (drop (i + 1) pieces)) ≡ total) × (next ≡ context_of year (items_at found))
more_at year text bytes context next pieces i d front found it total lt e h read made after so_far =
    let p = get_or pieces i d in
    let more : items_at found ≡ items_at front ++ it ∷ [] = ap items_at made ∙ map_push (λ (q : Placed). q.item) front (record { piece = p; item = it }) in (
      item_more year text pieces i front found p it total lt (get_or_default pieces i d p lt) (sym (same_reading year text bytes context front p e h) ∙ read) made so_far,
      after ∙ ap (context_of year) (sym more),
    )

pub stops_at : (fault : ReadFault) (year : Option ℕ) (text bytes : List ℕ) (context : Context) (pieces : List Piece) (i : ℕ) (d : Piece) (front : List Placed) (total : Result (List Placed) Fault) → i < length pieces
    → context ≡ context_of year (items_at front) → bytes ≡ take (get_or pieces i d).len (drop (get_or pieces i d).at text)
    → IfSome (cause_in fault) (λ f. reading context (get_or pieces i d).line bytes ≡ Err f) → items_before front (reading_from year (items_at front) text (drop i pieces)) ≡ total → IfSome (cause_in fault) (λ f. total ≡ Err f)
stops_at fault year text bytes context pieces i d front total lt e h read so_far =
    let p = get_or pieces i d in
    item_stops fault year text pieces i front p total lt (get_or_default pieces i d p lt)
    (subst (λ (r : Result Item Fault). IfSome (cause_in fault) (λ f. r ≡ Err f)) (same_reading year text bytes context front p e h) read) so_far

-- the bytes of the first pieces are no more than those of all
bytes_bound : (pieces : List Piece) (i : ℕ) (d : Piece) → i < length pieces → bytes_in (take i pieces) + (get_or pieces i d).len ≤ bytes_in pieces
bytes_bound [] i d lt = absurd (omega arith)
bytes_bound (p ∷ ps) zero d lt =
    let none : bytes_in (take 0 (p ∷ ps)) ≡ 0 = refl in
    let one : get_or (p ∷ ps) 0 d ≡ p = refl in
    let all : bytes_in (p ∷ ps) ≡ p.len + bytes_in ps = sum_by-cons (λ (q : Piece). q.len) p ps in
    let len : (get_or (p ∷ ps) 0 d).len ≡ p.len = ap (λ (q : Piece). q.len) one in
    omega (arith, none, len, all)
bytes_bound (p ∷ ps) (suc i) d lt =
    let more = bytes_bound ps i d (omega arith) in
    let front : bytes_in (take (suc i) (p ∷ ps)) ≡ p.len + bytes_in (take i ps) = sum_by-cons (λ (q : Piece). q.len) p (take i ps) in
    let all : bytes_in (p ∷ ps) ≡ p.len + bytes_in ps = sum_by-cons (λ (q : Piece). q.len) p ps in
    let same : get_or (p ∷ ps) (suc i) d ≡ get_or ps i d = refl in
    let len : (get_or (p ∷ ps) (suc i) d).len ≡ (get_or ps i d).len = ap (λ (q : Piece). q.len) same in
    omega (arith, more, front, all, len)

take_short : (n : ℕ) (xs : List ℕ) → length (take n xs) ≤ n
take_short zero xs = omega arith
take_short (suc n) [] = omega arith
take_short (suc n) (x ∷ xs) = omega (arith, take_short n xs)

pub still_bound : (pieces : List Piece) (i : ℕ) (d : Piece) (text bytes : List ℕ) (old now : ℕ) → i < length pieces → bytes ≡ take (get_or pieces i d).len (drop (get_or pieces i d).at text)
    → now ≡ old + bytes_in (take i pieces) → now + length bytes ≤ old + bytes_in pieces
still_bound pieces i d text bytes old now lt h e =
    let within = bytes_bound pieces i d lt in
    let short : length bytes ≤ (get_or pieces i d).len = rw h (take_short (get_or pieces i d).len (drop (get_or pieces i d).at text)) in
    omega (arith, within, short, e)

-- pieces that lie in a text that isn't too long
pub within : (text : List ℕ) (pieces : List Piece) → length text + 1 < 2 ^ 64 → AllByRecursion (IsWithin (length text)) pieces → AreWithin text pieces
within text [] short h = tt
within text (p ∷ ps) short h = ((h.0.bytes, omega (arith, h.0.lines, few_within p.len (drop p.at text))), within text ps short h.1)
