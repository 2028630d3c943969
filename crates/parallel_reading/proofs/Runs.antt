-- Runs of pieces, one behind another.
use Rattle.std.proofs.Common.{◌≡◌, ℕ, zero, suc, ◌+◌, ◌-◌, ◌*◌, ◌/◌, ◌^◌, ◌<◌, ◌≤◌, Bool, false, ◌||◌, List, [], ◌∷◌, ◌++◌, Result, Ok, Err, Vec, Global, length, get_or, take, drop, refl, sym, ap, subst, ◌∙◌, append_assoc, append-nil, take-append-drop, arith}
use Rattle.std.specs.Prelude.{IfSome}
use Rattle.std.specs.List.{AllByRecursion}
use Rattle.std.proofs.lemmas.List.{at_drop_all, drop_more, get_or_default}
use Rattle.std.proofs.lemmas.List.Sums.{sum_by-append}
use Rattle.hl_base.specs.Gives.{Gives}
use Rattle.hl_base.specs.declared.items.Piece.{Piece}
use Rattle.hl_base.specs.Pieces.{IsWithin, bytes_in}
use Rattle.book.specs.declared.fault.Fault.{Fault}
use Rattle.book.specs.declared.item.Item.{Item}
use Rattle.book.specs.declared.item.Placed.{Placed}
use Rattle.entry_reader.specs.declared.fault.ReadFault.{ReadFault}
use Rattle.entry_reader.specs.declared.fault.ReadFault.TheVariants as faults
use Rattle.entry_reader.specs.Causes.{◌>>=◌, cause_in}
use Rattle.entry_reader.specs.Contexts.{Context}
use Rattle.entry_reader.proofs.Lines.{few_within}
use Rattle.journal_reader.specs.Items.{reading}
use Rattle.journal_reader.specs.Whole.{AreWithin}
use Rattle.parallel_reading.specs.Runs.{both, bytes_of, first_part, has_head, is_head, read_alike, second_part}

abbrev pub Told : Type 0
Told = Result (List Placed) Fault

-- ---- a loop over the pieces of a run

-- items before others that are still to be read
abbrev pub items_before : List Placed → Told → Told
items_before front read = read >>= λ items. Ok (front ++ items)

regroup : (front : List Placed) (p : Placed) (read : Told) → items_before front (read >>= λ more. Ok (p ∷ more)) ≡ items_before (front ++ p ∷ []) read
regroup front p (Ok more) = ap (λ (x : List Placed). Ok x) (sym (append_assoc front (p ∷ []) more))
regroup front p (Err f) = refl

-- one piece more
item_more : (context : Context) (text : List ℕ) (pieces : List Piece) (i : ℕ) (front found : List Placed) (piece : Piece) (it : Item) (total : Told) → i < length pieces → piece ≡ get_or pieces i piece
    → reading context piece.line (bytes_of text piece) ≡ Ok it → found ≡ front ++ record { piece = piece; item = it } ∷ []
    → items_before front (read_alike context text (drop i pieces)) ≡ total → items_before found (read_alike context text (drop (i + 1) pieces)) ≡ total
unfolding read_alike
item_more context text pieces i front found piece it total lt at read made so_far =
    let placed : Placed = record { piece = piece; item = it } in
    let rest = drop (i + 1) pieces in
    let cut : drop i pieces ≡ piece ∷ rest = drop_more pieces i piece lt ∙ ap (λ (p : Piece). p ∷ rest) (sym at) in
    let one : items_before front (read_alike context text (drop i pieces)) ≡ items_before (front ++ placed ∷ []) (read_alike context text rest) =
    rw (cut, read) (regroup front placed (read_alike context text rest)) in
    rw made (sym one ∙ so_far)

item_stops : (fault : ReadFault) (context : Context) (text : List ℕ) (pieces : List Piece) (i : ℕ) (front : List Placed) (piece : Piece) (total : Told) → i < length pieces → piece ≡ get_or pieces i piece
    → IfSome (cause_in fault) (λ f. reading context piece.line (bytes_of text piece) ≡ Err f)
    → items_before front (read_alike context text (drop i pieces)) ≡ total → IfSome (cause_in fault) (λ f. total ≡ Err f)
unfolding read_alike
item_stops faults.Memory context text pieces i front piece total lt at h so_far = tt
item_stops (faults.Read fault) context text pieces i front piece total lt at read so_far =
    let rest = drop (i + 1) pieces in
    let cut : drop i pieces ≡ piece ∷ rest = drop_more pieces i piece lt ∙ ap (λ (p : Piece). p ∷ rest) (sym at) in
    let one : items_before front (read_alike context text (drop i pieces)) ≡ Err fault = rw (cut, read) refl in
    sym so_far ∙ one

pub all_read : (context : Context) (text : List ℕ) (pieces : List Piece) (i : ℕ) (front items : List Placed) (total : Told) → length pieces ≤ i → items ≡ front
    → items_before front (read_alike context text (drop i pieces)) ≡ total → total ≡ Ok items
unfolding read_alike
all_read context text pieces i front items total le e so_far =
    sym so_far ∙ ap (items_before front) (at_drop_all (read_alike context text) pieces i le) ∙ ap (λ (x : List Placed). Ok x) (append-nil front ∙ sym e)

-- the same, at the place that a loop has reached
pub more_at : (context : Context) (text bytes : List ℕ) (pieces : List Piece) (i : ℕ) (d : Piece) (front found : List Placed) (it : Item) (total : Told) → i < length pieces
    → bytes ≡ bytes_of text (get_or pieces i d) → reading context (get_or pieces i d).line bytes ≡ Ok it
    → found ≡ front ++ record { piece = get_or pieces i d; item = it } ∷ [] → items_before front (read_alike context text (drop i pieces)) ≡ total
    → items_before found (read_alike context text (drop (i + 1) pieces)) ≡ total
more_at context text bytes pieces i d front found it total lt h read made so_far =
    let p = get_or pieces i d in
    item_more context text pieces i front found p it total lt (get_or_default pieces i d p lt) (sym (ap (reading context p.line) h) ∙ read) made so_far

pub stops_at : (fault : ReadFault) (context : Context) (text bytes : List ℕ) (pieces : List Piece) (i : ℕ) (d : Piece) (front : List Placed) (total : Told) → i < length pieces
    → bytes ≡ bytes_of text (get_or pieces i d) → IfSome (cause_in fault) (λ f. reading context (get_or pieces i d).line bytes ≡ Err f)
    → items_before front (read_alike context text (drop i pieces)) ≡ total → IfSome (cause_in fault) (λ f. total ≡ Err f)
stops_at fault context text bytes pieces i d front total lt h read so_far =
    let p = get_or pieces i d in
    item_stops fault context text pieces i front p total lt (get_or_default pieces i d p lt)
    (subst (λ (r : Result Item Fault). IfSome (cause_in fault) (λ f. r ≡ Err f)) (ap (reading context p.line) h) read) so_far

-- ---- a loop that seeks a directive, a price or a rule

-- the piece at a place, and those behind it
head_at : (text : List ℕ) (pieces : List Piece) (i : ℕ) (d : Piece) → i < length pieces → has_head text (drop i pieces) ≡ (is_head (bytes_of text (get_or pieces i d)) || has_head text (drop (i + 1) pieces))
head_at text pieces i d lt = ap (has_head text) (drop_more pieces i d lt)

-- the piece before those that are no heads
pub head_before : (text : List ℕ) (pieces : List Piece) (next at : ℕ) (d : Piece) (head : Bool) → next + 1 ≡ at → next < length pieces → head ≡ is_head (bytes_of text (get_or pieces next d)) → head ≡ false
    → has_head text (drop at pieces) ≡ false → has_head text (drop next pieces) ≡ false
head_before text pieces next at d head e lt h is so_far =
    head_at text pieces next d lt ∙ ap (λ (b : Bool). b || has_head text (drop (next + 1) pieces)) (sym h ∙ is) ∙ ap (λ (n : ℕ). has_head text (drop n pieces)) e ∙ so_far

pub no_pieces : (text : List ℕ) (pieces : List Piece) → has_head text (drop (length pieces - 0) pieces) ≡ false
no_pieces text pieces = at_drop_all (has_head text) pieces (length pieces - 0) (omega arith)

-- ---- two runs

pub both_nothing : (read : Told) → read ≡ both (Ok []) read
both_nothing (Ok items) = refl
both_nothing (Err f) = refl

abbrev pub with_first : Placed → Told → Told
with_first p read = read >>= λ more. Ok (p ∷ more)

pub first_kept : (p : Placed) (front back : Told) → with_first p (both front back) ≡ both (with_first p front) back
first_kept p (Ok items) (Ok more) = refl
first_kept p (Ok items) (Err f) = refl
first_kept p (Err f) back = refl

one_behind : (p : Piece) (read : Result Item Fault) (front back whole : Told) → whole ≡ both front back
    → (read >>= λ i. with_first (record { piece = p; item = i }) whole) ≡ both (read >>= λ i. with_first (record { piece = p; item = i }) front) back
one_behind p (Ok i) front back whole e = ap (with_first (record { piece = p; item = i })) e ∙ first_kept (record { piece = p; item = i }) front back
one_behind p (Err f) front back whole e = refl

pub two_runs : (context : Context) (text : List ℕ) (ps qs : List Piece) → read_alike context text (ps ++ qs) ≡ both (read_alike context text ps) (read_alike context text qs)
unfolding read_alike
two_runs context text [] qs = both_nothing (read_alike context text qs)
two_runs context text (p ∷ ps) qs =
    one_behind p (reading context p.line (bytes_of text p)) (read_alike context text ps) (read_alike context text qs) (read_alike context text (ps ++ qs)) (two_runs context text ps qs)

-- a run that is cut in two
pub cut_run : (context : Context) (text : List ℕ) (n : ℕ) (ps : List Piece) → both (read_alike context text (take n ps)) (read_alike context text (drop n ps)) ≡ read_alike context text ps
cut_run context text n ps = sym (two_runs context text (take n ps) (drop n ps)) ∙ ap (read_alike context text) (take-append-drop n ps)

-- Runs are joined from the front on.
regroup_runs : (x y z : Told) → both (both x y) z ≡ both x (both y z)
regroup_runs (Ok x) (Ok y) (Ok z) = ap (λ (l : List Placed). Ok l) (append_assoc x y z)
regroup_runs (Ok x) (Ok y) (Err f) = refl
regroup_runs (Ok x) (Err f) z = refl
regroup_runs (Err f) y z = refl

behind : (x a b c d : Told) → both (both (both (both x a) b) c) d ≡ both x (both (both (both a b) c) d)
behind x a b c d =
    ap (λ (r : Told). both (both r c) d) (regroup_runs x a b) ∙ ap (λ (r : Told). both r d) (regroup_runs x (both a b) c) ∙ regroup_runs x (both (both a b) c) d

-- the four parts of a run
four_runs : (context : Context) (text : List ℕ) (pieces : List Piece)
    → both (both (both (read_alike context text (first_part (first_part pieces))) (read_alike context text (second_part (first_part pieces)))) (read_alike context text (first_part (second_part pieces))))
    (read_alike context text (second_part (second_part pieces))) ≡ read_alike context text pieces
four_runs context text pieces =
    let left = first_part pieces in
    let right = second_part pieces in
    regroup_runs (both (read_alike context text (first_part left)) (read_alike context text (second_part left))) (read_alike context text (first_part right)) (read_alike context text (second_part right))
    ∙ ap (λ (r : Told). both r (both (read_alike context text (first_part right)) (read_alike context text (second_part right)))) (cut_run context text (length left / 5 * 3) left)
    ∙ ap (λ (r : Told). both (read_alike context text left) r) (cut_run context text (length right / 5 * 3) right)
    ∙ cut_run context text (length pieces / 5 * 3) pieces

-- the four parts of a run behind other items
pub five_runs : (x : Told) (context : Context) (text : List ℕ) (pieces : List Piece)
    → both (both (both (both x (read_alike context text (first_part (first_part pieces)))) (read_alike context text (second_part (first_part pieces)))) (read_alike context text (first_part (second_part pieces))))
    (read_alike context text (second_part (second_part pieces))) ≡ both x (read_alike context text pieces)
five_runs x context text pieces =
    behind x (read_alike context text (first_part (first_part pieces))) (read_alike context text (second_part (first_part pieces))) (read_alike context text (first_part (second_part pieces)))
    (read_alike context text (second_part (second_part pieces)))
    ∙ ap (both x) (four_runs context text pieces)

-- ---- pieces that lie in the text

pub front_within : (text : List ℕ) (n : ℕ) (pieces : List Piece) → AreWithin text pieces → AreWithin text (take n pieces)
front_within text zero pieces h = tt
front_within text (suc n) [] h = tt
front_within text (suc n) (p ∷ ps) h = (h.0, front_within text n ps h.1)

pub back_within : (text : List ℕ) (n : ℕ) (pieces : List Piece) → AreWithin text pieces → AreWithin text (drop n pieces)
back_within text zero pieces h = h
back_within text (suc n) [] h = h
back_within text (suc n) (p ∷ ps) h = back_within text n ps h.1

-- ---- what a run that was read tells

abbrev pub Run : Type 0
Run = Result (Vec Placed Global) ReadFault

pub run_stops : (run : Run) (fault : ReadFault) (told : Told) → run ≡ Err fault → Gives (λ (v : Vec Placed Global). v.items) cause_in run told → IfSome (cause_in fault) (λ f. told ≡ Err f)
run_stops run fault told is h = subst (λ (r : Run). Gives (λ (v : Vec Placed Global). v.items) cause_in r told) is h

pub run_read : (run : Run) (items : Vec Placed Global) (told : Told) → run ≡ Ok items → Gives (λ (v : Vec Placed Global). v.items) cause_in run told → told ≡ Ok items.items
run_read run items told is h = subst (λ (r : Run). Gives (λ (v : Vec Placed Global). v.items) cause_in r told) is h

-- ---- what a second run's fault, or want of memory, is in both

pub front_stops : (fault : ReadFault) (first second : Told) → IfSome (cause_in fault) (λ f. first ≡ Err f) → IfSome (cause_in fault) (λ f. both first second ≡ Err f)
front_stops faults.Memory first second h = tt
front_stops (faults.Read fault) first second h = ap (λ (r : Told). both r second) h

pub back_stops : (fault : ReadFault) (items : List Placed) (first second : Told) → first ≡ Ok items → IfSome (cause_in fault) (λ f. second ≡ Err f) → IfSome (cause_in fault) (λ f. both first second ≡ Err f)
back_stops faults.Memory items first second h e = tt
back_stops (faults.Read fault) items first second h e = ap (λ (r : Told). both r second) h ∙ ap (λ (r : Told). both (Ok items) r) e

pub both_read : (items more all : List Placed) (first second : Told) → first ≡ Ok items → second ≡ Ok more → all ≡ items ++ more → both first second ≡ Ok all
both_read items more all first second h k e = ap (λ (r : Told). both r second) h ∙ ap (λ (r : Told). both (Ok items) r) k ∙ ap (λ (l : List Placed). Ok l) (sym e)

-- pieces that lie in a text that isn't too long
pub within : (text : List ℕ) (pieces : List Piece) → length text + 1 < 2 ^ 64 → AllByRecursion (IsWithin (length text)) pieces → AreWithin text pieces
within text [] short h = tt
within text (p ∷ ps) short h = ((h.0.bytes, omega (arith, h.0.lines, few_within p.len (drop p.at text))), within text ps short h.1)

-- ---- the bytes of two runs

bytes_both : (front back : List Piece) → bytes_in (front ++ back) ≡ bytes_in front + bytes_in back
bytes_both front back = sum_by-append (λ (p : Piece). p.len) front back

pub bytes_after : (pieces front back : List Piece) (old middle new : ℕ) → front ++ back ≡ pieces → middle ≡ old + bytes_in front → new ≡ middle + bytes_in back → new ≡ old + bytes_in pieces
bytes_after pieces front back old middle new whole h k =
    let both = bytes_both front back in
    let all : bytes_in (front ++ back) ≡ bytes_in pieces = ap bytes_in whole in
    omega (arith, both, all, h, k)

pub bytes_within : (pieces front back : List Piece) (old middle : ℕ) → front ++ back ≡ pieces → middle ≤ old + bytes_in front → middle ≤ old + bytes_in pieces
bytes_within pieces front back old middle whole h =
    let both = bytes_both front back in
    let all : bytes_in (front ++ back) ≡ bytes_in pieces = ap bytes_in whole in
    omega (arith, both, all, h)

pub bytes_same : (n m : ℕ) → n ≡ m → n ≤ m
bytes_same n m e = omega (arith, e)

-- ---- what one definition tells, another one does

pub gives_so : (run : Run) (one other : Told) → one ≡ other → Gives (λ (v : Vec Placed Global). v.items) cause_in run other → Gives (λ (v : Vec Placed Global). v.items) cause_in run one
gives_so run one other e h = subst (λ (t : Told). Gives (λ (v : Vec Placed Global). v.items) cause_in run t) (sym e) h
