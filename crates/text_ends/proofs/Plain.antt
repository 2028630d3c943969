-- Pieces that are no directives say none, so what they come to is told.
use Rattle.std.proofs.Common.{ℕ, zero, suc, ◌≡◌, ◌+◌, ◌≤◌, Bool, true, false, cond, ◌==◌, List, [], ◌∷◌, ◌++◌, length, take, drop, Option, Some, None, Result, Ok, Err, refl, sym, ap, ◌∙◌, arith, append_assoc, length-append}
use Rattle.std.specs.Prelude.{nat_lt}
use Rattle.std.specs.List.{concat, AllByRecursion}
use Rattle.std.specs.Str.{is_utf8}
use Rattle.std.proofs.Math.Seq.{drop-append_seam}
use Rattle.std.proofs.lemmas.Bool.{false≢true}
use Rattle.hl_base.specs.Items.{cut_from, items_of, kind_of, lines_more}
use Rattle.hl_base.specs.Limits.{entry_limit}
use Rattle.hl_base.specs.Lines.{first_line, lines_of}
use Rattle.hl_base.specs.declared.items.Kind.{Kind}
use Rattle.hl_base.specs.declared.items.Kind.TheVariants as kinds
use Rattle.hl_base.specs.declared.items.Piece.{Piece}
use Rattle.hl_time.specs.Calendar.{year_of}
use Rattle.book.specs.declared.fault.Cause.TheVariants as cause
use Rattle.book.specs.declared.fault.Fault.{Fault}
use Rattle.book.specs.declared.item.Item.{Item}
use Rattle.book.specs.declared.item.Item.TheVariants as item
use Rattle.book.specs.declared.item.Placed.{Placed}
use Rattle.entry_reader.specs.Causes.{fault_at, ◌>>=◌}
use Rattle.entry_reader.specs.Comments.{comments_in}
use Rattle.entry_reader.specs.Contexts.{Context}
use Rattle.entry_reader.specs.After.{context_after}
use Rattle.entry_reader.specs.Entries.{entry_of, entry_with, txn_from}
use Rattle.entry_reader.specs.Heads.{head_of}
use Rattle.entry_reader.specs.Lines.{contents_of}
use Rattle.entry_reader.specs.Postings.{postings_of}
use Rattle.journal_reader.specs.Items.{broken_line, reading, said_by}
use Rattle.text_ends.specs.Growth.{growth_fault, grown_with, lines_taken, put_behind, read_on, read_rest, rest_of, shifted, taken, unless_fault}
use Rattle.text_ends.specs.Told.{as_told, grown_told, is_directive, is_head, onto_told, told_behind, told_on}
use Rattle.text_ends.specs.declared.kept.KeptEnd.{KeptEnd}
use Rattle.text_ends.proofs.Lining.{concat_lines, concat_parts, lines_behind}
use Rattle.text_ends.proofs.Stepping.{first_of}
use Rattle.text_ends.proofs.Walking.{Told, stays}

-- ---- a piece begins with a line of its kind

never_none : (t : Bool) (b : ℕ) (l : List ℕ) → length (cond {A = List ℕ} t (b ∷ []) (b ∷ l)) ≤ 0 → ⊥
never_none true b l h = omega (arith, h)
never_none false b l h = omega (arith, h)

first_take : (t : List ℕ) (n : ℕ) → length (first_line t) ≤ n → first_line (take n t) ≡ first_line t
first_take [] zero h = refl
first_take [] (suc n) h = refl
first_take (b ∷ bs) zero h = absurd (never_none (b == 10) b (first_line bs) h)
first_take (b ∷ bs) (suc n) h = by (b == 10) h (first_take bs n)
  where
    by : (t : Bool) → length (cond {A = List ℕ} t (b ∷ []) (b ∷ first_line bs)) ≤ suc n → (length (first_line bs) ≤ n → first_line (take n bs) ≡ first_line bs)
        → cond {A = List ℕ} t (b ∷ []) (b ∷ first_line (take n bs)) ≡ cond t (b ∷ []) (b ∷ first_line bs)
    by true k f = refl
    by false k f = ap (λ (l : List ℕ). b ∷ l) (f (omega (arith, k)))

first_at : (at : ℕ) (xs : List (List ℕ)) (l : List ℕ) (ls : List (List ℕ)) (text : List ℕ) → lines_of text ≡ xs ++ l ∷ ls → at ≡ length (concat xs) → first_line (drop at text) ≡ l
first_at at xs l ls text e a =
    ap (λ (t : List ℕ). first_line (drop at t)) (sym (concat_lines text) ∙ ap (λ (ms : List (List ℕ)). concat ms) e ∙ concat_parts xs (l ∷ ls))
    ∙ ap (λ (k : ℕ). first_line (drop k (concat xs ++ concat (l ∷ ls)))) a
    ∙ ap (λ (t : List ℕ). first_line t) (drop-append_seam (concat xs) (concat (l ∷ ls)))
    ∙ first_of (concat (l ∷ ls)) l ls (lines_behind xs (l ∷ ls) text e)

abbrev SaysKind : List ℕ → Piece → Type 0
SaysKind text p = kind_of (first_line (take p.len (drop p.at text))) ≡ p.kind

begins_with : (at n : ℕ) (xs : List (List ℕ)) (l : List ℕ) (ls : List (List ℕ)) (text : List ℕ) → lines_of text ≡ xs ++ l ∷ ls → at ≡ length (concat xs)
    → kind_of (first_line (take (length l + n) (drop at text))) ≡ kind_of l
begins_with at n xs l ls text e a =
    let here = first_at at xs l ls text e a in
    ap kind_of (first_take (drop at text) (length l + n) (omega (arith, ap length here)) ∙ here)

kinds_are : (passed at line : ℕ) (xs ls : List (List ℕ)) (text : List ℕ) → lines_of text ≡ xs ++ ls → at ≡ length (concat xs) → AllByRecursion (SaysKind text) (cut_from passed at line ls)
kinds_are passed at line xs [] text e a = tt
kinds_are (suc passed) at line xs (l ∷ ls) text e a =
    kinds_are passed (at + length l) (line + 1) (xs ++ l ∷ []) ls text (e ∙ sym (append_assoc xs (l ∷ []) ls))
    (omega (arith, a, ap length (concat_parts xs (l ∷ [])), length-append (concat xs) (l ++ []), length-append l []))
kinds_are zero at line xs (l ∷ ls) text e a =
    let n = lines_more (kind_of l) ls in (
      begins_with at (length (concat (take n ls))) xs l ls text e a,
      kinds_are n (at + length l) (line + 1) (xs ++ l ∷ []) ls text (e ∙ sym (append_assoc xs (l ∷ []) ls))
          (omega (arith, a, ap length (concat_parts xs (l ∷ [])), length-append (concat xs) (l ++ []), length-append l [])),
    )

-- ---- what an entry says is no directive

one_item : (i j : Item) → (let r : Result Item Fault = Ok i in r) ≡ Ok j → i ≡ j
one_item i j e = cc

no_item : (f : Fault) (i : Item) → (let r : Result Item Fault = Err f in r) ≡ Ok i → is_directive i ≡ false
no_item f i e = absurd (let never : ⊥ = cc in never)

nothing_said : (i j : Item) → is_directive i ≡ false → (let r : Result Item Fault = Ok i in r) ≡ Ok j → is_directive j ≡ false
nothing_said i j none e = ap is_directive (sym (one_item i j e)) ∙ none

made : {A : Type 0} (read : Result A Fault) (f : A → Result Item Fault) (i : Item) → ((a : A) → f a ≡ Ok i → is_directive i ≡ false) → (read >>= f) ≡ Ok i → is_directive i ≡ false
made (Ok a) f i each e = each a e
made (Err fault) f i each e = no_item fault i e

in_entry : (context : Context) (line : ℕ) (contents : List (List ℕ)) (i : Item) → entry_of context line contents ≡ Ok i → is_directive i ≡ false
unfolding entry_with
in_entry context line [] i e = no_item (fault_at line cause.Form) i e
in_entry context line (c ∷ cs) i e =
    made (head_of context line c) (λ head. postings_of context (year_of head.day) (line + 1) cs >>= λ postings. Ok (item.Txn (txn_from line head (comments_in cs) postings))) i
    (λ head. made (postings_of context (year_of head.day) (line + 1) cs) (λ postings. Ok (item.Txn (txn_from line head (comments_in cs) postings))) i
    (λ postings. nothing_said (item.Txn (txn_from line head (comments_in cs) postings)) i refl)) e

either : (t : Bool) (fault : Fault) (read : Result Item Fault) (i : Item) → (read ≡ Ok i → is_directive i ≡ false) → cond {A = Result Item Fault} t (Err fault) read ≡ Ok i → is_directive i ≡ false
either true fault read i none e = no_item fault i e
either false fault read i none e = none e

or_fault : (t : Bool) (fault : Fault) (read : Result Item Fault) (i : Item) → (read ≡ Ok i → is_directive i ≡ false) → cond {A = Result Item Fault} t read (Err fault) ≡ Ok i → is_directive i ≡ false
or_fault true fault read i none e = none e
or_fault false fault read i none e = no_item fault i e

said_none : (k : Kind) (context : Context) (line : ℕ) (bytes : List ℕ) (i : Item) → is_head k ≡ false → said_by k context line bytes ≡ Ok i → is_directive i ≡ false
said_none kinds.Gap context line bytes i plain e = nothing_said item.Gap i refl e
said_none kinds.Block context line bytes i plain e = nothing_said item.Block i refl e
said_none kinds.Stray context line bytes i plain e = no_item (fault_at line cause.Form) i e
said_none kinds.Entry context line bytes i plain e =
    either (nat_lt entry_limit (length bytes)) (fault_at line cause.TooLong) (entry_of context line (contents_of bytes)) i (in_entry context line (contents_of bytes) i) e
said_none kinds.Head context line bytes i plain e = absurd (false≢true (sym plain))

read_none : (context : Context) (line : ℕ) (bytes : List ℕ) (i : Item) → is_head (kind_of (first_line bytes)) ≡ false → reading context line bytes ≡ Ok i → is_directive i ≡ false
unfolding reading
read_none context line bytes i plain e =
    or_fault (is_utf8 bytes) (fault_at (broken_line line bytes) cause.Encoding) (said_by (kind_of (first_line bytes)) context line bytes) i
    (said_none (kind_of (first_line bytes)) context line bytes i plain) e

-- ---- all pieces

-- what was read, as told
abbrev all_of : Result (List Placed) Fault → Told
all_of r = r >>= λ items. Ok (Some items)

onto_all : (p : Placed) (r : Result (List Placed) Fault) → (all_of r >>= λ more. Ok (onto_told p more)) ≡ all_of (r >>= λ more. Ok (p ∷ more))
onto_all p (Ok items) = refl
onto_all p (Err fault) = refl

one_all : (o : Result Item Fault) (place : Item → Placed) (told : Told) (rest : Item → Result (List Placed) Fault) → ((i : Item) → o ≡ Ok i → is_directive i ≡ false) → ((i : Item) → is_directive i ≡ false → told ≡ all_of (rest i))
    → (o >>= λ i. cond {A = Told} (is_directive i) (Ok None) (told >>= λ more. Ok (onto_told (place i) more))) ≡ all_of (o >>= λ i. rest i >>= λ more. Ok (place i ∷ more))
one_all (Err fault) place told rest none same = refl
one_all (Ok i) place told rest none same =
    let plain = none i refl in
    ap (λ (t : Bool). cond {A = Told} t (Ok None) (told >>= λ more. Ok (onto_told (place i) more))) plain
    ∙ ap (λ (t : Told). t >>= λ more. Ok (onto_told (place i) more)) (same i plain)
    ∙ onto_all (place i) (rest i)

all_told : (context : Context) (at lines : ℕ) (bytes : List ℕ) (ps : List Piece) → AllByRecursion (λ p. is_head p.kind ≡ false) ps → AllByRecursion (SaysKind bytes) ps
    → told_on context at lines bytes ps ≡ all_of (read_on context at lines bytes ps)
unfolding told_on read_on
all_told context at lines bytes [] plain kinds_so = refl
all_told context at lines bytes (p ∷ ps) plain kinds_so =
    let here : is_head (kind_of (first_line (take p.len (drop p.at bytes)))) ≡ false = ap is_head kinds_so.0 ∙ plain.0 in
    one_all (reading context (lines + p.line) (take p.len (drop p.at bytes))) (λ i. record { piece = shifted at lines p; item = i }) (told_on context at lines bytes ps) (λ i. read_on (context_after context i) at lines bytes ps)
    (λ i e. read_none context (lines + p.line) (take p.len (drop p.at bytes)) i here e)
    (λ i e. all_told context at lines bytes ps plain.1 kinds_so.1 ∙ ap (λ (c : Context). all_of (read_on c at lines bytes ps)) (sym (stays context i e)))

grown_all : (e : KeptEnd) (bytes : List ℕ) (o : Option Fault) (r : Result (List Placed) Fault)
    → unless_fault o (all_of r >>= λ items. Ok (grown_told e bytes items)) ≡ as_told (unless_fault o (r >>= λ items. Ok (grown_with e bytes items)))
grown_all e bytes (Some fault) r = refl
grown_all e bytes None (Ok items) = refl
grown_all e bytes None (Err fault) = refl

pub plain_told : (e : KeptEnd) (bytes : List ℕ) → AllByRecursion (λ p. is_head p.kind ≡ false) (items_of (rest_of e bytes)) → told_behind e bytes ≡ as_told (put_behind e bytes)
plain_told e bytes plain =
    let rest = rest_of e bytes in
    ap (λ (t : Told). unless_fault (growth_fault e bytes) (t >>= λ items. Ok (grown_told e bytes items)))
    (all_told e.context (e.bytes + taken e bytes) (e.lines + lines_taken e bytes) rest (items_of rest) plain (kinds_are 0 0 1 [] (lines_of rest) rest refl refl))
    ∙ grown_all e bytes (growth_fault e bytes) (read_rest e bytes)
