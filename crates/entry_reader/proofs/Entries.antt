-- Reading posting lines one after the other, as a loop does.
use Rattle.std.proofs.Common.{◌≡◌, ℕ, ◌+◌, true, false, List, [], ◌∷◌, ◌++◌, length, Result, Ok, Err, refl, sym, ap, ◌∙◌, append_assoc}
use Rattle.std.specs.Prelude.{IfSome}
use Rattle.std.proofs.lemmas.List.{append-nil, nil_from_length}
use Rattle.book.specs.declared.fault.Fault.{Fault}
use Rattle.entry_reader.specs.declared.fault.ReadFault.{ReadFault}
use Rattle.entry_reader.specs.declared.fault.ReadFault.TheVariants as faults
use Rattle.entry_reader.specs.Causes.{◌>>=◌, cause_in}
use Rattle.entry_reader.specs.Comments.{is_comment}
use Rattle.entry_reader.specs.Lines.{contents_of}
use Rattle.entry_reader.specs.Postings.{each_of}

-- what was read before, with what is still to be read
abbrev pub with_front : {A : Type 0} → List A → Result (List A) Fault → Result (List A) Fault
with_front front read = read >>= λ ps. Ok (front ++ ps)

-- how one of them is read, from its line, its content and the lines after it
abbrev pub Reads : Type 0 → Type 0
Reads A = ℕ → List ℕ → List (List ℕ) → Result A Fault

regroup : {A : Type 0} (front : List A) (p : A) (read : Result (List A) Fault) → with_front front (read >>= λ ps. Ok (p ∷ ps)) ≡ with_front (front ++ p ∷ []) read
regroup {A = A} front p (Ok ps) = ap (λ (x : List A). Ok x) (sym (append_assoc front (p ∷ []) ps))
regroup front p (Err f) = refl

pub one_more : {A : Type 0} (reads : Reads A) (line : ℕ) (text content after : List ℕ) (front found : List A) (p : A) (total : Result (List A) Fault) → contents_of text ≡ content ∷ contents_of after
    → is_comment content ≡ false → reads line content (contents_of after) ≡ Ok p → found ≡ front ++ p ∷ []
    → with_front front (each_of reads line (contents_of text)) ≡ total → with_front found (each_of reads (line + 1) (contents_of after)) ≡ total
unfolding each_of
one_more reads line text content after front found p total e t h f so_far =
    let one : with_front front (each_of reads line (contents_of text)) ≡ with_front (front ++ p ∷ []) (each_of reads (line + 1) (contents_of after)) =
    rw (e, t, h) (regroup front p (each_of reads (line + 1) (contents_of after))) in
    rw f (sym one ∙ so_far)

pub passed_over : {A : Type 0} (reads : Reads A) (line : ℕ) (text content after : List ℕ) (front : List A) (total : Result (List A) Fault) → contents_of text ≡ content ∷ contents_of after
    → is_comment content ≡ true → with_front front (each_of reads line (contents_of text)) ≡ total → with_front front (each_of reads (line + 1) (contents_of after)) ≡ total
unfolding each_of
passed_over reads line text content after front total e t so_far =
    let one : with_front front (each_of reads line (contents_of text)) ≡ with_front front (each_of reads (line + 1) (contents_of after)) = rw (e, t) refl in
    sym one ∙ so_far

pub stops : {A : Type 0} (fault : ReadFault) (reads : Reads A) (line : ℕ) (text content after : List ℕ) (front : List A) (total : Result (List A) Fault) → contents_of text ≡ content ∷ contents_of after
    → is_comment content ≡ false → IfSome (cause_in fault) (λ f. reads line content (contents_of after) ≡ Err f)
    → with_front front (each_of reads line (contents_of text)) ≡ total → IfSome (cause_in fault) (λ f. total ≡ Err f)
unfolding each_of
stops faults.Memory reads line text content after front total e t h so_far = tt
stops (faults.Read fault) reads line text content after front total e t h so_far =
    let one : with_front front (each_of reads line (contents_of text)) ≡ Err fault = rw (e, t, h) refl in
    sym so_far ∙ one

pub all_done : {A : Type 0} (reads : Reads A) (line : ℕ) (text : List ℕ) (front found : List A) (total : Result (List A) Fault) → length text ≡ 0 → found ≡ front
    → with_front front (each_of reads line (contents_of text)) ≡ total → total ≡ Ok found
unfolding each_of
all_done {A = A} reads line text front found total e f so_far =
    let one : with_front front (each_of reads line (contents_of text)) ≡ Ok found = rw (nil_from_length text e, f) (ap (λ (x : List A). Ok x) (append-nil front)) in
    sym so_far ∙ one
