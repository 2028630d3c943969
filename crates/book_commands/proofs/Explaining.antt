-- What is wrong with a text, with its line and a sentence.
use Rattle.std.proofs.Common.{◌≡◌, ℕ, Bool, false, List, [], Option, Result, Ok, Err, IfErr, IfOk, OnOk, nat_lt, length, if◌then◌else◌, ap, sym, ◌∙◌, subst}
use Rattle.hl_base.specs.Items.{items_of}
use Rattle.hl_base.specs.Limits.{item_limit}
use Rattle.balancing.specs.Load.{load}
use Rattle.book.specs.declared.fault.Fault.{Fault}
use Rattle.book.specs.declared.item.Book.{Book}
use Rattle.book.specs.declared.item.Placed.{Placed}
use Rattle.explanations.specs.Explained.{explained}
use Rattle.journal_reader.specs.Items.{items_in}
use Rattle.refusals.specs.Errors.{fault_status, limit_line}
use Rattle.refusals.specs.Outcomes.{Judged, Outcome, refused, written}
use Rattle.refusals.specs.Refusing.{IsOfText, Refuses}
use Rattle.refusals.specs.declared.refusal.Refusal.{Refusal}
use Rattle.refusals.specs.declared.refusal.Refusal.TheVariants as refusal
use Rattle.book_commands.specs.Answers.{Finds, RefusesText}
use Rattle.book_commands.specs.TextFaults.{explained_fault, explained_load, explained_read, explained_text}

abbrev refusing : Outcome → Judged
refusing outcome = Err outcome

abbrev writing : List ℕ → Judged
writing output = Ok (written output)

-- a refusal of a fault is that of a text that has it
explains_so : (r : Refusal) (text : List ℕ) (fault : Fault) → Refuses r (fault_status fault.cause) (explained text fault) → IsOfText r
    → RefusesText r (Err (explained_fault text fault))
explains_so (refusal.Line status line) text fault h k =
    (ap (λ (n : ℕ). refusing (refused n (explained text fault))) (sym h.0) ∙ ap (λ (l : List ℕ). refusing (refused status l)) (sym h.1), k)
explains_so (refusal.Pattern what line) text fault h k = absurd h
explains_so refusal.ReadFault text fault h k = absurd h
explains_so refusal.DiskFault text fault h k = absurd h
explains_so refusal.Memory text fault h k = tt

-- the text doesn't read
pub unread_so : (r : Refusal) (year : Option ℕ) (text : List ℕ) (fault : Fault) → items_in year text ≡ Err fault
    → Refuses r (fault_status fault.cause) (explained text fault) → IsOfText r
    → RefusesText r (explained_read text (items_in year text))
unread_so r year text fault e h k =
    let F : Result (List Placed) Fault → Type 0 = λ read. RefusesText r (explained_read text read) in
    subst F (sym e) (explains_so r text fault h k)

-- its items have no book
pub unloaded_so : (r : Refusal) (text : List ℕ) (items : List Placed) (fault : Fault) → load items ≡ Err fault
    → Refuses r (fault_status fault.cause) (explained text fault) → IsOfText r
    → RefusesText r (explained_load text (load items))
unloaded_so r text items fault e h k =
    let F : Result Book Fault → Type 0 = λ book. RefusesText r (explained_load text book) in
    subst F (sym e) (explains_so r text fault h k)

-- or one
pub loaded_so : (text : List ℕ) (items : List Placed) (book : Book) → load items ≡ Ok book → explained_load text (load items) ≡ Ok (written [])
loaded_so text items book e = ap (explained_load text) e

-- ---- a text of few items

abbrev by_count : List ℕ → Option ℕ → Bool → Judged
by_count text year b =
    if b then Err (refused 7 (limit_line (length (items_of text)) item_limit)) else explained_read text (items_in year text)

few_so : (year : Option ℕ) (text : List ℕ) → nat_lt item_limit (length (items_of text)) ≡ false → explained_text year text ≡ explained_read text (items_in year text)
few_so year text few = ap (by_count text year) few

pub few_items : (year : Option ℕ) (text : List ℕ) (r : Result (List Placed) Refusal) → nat_lt item_limit (length (items_of text)) ≡ false
    → IfOk r (λ items. items_in year text ≡ Ok items)
    → IfOk r (λ items. explained_text year text ≡ explained_load text (load items))
few_items year text (Ok items) few h = few_so year text few ∙ ap (explained_read text) h
few_items year text (Err r) few h = tt

pub few_refused : (year : Option ℕ) (text : List ℕ) (r : Result (List Placed) Refusal) → nat_lt item_limit (length (items_of text)) ≡ false
    → IfErr r (λ why. RefusesText why (explained_read text (items_in year text)))
    → IfErr r (λ why. RefusesText why (explained_text year text))
few_refused year text (Ok items) few h = tt
few_refused year text (Err r) few h = subst (RefusesText r) (sym (few_so year text few)) h

-- ---- a text whose items are read

pub loads_in : (year : Option ℕ) (text : List ℕ) (items : List Placed) (r : Result Book Refusal) → explained_text year text ≡ explained_load text (load items)
    → OnOk r (explained_load text (load items) ≡ Ok (written [])) → OnOk r (explained_text year text ≡ Ok (written []))
loads_in year text items (Ok book) e h = e ∙ h
loads_in year text items (Err r) e h = tt

pub refused_so : (year : Option ℕ) (text : List ℕ) (items : List Placed) (r : Result Book Refusal) → explained_text year text ≡ explained_load text (load items)
    → IfErr r (λ why. RefusesText why (explained_load text (load items))) → IfErr r (λ why. RefusesText why (explained_text year text))
refused_so year text items (Ok book) e h = tt
refused_so year text items (Err r) e h = subst (RefusesText r) (sym e) h

-- nothing is written of one that loads
pub loads_found : (output : List ℕ) (told : Judged) → told ≡ Ok (written []) → output ≡ [] → Finds (Ok output) told
loads_found output told e o = e ∙ ap writing (sym o)
