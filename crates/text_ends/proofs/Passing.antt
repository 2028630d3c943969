-- Facts on how a text is cut into pieces, line by line.
use Rattle.std.proofs.Common.{◌≡◌, ℕ, ◌+◌, ◌≤◌, ◌<◌, Bool, true, false, cond, List, [], ◌∷◌, length, take, drop, refl, ap, sym, ◌∙◌, arith, suc, zero, length-drop, length-append, add-one, add-zero, inl, inr}
use Rattle.std.proofs.lemmas.Bool.{cases_lt}
use Rattle.std.proofs.lemmas.List.{drop_all}
use Rattle.std.specs.List.{take_while, concat}
use Rattle.std.proofs.lemmas.List.Sums.{take_while-cons}
use Rattle.hl_base.specs.declared.items.Kind.{Kind}
use Rattle.hl_base.specs.declared.items.Kind.TheVariants.{Gap, Block, Entry, Head, Stray}
use Rattle.hl_base.specs.Lines.{lines_of, first_line}
use Rattle.hl_base.specs.Items.{is_remark, is_indented, lines_more, cut_from}
use Rattle.hl_base.specs.Pieces.{span, goes_on, closes, lines_left, bytes_left}
use Rattle.hl_base.proofs.LineLemmas.{lines_at}

pub span-suc : (n : ℕ) (l : List ℕ) (ls : List (List ℕ)) → span (n + 1) (l ∷ ls) ≡ length l + span n ls
span-suc n l ls = rw add-one (length-append l (concat (take n ls)))

-- how far one line more goes
pub unfold_run : (p : List ℕ → Bool) (l : List ℕ) (ls : List (List ℕ)) (r : Bool) → p l ≡ r → length (take_while p (l ∷ ls)) ≡ cond r (length (take_while p ls) + 1) 0
unfold_run p l ls true e = rw (take_while-cons p l ls, e) (omega arith)
unfold_run p l ls false e = rw (take_while-cons p l ls, e) refl

pub unfold_more : (k : Kind) (l : List ℕ) (ls : List (List ℕ)) → lines_more k (l ∷ ls) ≡ cond (goes_on k l) (cond (closes k l) 1 (lines_more k ls + 1)) 0
unfold_more Gap l ls = unfold_run is_remark l ls (is_remark l) refl
unfold_more Block l ls = refl
unfold_more Entry l ls = unfold_run is_indented l ls (is_indented l) refl
unfold_more Head l ls = unfold_run is_indented l ls (is_indented l) refl
unfold_more Stray l ls = unfold_run is_indented l ls (is_indented l) refl

-- no line follows
pub more_end : (k : Kind) → lines_more k [] ≡ 0
more_end Gap = refl
more_end Block = refl
more_end Entry = refl
more_end Head = refl
more_end Stray = refl

pub more_stop : (k : Kind) (l : List ℕ) (ls : List (List ℕ)) → goes_on k l ≡ false → lines_more k (l ∷ ls) ≡ 0
more_stop k l ls e = unfold_more k l ls ∙ ap (λ b. cond b (cond (closes k l) 1 (lines_more k ls + 1)) 0) e

pub more_close : (k : Kind) (l : List ℕ) (ls : List (List ℕ)) → goes_on k l ≡ true → closes k l ≡ true → lines_more k (l ∷ ls) ≡ 1
more_close k l ls e f =
    unfold_more k l ls ∙ ap (λ b. cond b (cond (closes k l) 1 (lines_more k ls + 1)) 0) e ∙ ap (λ b. cond b 1 (lines_more k ls + 1)) f

pub more_step : (k : Kind) (l : List ℕ) (ls : List (List ℕ)) → goes_on k l ≡ true → closes k l ≡ false → lines_more k (l ∷ ls) ≡ lines_more k ls + 1
more_step k l ls e f =
    unfold_more k l ls ∙ ap (λ b. cond b (cond (closes k l) 1 (lines_more k ls + 1)) 0) e ∙ ap (λ b. cond b 1 (lines_more k ls + 1)) f

-- nothing is left where the text ends
pub left_end : (k : Kind) (text : List ℕ) (at : ℕ) → length text ≤ at → (lines_left k text at ≡ 0) × (bytes_left k text at ≡ 0)
left_end k text at h = left_none k (drop at text) (omega (arith, length-drop at text)) where
  left_none : (k : Kind) (xs : List ℕ) → length xs ≡ 0 → (lines_more k (lines_of xs) ≡ 0) × (span (lines_more k (lines_of xs)) (lines_of xs) ≡ 0)
  left_none k [] e = (more_end k, ap (λ n. span n []) (more_end k))
  left_none k (x ∷ xs) e = absurd (omega arith)

-- nothing is left where a line doesn't go on
pub left_stop : (k : Kind) (text : List ℕ) (at : ℕ) → at < length text → goes_on k (first_line (drop at text)) ≡ false → (lines_left k text at ≡ 0) × (bytes_left k text at ≡ 0)
left_stop k text at h e =
    let l = first_line (drop at text) in
    let ls = lines_of (drop (at + length l) text) in
    let none : lines_left k text at ≡ 0 = ap (lines_more k) (lines_at text at h) ∙ more_stop k l ls e in
    (none, ap (λ n. span n (lines_of (drop at text))) none)

-- a line that closes is the last
pub left_close : (k : Kind) (text : List ℕ) (at next : ℕ) → at < length text → next ≡ at + length (first_line (drop at text)) → goes_on k (first_line (drop at text)) ≡ true → closes k (first_line (drop at text)) ≡ true → (lines_left k text at ≡ 1) × (at + bytes_left k text at ≡ next)
left_close k text at next h n e f =
    let l = first_line (drop at text) in
    let ls = lines_of (drop (at + length l) text) in
    let one : lines_left k text at ≡ 1 = ap (lines_more k) (lines_at text at h) ∙ more_close k l ls e f in
    let bytes : bytes_left k text at ≡ length l + 0 = ap (λ m. span m (lines_of (drop at text))) one ∙ ap (span 1) (lines_at text at h) ∙ span-suc 0 l ls in
    (one, omega arith)

-- a line that goes on is one of them
pub left_step : (k : Kind) (text : List ℕ) (at next : ℕ) → at < length text → next ≡ at + length (first_line (drop at text)) → goes_on k (first_line (drop at text)) ≡ true → closes k (first_line (drop at text)) ≡ false → (lines_left k text at ≡ lines_left k text next + 1) × (at + bytes_left k text at ≡ next + bytes_left k text next)
left_step k text at next h n e f =
    let l = first_line (drop at text) in
    let ls = lines_of (drop next text) in
    let split : lines_of (drop at text) ≡ l ∷ ls = lines_at text at h ∙ ap (λ i. l ∷ lines_of (drop i text)) (sym n) in
    let more : lines_left k text at ≡ lines_left k text next + 1 = ap (lines_more k) split ∙ more_step k l ls e f in
    let bytes : bytes_left k text at ≡ length l + span (lines_more k ls) ls = ap (λ m. span m (lines_of (drop at text))) more ∙ ap (span (lines_more k ls + 1)) split ∙ span-suc (lines_more k ls) l ls in
    (more, omega arith)

-- lines that a piece has taken are passed over
pub skip : (n at line : ℕ) (ls : List (List ℕ)) → cut_from n at line ls ≡ cut_from 0 (at + span n ls) (line + n) (drop n ls)
skip zero at line ls = ap (λ i. cut_from 0 i line ls) (omega arith) ∙ ap (λ i. cut_from 0 (at + 0) i ls) (omega arith)
skip (suc n) at line [] = refl
skip (suc n) at line (l ∷ ls) =
    skip n (at + length l) (line + 1) ls
    ∙ ap (λ i. cut_from 0 i ((line + 1) + n) (drop n ls)) (omega (arith, length-append l (concat (take n ls))))
    ∙ ap (λ j. cut_from 0 (at + span (suc n) (l ∷ ls)) j (drop n ls)) (omega arith)

-- the lines after the first n are those of the text after their bytes
pub drop_past : (n : ℕ) (text : List ℕ) (at : ℕ) → drop at text ≡ [] → drop (suc n) (lines_of (drop at text)) ≡ lines_of (drop (at + span (suc n) (lines_of (drop at text))) text)
drop_past n text at e =
    let none : lines_of (drop at text) ≡ [] = ap lines_of e in
    ap (drop (suc n)) none
    ∙ sym (ap (λ i. lines_of (drop i text)) (let z : at + span (suc n) (lines_of (drop at text)) ≡ at + 0 = ap (λ ls. at + span (suc n) ls) none in z ∙ add-zero at) ∙ none)

pub drop_more : (n : ℕ) (text : List ℕ) (at : ℕ) → at < length text
    → drop n (lines_of (drop (at + length (first_line (drop at text))) text)) ≡ lines_of (drop ((at + length (first_line (drop at text))) + span n (lines_of (drop (at + length (first_line (drop at text))) text))) text)
    → drop (suc n) (lines_of (drop at text)) ≡ lines_of (drop (at + span (suc n) (lines_of (drop at text))) text)
drop_more n text at h again =
    let l = first_line (drop at text) in
    let ls = lines_of (drop (at + length l) text) in
    let split : lines_of (drop at text) ≡ l ∷ ls = lines_at text at h in
    let bytes : (at + length l) + span n ls ≡ at + span (suc n) (lines_of (drop at text)) =
    omega (arith, ap (span (suc n)) split, length-append l (concat (take n ls))) in
    ap (drop (suc n)) split ∙ again ∙ ap (λ i. lines_of (drop i text)) bytes

pub drop_lines : (n : ℕ) (text : List ℕ) (at : ℕ) → drop n (lines_of (drop at text)) ≡ lines_of (drop (at + span n (lines_of (drop at text))) text)
drop_lines zero text at = ap (λ i. lines_of (drop i text)) (sym (add-zero at))
drop_lines (suc n) text at =
    elim (cases_lt at (length text)) [
      | inl h ↦ drop_more n text at h (drop_lines n text (at + length (first_line (drop at text))))
      | inr h ↦ drop_past n text at (drop_all at text h)
    ]
