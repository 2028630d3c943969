-- A line's end behind a text that doesn't end with one.
use Rattle.std.proofs.Common.{ℕ, suc, ◌≡◌, ◌+◌, ◌<◌, Bool, true, false, cond, ◌==◌, ◌&&◌, ◌||◌, not, codes, List, [], ◌∷◌, ◌++◌, length, take, drop, map, Some, refl, sym, ap, ◌∙◌, arith}
use Rattle.std.specs.Cmp.Lexicographic.{pointwise}
use Rattle.std.specs.List.{find, list_all, list_any, prefix_len, take_while}
use Rattle.std.proofs.lemmas.Bool.{false≢true}
use Rattle.std.proofs.lemmas.List.{take-append-le}
use Rattle.std.proofs.lemmas.List.Sums.{prefix_len-le-length}
use Rattle.hl_base.specs.Items.{begins_entry, closes_block, is_blank, is_indented, is_remark, is_white, kind_of, lines_to_close, marks_remark, opens_block}
use Rattle.hl_base.specs.Lines.{lines_of, onto}
use Rattle.hl_base.specs.declared.items.Kind.TheVariants as kinds
use Rattle.hl_base.proofs.LineLemmas.{lines_split}
use Rattle.entry_reader.specs.Lines.{before_white, content_of}
use Rattle.closed_journals.proofs.Cuts.{EndsLine, gap}

-- ---- a line

pub blank_ended : (l : List ℕ) → is_blank (l ++ gap) ≡ is_blank l
blank_ended [] = refl
blank_ended (b ∷ bs) = ap (λ (t : Bool). (is_white b || (b == 10)) && t) (blank_ended bs)

abbrev matches : List ℕ → List ℕ → Bool
matches word l = pointwise (λ x y. x == y) word (take (length word) l) && is_blank (drop (length word) l)

abbrev is_apart : ℕ → Bool
is_apart b = not (b == 10)

first_apart : (w : ℕ) (ws : List ℕ) → (is_apart w && list_all is_apart ws) ≡ true → (w == 10) ≡ false
first_apart w ws h = by (w == 10) h
  where
    by : (t : Bool) → (not t && list_all is_apart ws) ≡ true → t ≡ false
    by true k = absurd (false≢true k)
    by false k = refl

more_apart : (t : Bool) (ws : List ℕ) → (t && list_all is_apart ws) ≡ true → list_all is_apart ws ≡ true
more_apart true ws h = h
more_apart false ws h = absurd (false≢true h)

word_ended : (word l : List ℕ) → list_all is_apart word ≡ true → matches word (l ++ gap) ≡ matches word l
word_ended [] l h = blank_ended l
word_ended (w ∷ ws) [] h = ap (λ (t : Bool). (t && pointwise (λ x y. x == y) ws (take (length ws) [])) && is_blank (drop (length ws) [])) (first_apart w ws h)
word_ended (w ∷ ws) (b ∷ bs) h = by (w == b) (word_ended ws bs (more_apart (is_apart w) ws h))
  where
    by : (t : Bool) → matches ws (bs ++ gap) ≡ matches ws bs
        → ((t && pointwise (λ x y. x == y) ws (take (length ws) (bs ++ gap))) && is_blank (drop (length ws) (bs ++ gap))) ≡ ((t && pointwise (λ x y. x == y) ws (take (length ws) bs)) && is_blank (drop (length ws) bs))
    by true e = e
    by false e = refl

opens_ended : (l : List ℕ) → opens_block (l ++ gap) ≡ opens_block l
opens_ended l = word_ended (codes "comment") l refl

pub closes_ended : (l : List ℕ) → closes_block (l ++ gap) ≡ closes_block l
closes_ended l = word_ended (codes "end comment") l refl

pub remark_ended : (l : List ℕ) → is_remark (l ++ gap) ≡ is_remark l
remark_ended [] = refl
remark_ended (b ∷ bs) = by (is_white b) (remark_ended bs)
  where
    by : (t : Bool) → is_remark (bs ++ gap) ≡ is_remark bs
        → marks_remark (cond (not t) (Some b) (find (λ x. not (is_white x)) (bs ++ gap))) ≡ marks_remark (cond (not t) (Some b) (find (λ x. not (is_white x)) bs))
    by true e = e
    by false e = refl

pub indented_ended : (l : List ℕ) → is_indented (l ++ gap) ≡ is_indented l
indented_ended [] = refl
indented_ended (b ∷ bs) = ap (λ (t : Bool). is_white b && not t) (blank_ended bs)

begins_ended : (l : List ℕ) → begins_entry (l ++ gap) ≡ begins_entry l
begins_ended [] = refl
begins_ended (b ∷ bs) = refl

pub kind_ended : (l : List ℕ) → kind_of (l ++ gap) ≡ kind_of l
kind_ended l =
    let o = opens_ended l in
    let r = remark_ended l in
    let n = indented_ended l in
    let e = begins_ended l in
    λ i. cond (o i) kinds.Block (cond (r i) kinds.Gap (cond (n i) kinds.Stray (cond (e i) kinds.Entry kinds.Head)))

run_ended : (p : ℕ → Bool) (l more : List ℕ) → prefix_len p more ≡ 0 → prefix_len p (l ++ more) ≡ prefix_len p l
run_ended p [] more h = h
run_ended p (b ∷ bs) more h = ap (λ (n : ℕ). cond (p b) (1 + n) 0) (run_ended p bs more h)

while_ended : (p : ℕ → Bool) (l more : List ℕ) → prefix_len p more ≡ 0 → take_while p (l ++ more) ≡ take_while p l
while_ended p l more h = ap (λ (n : ℕ). take n (l ++ more)) (run_ended p l more h) ∙ take-append-le (prefix_len p l) l more (prefix_len-le-length p l)

content_ended : (l : List ℕ) → content_of (l ++ gap) ≡ content_of l
content_ended l = ap before_white (while_ended (λ b. not (b == 10)) l gap refl)

-- ---- lines of the same kinds

pub record IsAlike (l m : List ℕ) : Type 0 where
  pub kind : kind_of m ≡ kind_of l
  pub remark : is_remark m ≡ is_remark l
  pub indented : is_indented m ≡ is_indented l
  pub closes : closes_block m ≡ closes_block l

abbrev pub AreAlike : List (List ℕ) → List (List ℕ) → Type 0
AreAlike [] [] = Unit {0}
AreAlike [] (m ∷ ms) = ⊥
AreAlike (l ∷ ls) [] = ⊥
AreAlike (l ∷ ls) (m ∷ ms) = IsAlike l m × AreAlike ls ms

pub alike : (l : List ℕ) → IsAlike l l
alike l = record { kind = refl; remark = refl; indented = refl; closes = refl }

pub alike_ended : (l : List ℕ) → IsAlike l (l ++ gap)
alike_ended l = record { kind = kind_ended l; remark = remark_ended l; indented = indented_ended l; closes = closes_ended l }

pub all_alike : (ls : List (List ℕ)) → AreAlike ls ls
all_alike [] = tt
all_alike (l ∷ ls) = (alike l, all_alike ls)

-- the last line with a line's end
abbrev pub grown : List (List ℕ) → List (List ℕ)
grown [] = []
grown (l ∷ []) = (l ++ gap) ∷ []
grown (l ∷ m ∷ ms) = l ∷ grown (m ∷ ms)

pub alike_grown : (ls : List (List ℕ)) → AreAlike ls (grown ls)
alike_grown [] = tt
alike_grown (l ∷ []) = (alike_ended l, tt)
alike_grown (l ∷ m ∷ ms) = (alike l, alike_grown (m ∷ ms))

pub contents_grown : (ls : List (List ℕ)) → map content_of (grown ls) ≡ map content_of ls
contents_grown [] = refl
contents_grown (l ∷ []) = ap (λ (c : List ℕ). c ∷ []) (content_ended l)
contents_grown (l ∷ m ∷ ms) = ap (λ (cs : List (List ℕ)). content_of l ∷ cs) (contents_grown (m ∷ ms))

-- ---- what alike lines have in common

pub alike_length : (ls ms : List (List ℕ)) → AreAlike ls ms → length ms ≡ length ls
alike_length [] [] h = refl
alike_length [] (m ∷ ms) h = absurd h
alike_length (l ∷ ls) [] h = absurd h
alike_length (l ∷ ls) (m ∷ ms) h = ap suc (alike_length ls ms h.1)

pub alike_closes : (ls ms : List (List ℕ)) → AreAlike ls ms → list_any closes_block ms ≡ list_any closes_block ls
alike_closes [] [] h = refl
alike_closes [] (m ∷ ms) h = absurd h
alike_closes (l ∷ ls) [] h = absurd h
alike_closes (l ∷ ls) (m ∷ ms) h = let e = (h.0).closes in let r = alike_closes ls ms h.1 in λ i. (e i) || (r i)

alike_run : (p : List ℕ → Bool) (pick : (l m : List ℕ) → IsAlike l m → p m ≡ p l) (ls ms : List (List ℕ)) → AreAlike ls ms → prefix_len p ms ≡ prefix_len p ls
alike_run p pick [] [] h = refl
alike_run p pick [] (m ∷ ms) h = absurd h
alike_run p pick (l ∷ ls) [] h = absurd h
alike_run p pick (l ∷ ls) (m ∷ ms) h = let e = pick l m h.0 in let r = alike_run p pick ls ms h.1 in λ i. cond (e i) (1 + r i) 0

pub alike_remarks : (ls ms : List (List ℕ)) → AreAlike ls ms → prefix_len is_remark ms ≡ prefix_len is_remark ls
alike_remarks ls ms h = alike_run is_remark (λ l m a. a.remark) ls ms h

pub alike_indents : (ls ms : List (List ℕ)) → AreAlike ls ms → prefix_len is_indented ms ≡ prefix_len is_indented ls
alike_indents ls ms h = alike_run is_indented (λ l m a. a.indented) ls ms h

pub alike_to_close : (ls ms : List (List ℕ)) → AreAlike ls ms → lines_to_close ms ≡ lines_to_close ls
alike_to_close [] [] h = refl
alike_to_close [] (m ∷ ms) h = absurd h
alike_to_close (l ∷ ls) [] h = absurd h
alike_to_close (l ∷ ls) (m ∷ ms) h = let e = (h.0).closes in let r = alike_to_close ls ms h.1 in λ i. cond (e i) 1 (r i + 1)

-- ---- a text

-- it is empty, or doesn't end with LF
abbrev pub Lacks : List ℕ → Type 0
Lacks [] = Unit {0}
Lacks (b ∷ []) = (b == 10) ≡ false
Lacks (b ∷ c ∷ cs) = Lacks (c ∷ cs)

pub lacks_behind : (front text : List ℕ) → Lacks (front ++ text) → Lacks text
lacks_behind [] text h = h
lacks_behind (a ∷ []) [] h = tt
lacks_behind (a ∷ []) (b ∷ bs) h = h
lacks_behind (a ∷ c ∷ cs) text h = lacks_behind (c ∷ cs) text h

pub ends_behind : (front text : List ℕ) → EndsLine (front ++ text) → EndsLine text
ends_behind [] text h = h
ends_behind (a ∷ []) [] h = tt
ends_behind (a ∷ []) (b ∷ bs) h = h
ends_behind (a ∷ c ∷ cs) text h = ends_behind (c ∷ cs) text h

pub ends_ended : (text : List ℕ) → EndsLine (text ++ gap)
ends_ended [] = refl
ends_ended (b ∷ []) = refl
ends_ended (b ∷ c ∷ cs) = ends_ended (c ∷ cs)

grown_onto : (b : ℕ) (whole : List (List ℕ)) → 0 < length whole → onto b (grown whole) ≡ grown (onto b whole)
grown_onto b [] h = absurd (omega arith)
grown_onto b (l ∷ []) h = refl
grown_onto b (l ∷ m ∷ ms) h = refl

grown_under : (l : List ℕ) (whole : List (List ℕ)) → 0 < length whole → l ∷ grown whole ≡ grown (l ∷ whole)
grown_under l [] h = absurd (omega arith)
grown_under l (m ∷ ms) h = refl

lines_some : (b : ℕ) (bs : List ℕ) → 0 < length (lines_of (b ∷ bs))
lines_some b bs = omega (arith, ap length (lines_split (b ∷ bs) (omega arith)))

-- its last line gets the line's end
pub lines_grown : (b : ℕ) (bs : List ℕ) → Lacks (b ∷ bs) → lines_of ((b ∷ bs) ++ gap) ≡ grown (lines_of (b ∷ bs))
lines_grown b [] h =
    ap (λ (t : Bool). cond t ((b ∷ []) ∷ lines_of gap) (onto b (lines_of gap))) h
    ∙ sym (ap (λ (t : Bool). grown (cond t ((b ∷ []) ∷ []) (onto b []))) h)
lines_grown b (c ∷ cs) h = by (b == 10) (lines_grown c cs h)
  where
    by : (t : Bool) → lines_of ((c ∷ cs) ++ gap) ≡ grown (lines_of (c ∷ cs))
        → cond t ((b ∷ []) ∷ lines_of ((c ∷ cs) ++ gap)) (onto b (lines_of ((c ∷ cs) ++ gap))) ≡ grown (cond t ((b ∷ []) ∷ lines_of (c ∷ cs)) (onto b (lines_of (c ∷ cs))))
    by true rest = ap (λ (ls : List (List ℕ)). (b ∷ []) ∷ ls) rest ∙ grown_under (b ∷ []) (lines_of (c ∷ cs)) (lines_some c cs)
    by false rest = ap (onto b) rest ∙ grown_onto b (lines_of (c ∷ cs)) (lines_some c cs)
