-- Comments: what is known of their lines once they are read, and how they are shown.
use Rattle.std.proofs.Common.{ℕ, ◌≡◌, ◌+◌, ◌-◌, Bool, true, false, cond, ◌==◌, not, codes, List, [], ◌∷◌, ◌++◌, length, map, Result, Ok, refl, sym, ap, ◌∙◌, arith, append_assoc}
use Rattle.std.specs.List.{flat_map, list_all, suffix_len, AllByRecursion}
use Rattle.std.specs.Str.{is_utf8}
use Rattle.std.proofs.lemmas.Grind.{flat_map-append}
use Rattle.hl_base.specs.Items.{is_indented, is_white}
use Rattle.book.specs.declared.fault.Fault.{Fault}
use Rattle.book.specs.declared.transaction.Posting.{Posting}
use Rattle.entry_reader.proofs.Both.{both_true}
use Rattle.entry_reader.proofs.Texts.{empty_utf8}
use Rattle.entry_reader.specs.Causes.{◌>>=◌}
use Rattle.entry_reader.specs.Comments.{comment_of, comment_text, comments_in, is_comment}
use Rattle.entry_reader.specs.Lines.{after_white, before_white, first_is, trimmed}
use Rattle.entry_reader.specs.Postings.{each_of}
use Rattle.journal_printer.specs.Texts as shown
use Rattle.written_logs.proofs.Bytes.{after_white_solid, before_white_ends, before_white_solid, first_of_take, first_solid, is_inside, not_false, skip_one, solid_append, utf8_append, utf8_ascii}
use Rattle.written_logs.proofs.Lines.{all_append, ended, joined}
use Rattle.closed_journals.proofs.Texts.{IsText, trimmed_text}

-- ---- what reading says

-- A line of a comment: in UTF-8, on one line, and without white space at its ends.
pub record IsRemark (own : List ℕ) : Type 0 where
  pub utf8 : is_utf8 own ≡ true
  pub line : list_all is_inside own ≡ true
  pub first : first_is is_white own ≡ false
  pub last : suffix_len is_white own ≡ 0

abbrev pub AreRemarks : List (List ℕ) → Type 0
AreRemarks texts = AllByRecursion IsRemark texts

pub no_remark : IsRemark []
no_remark = record { utf8 = empty_utf8; line = refl; first = refl; last = refl }

trimmed_first : (t : List ℕ) → first_is is_white (trimmed t) ≡ false
trimmed_first t = first_of_take is_white (length (after_white t) - suffix_len is_white (after_white t)) (after_white t) (first_solid t)

pub remark_of : (t : List ℕ) → IsText t → IsRemark (trimmed t)
remark_of t is =
    let part = trimmed_text t is in
    record { utf8 = part.utf8; line = part.line; first = trimmed_first t; last = before_white_ends (after_white t) }

-- ---- how a comment is shown

-- what stands behind a line for the comment on it
abbrev pub own_text : List ℕ → List ℕ
own_text [] = []
own_text (b ∷ bs) = codes "  ; " ++ (b ∷ bs)

-- a further line of a comment
abbrev pub further_line : List ℕ → List ℕ
further_line text = codes "    ; " ++ text

bytes_kept : (t : List ℕ) → list_all is_inside t ≡ true → flat_map shown.comment_byte t ≡ t
bytes_kept [] h = refl
bytes_kept (b ∷ bs) h =
    let all = both_true (not (b == 10)) (list_all is_inside bs) h in
    ap (λ (u : Bool). cond u (10 ∷ codes "    ; ") (b ∷ []) ++ flat_map shown.comment_byte bs) (not_false (b == 10) all.0)
    ∙ ap (λ (xs : List ℕ). b ∷ xs) (bytes_kept bs all.1)

more_shown : (more : List (List ℕ)) → AreRemarks more
    → flat_map shown.comment_byte (flat_map (λ (text : List ℕ). 10 ∷ text) more) ++ 10 ∷ [] ≡ 10 ∷ joined (map further_line more)
more_shown [] are = refl
more_shown (t ∷ ts) are =
    let rest = flat_map (λ (text : List ℕ). 10 ∷ text) ts in
    let behind = flat_map shown.comment_byte rest in
    ap (λ (xs : List ℕ). 10 ∷ 32 ∷ 32 ∷ 32 ∷ 32 ∷ 59 ∷ 32 ∷ (xs ++ 10 ∷ [])) (flat_map-append shown.comment_byte t rest)
    ∙ ap (λ (xs : List ℕ). 10 ∷ 32 ∷ 32 ∷ 32 ∷ 32 ∷ 59 ∷ 32 ∷ ((xs ++ behind) ++ 10 ∷ [])) (bytes_kept t (are.0).line)
    ∙ ap (λ (xs : List ℕ). 10 ∷ 32 ∷ 32 ∷ 32 ∷ 32 ∷ 59 ∷ 32 ∷ xs) (append_assoc t behind (10 ∷ []))
    ∙ ap (λ (xs : List ℕ). 10 ∷ 32 ∷ 32 ∷ 32 ∷ 32 ∷ 59 ∷ 32 ∷ (t ++ xs)) (more_shown ts are.1)

start_shown : (own : List ℕ) (more : List (List ℕ)) → IsRemark own → shown.comment_start (comment_of own more) ++ own ≡ own_text own
start_shown [] [] is = refl
start_shown [] (t ∷ ts) is = refl
start_shown (b ∷ bs) more is =
    ap (λ (u : Bool). cond {A = List ℕ} u [] (codes "  ; ") ++ (b ∷ bs)) (not_false (b == 10) (both_true (not (b == 10)) (list_all is_inside bs) is.line).0)

regroup : (s o f e : List ℕ) → (s ++ (o ++ f)) ++ e ≡ (s ++ o) ++ (f ++ e)
regroup s o f e = ap (λ (xs : List ℕ). xs ++ e) (sym (append_assoc s o f)) ∙ append_assoc (s ++ o) f e

-- a comment that was read: behind the line that it stands on, and on lines of its own
pub comment_shown : (own : List ℕ) (more : List (List ℕ)) → IsRemark own → AreRemarks more
    → shown.comment_text (comment_of own more) ≡ own_text own ++ 10 ∷ joined (map further_line more)
comment_shown own more is are =
    let rest = flat_map (λ (text : List ℕ). 10 ∷ text) more in
    let start = shown.comment_start (comment_of own more) in
    let behind = flat_map shown.comment_byte rest in
    ap (λ (xs : List ℕ). (start ++ xs) ++ 10 ∷ []) (flat_map-append shown.comment_byte own rest)
    ∙ ap (λ (xs : List ℕ). (start ++ (xs ++ behind)) ++ 10 ∷ []) (bytes_kept own is.line)
    ∙ regroup start own behind (10 ∷ [])
    ∙ ap (λ (xs : List ℕ). xs ++ (behind ++ 10 ∷ [])) (start_shown own more is)
    ∙ ap (λ (xs : List ℕ). own_text own ++ xs) (more_shown more are)

-- ---- what a further line says

-- a further line without the white space at its end
abbrev pub further_content : List ℕ → List ℕ
further_content text = before_white (further_line text)

pub further_solid : (b : ℕ) (bs : List ℕ) → IsRemark (b ∷ bs) → further_content (b ∷ bs) ≡ further_line (b ∷ bs)
further_solid b bs is = before_white_solid (further_line (b ∷ bs)) (solid_append (codes "    ; ") (b ∷ bs) (omega arith) is.last)

-- what stands behind a space
pub trimmed_space : (b : ℕ) (bs : List ℕ) → IsRemark (b ∷ bs) → trimmed (32 ∷ b ∷ bs) ≡ b ∷ bs
trimmed_space b bs is =
    ap before_white (skip_one is_white 32 (b ∷ bs) refl ∙ after_white_solid (b ∷ bs) is.first) ∙ before_white_solid (b ∷ bs) is.last

pub further_marked : (text : List ℕ) → IsRemark text → is_comment (further_content text) ≡ true
further_marked [] is = refl
further_marked (b ∷ bs) is = ap is_comment (further_solid b bs is)

pub further_said : (text : List ℕ) → IsRemark text → comment_text (further_content text) ≡ text
further_said [] is = refl
further_said (b ∷ bs) is = ap comment_text (further_solid b bs is) ∙ trimmed_space b bs is

pub further_text : (text : List ℕ) → IsRemark text → IsText (further_line text)
further_text text is = record {
  utf8 = utf8_append (codes "    ; ") text (utf8_ascii (codes "    ; ") refl) is.utf8;
  line = all_append is_inside (codes "    ; ") text refl is.line;
}

pub further_indented : (text : List ℕ) → is_indented (ended (further_line text)) ≡ true
further_indented text = refl

-- the comment lines in front of others that begin with none
pub comments_further : (more rest : List (List ℕ)) → AreRemarks more → comments_in rest ≡ [] → comments_in (map further_content more ++ rest) ≡ more
comments_further [] rest are none = none
comments_further (t ∷ ts) rest are none =
    ap (λ (u : Bool). cond u (comment_text (further_content t) ∷ comments_in (map further_content ts ++ rest)) []) (further_marked t are.0)
    ∙ ap (λ (x : List ℕ). x ∷ comments_in (map further_content ts ++ rest)) (further_said t are.0)
    ∙ ap (λ (xs : List (List ℕ)). t ∷ xs) (comments_further ts rest are.1 none)

-- they are passed over
pub each_further : (reads : ℕ → List ℕ → List (List ℕ) → Result Posting Fault) (line next : ℕ) (more rest : List (List ℕ)) → AreRemarks more → next ≡ line + length more
    → each_of reads line (map further_content more ++ rest) ≡ each_of reads next rest
unfolding each_of
each_further reads line next [] rest are e = ap (λ (k : ℕ). each_of reads k rest) (let same : line ≡ next = omega (arith, e) in same)
each_further reads line next (t ∷ ts) rest are e =
    ap (λ (u : Bool). cond {A = Result (List Posting) Fault} u (each_of reads (line + 1) (map further_content ts ++ rest))
    (reads line (further_content t) (map further_content ts ++ rest) >>= λ q. each_of reads (line + 1) (map further_content ts ++ rest) >>= λ qs. Ok (q ∷ qs))) (further_marked t are.0)
    ∙ each_further reads (line + 1) next ts rest are.1 (omega (arith, e))
