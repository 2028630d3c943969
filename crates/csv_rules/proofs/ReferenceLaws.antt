-- The references of a file of rules, line by line, and the first to each name.
use Rattle.std.proofs.Common.{◌≡◌, ℕ, ◌+◌, ◌<◌, ◌≤◌, Bool, true, false, cond, not, ◌||◌, List, [], ◌∷◌, ◌++◌, length, get_or, take, Option, Some, None, refl, sym, ap, ◌∙◌, subst, append_assoc}
use Rattle.std.specs.List.{filter, flat_map, list_any}
use Rattle.std.proofs.lemmas.Bool.{false≢true}
use Rattle.std.proofs.lemmas.List.{append-nil, take_all}
use Rattle.std.proofs.lemmas.List.Elements.{filter-append, filter_more}
use Rattle.std.proofs.lemmas.Slice.Eq.{bytes_eq-Decides}
use Rattle.entry_reader.specs.Lines.{contents_of, has_byte, before_byte, after_byte}
use Rattle.query_terms.specs.Patterns.{folded}
use Rattle.csv_rules.specs.Drafts.{Progress, start, put, finished}
use Rattle.csv_rules.specs.Forms.{form_of}
use Rattle.csv_rules.specs.Reading.{ended}
use Rattle.csv_rules.specs.References.{TakesForm, TakesReferences, first_of_each, form_references, is_column, reference_at, references_from, references_of, unknown_at, unknown_by, unknown_columns, unknown_in, with_unknown}
use Rattle.csv_rules.specs.Words.{is_same_name}
use Rattle.csv_rules.specs.declared.forms.Form.{Form}
use Rattle.csv_rules.specs.declared.kinds.Sheet.{Sheet}
use Rattle.csv_rules.specs.declared.references.Reference.{Reference}
use Rattle.csv_rules.proofs.Progresses.{IsReached, reached_bad, reached_end}
use Rattle.csv_rules.proofs.Remainders.{first_and_others, others, others_more, others_none}

-- ---- the references of a text

-- of what is left of it
abbrev pub left_in : ℕ → List ℕ → List Reference
left_in line rest = flat_map (reference_at line) (others 37 rest)

pub one_more : (whole found : List Reference) (line : ℕ) (rest : List ℕ) (now : List Reference) → whole ≡ found ++ left_in line rest → has_byte 37 rest ≡ true
    → now ≡ found ++ reference_at line (before_byte 37 (after_byte 37 rest)) → whole ≡ now ++ left_in line (after_byte 37 rest)
one_more whole found line rest now e h n =
    rw (e, others_more 37 rest h, first_and_others 37 (after_byte 37 rest), n)
    (sym (append_assoc found (reference_at line (before_byte 37 (after_byte 37 rest))) (left_in line (after_byte 37 rest))))

pub all_done : (whole found : List Reference) (line : ℕ) (rest : List ℕ) → whole ≡ found ++ left_in line rest → has_byte 37 rest ≡ false → found ≡ whole
all_done whole found line rest e h = sym (rw (e, others_none 37 rest h) (append-nil found))

-- ---- and of lines

pub line_more : (whole found now : List Reference) (p q : Progress) (line : ℕ) (ls later : List (List ℕ)) (content : List ℕ) (form : Form)
    → whole ≡ found ++ references_from p line ls → ls ≡ content ∷ later → form_of p.stage content ≡ Some form → now ≡ found ++ form_references line form → q ≡ put p form
    → whole ≡ now ++ references_from q (line + 1) later
line_more whole found now p q line ls later content form e cut said n added =
    rw (e, cut, said, n, added) (sym (append_assoc found (form_references line form) (references_from (put p form) (line + 1) later)))

pub started : (text : List ℕ) (p : Progress) (found : List Reference) → p ≡ start → found ≡ [] → references_of text ≡ found ++ references_from p 1 (contents_of text)
started text p found e none = rw (e, none) refl

pub taken_form : (taken : Bool) (line : ℕ) (content : List ℕ) (old new : Progress) (before now : List Reference) → taken ≡ true → TakesReferences taken line content old new before now → TakesForm line content old new before now
taken_form taken line content old new before now is h = subst (λ t. TakesReferences t line content old new before now) is h

pub taken_none : (taken : Bool) (line : ℕ) (content : List ℕ) (old new : Progress) (before now : List Reference) → taken ≡ false → TakesReferences taken line content old new before now → form_of old.stage content ≡ None
taken_none taken line content old new before now is h = subst (λ t. TakesReferences t line content old new before now) is h

-- a line isn't of its form
pub none_bad : (text rest content after : List ℕ) (line : ℕ) (p : Progress) → IsReached text rest line p → contents_of rest ≡ content ∷ contents_of after → form_of p.stage content ≡ None
    → unknown_columns text ≡ []
none_bad text rest content after line p r cut said = rw (reached_bad text rest content after line p r cut said) refl

ended_by : (line : ℕ) (sheet : Option Sheet) (references : List Reference) → unknown_by (ended line sheet) references ≡ unknown_at sheet references
ended_by line (Some sheet) references = refl
ended_by line None references = refl

-- all lines were read
pub at_end : (text rest : List ℕ) (line : ℕ) (p : Progress) (found : List Reference) → IsReached text rest line p → references_of text ≡ found ++ references_from p line (contents_of rest) → contents_of rest ≡ []
    → unknown_columns text ≡ unknown_at (finished p) found
at_end text rest line p found r e none =
    let all : references_of text ≡ found = e ∙ (ap (λ (ls : List (List ℕ)). found ++ references_from p line ls) none ∙ append-nil found) in
    rw (reached_end text rest line p r none, all) (ended_by line (finished p) found)

-- ---- the first to each name

abbrev pub same : Reference → Reference → Bool
same other r = is_same_name other.name r.name

abbrev pub among : Reference → List Reference → Bool
among r found = list_any (λ other. same other r) found

abbrev pub without : Reference → List Reference → List Reference
without r found = filter (λ other. not (same other r)) found

same_is : (a b : Reference) → same a b ≡ true → folded b.name ≡ folded a.name
same_is a b e = (bytes_eq-Decides (folded b.name) (folded a.name)).0 e

is_same_by : (a b : Reference) → folded b.name ≡ folded a.name → same a b ≡ true
is_same_by a b e = (bytes_eq-Decides (folded b.name) (folded a.name)).1 e

not_true : (b : Bool) → (b ≡ true → ⊥) → b ≡ false
not_true true h = absurd (h refl)
not_true false h = refl

apart : (y x r : Reference) → same y x ≡ true → same x r ≡ false → same y r ≡ false
apart y x r is other = not_true (same y r) (λ e. false≢true (sym other ∙ is_same_by x r (same_is y r e ∙ sym (same_is y x is))))

swapped : (x r : Reference) → same x r ≡ true → same r x ≡ true
swapped x r e = is_same_by r x (sym (same_is x r e))

apart_too : (x r : Reference) → same x r ≡ false → same r x ≡ false
apart_too x r other = not_true (same r x) (λ e. false≢true (sym other ∙ swapped r x e))

among_by : (t : Bool) (x r y : Reference) (ys : List Reference) → same y x ≡ t → same x r ≡ false → among r (without x ys) ≡ among r ys → among r (without x (y ∷ ys)) ≡ among r (y ∷ ys)
among_by true x r y ys is other more = rw (is, apart y x r is other) more
among_by false x r y ys is other more = rw (is, more) refl

-- names apart from one of them are among the others
among_without : (x r : Reference) → same x r ≡ false → (found : List Reference) → among r (without x found) ≡ among r found
among_without x r other [] = refl
among_without x r other (y ∷ ys) = among_by (same y x) x r y ys refl other (among_without x r other ys)

abbrev pub with_one : Bool → List Reference → Reference → List Reference
with_one there found r = cond there found (found ++ r ∷ [])

put_by : (s t : Bool) (x r : Reference) (found : List Reference) → same x r ≡ s → among r found ≡ t → x ∷ without x (with_one t found r) ≡ with_one (s || among r (without x found)) (x ∷ without x found) r
put_by true true x r found is there = refl
put_by true false x r found is there =
    let tail : without x (r ∷ []) ≡ [] = rw (swapped x r is) refl in
    ap (λ l. x ∷ l) (filter-append (λ other. not (same other x)) found (r ∷ []) ∙ ap (λ l. without x found ++ l) tail ∙ append-nil (without x found))
put_by false true x r found is there = rw (among_without x r is found, there) refl
put_by false false x r found is there =
    let tail : without x (r ∷ []) ≡ r ∷ [] = rw (apart_too x r is) refl in
    rw (among_without x r is found, there)
    (ap (λ l. x ∷ l) (filter-append (λ other. not (same other x)) found (r ∷ []) ∙ ap (λ l. without x found ++ l) tail))

-- one reference more
first_more : (rs : List Reference) (r : Reference) → first_of_each (rs ++ r ∷ []) ≡ with_one (among r (first_of_each rs)) (first_of_each rs) r
first_more [] r = refl
first_more (x ∷ rs) r =
    ap (λ l. x ∷ without x l) (first_more rs r)
    ∙ put_by (same x r) (among r (first_of_each rs)) x r (first_of_each rs) refl refl

unknown_more : (known : Bool) (names : List (List ℕ)) (rs : List Reference) (r : Reference) → is_column names r.name ≡ known
    → first_of_each (filter (λ other. not (is_column names other.name)) rs ++ cond (not known) (r ∷ []) []) ≡ with_one (known || among r (unknown_in names rs)) (unknown_in names rs) r
unknown_more true names rs r is = ap first_of_each (append-nil (filter (λ other. not (is_column names other.name)) rs))
unknown_more false names rs r is = first_more (filter (λ other. not (is_column names other.name)) rs) r

pub unknown_next : (names : List (List ℕ)) (rs : List Reference) (i : ℕ) (r : Reference) (found now : List Reference) → found ≡ unknown_in names (take i rs) → i < length rs → r ≡ get_or rs i r
    → now ≡ with_unknown names found r → now ≡ unknown_in names (take (i + 1) rs)
unknown_next names rs i r found now e lt is n =
    let p : Reference → Bool = λ other. not (is_column names other.name) in
    let step : filter p (take (i + 1) rs) ≡ filter p (take i rs) ++ cond (p r) (r ∷ []) [] =
    filter_more p rs i r lt ∙ ap (λ (x : Reference). filter p (take i rs) ++ cond (p x) (x ∷ []) []) (sym is) in
    n ∙ ap (λ (l : List Reference). with_unknown names l r) e ∙ sym (ap first_of_each step ∙ unknown_more (is_column names r.name) names (take i rs) r refl)

pub unknown_done : (names : List (List ℕ)) (rs : List Reference) (i : ℕ) (found : List Reference) → found ≡ unknown_in names (take i rs) → length rs ≤ i → found ≡ unknown_in names rs
unknown_done names rs i found e le = e ∙ ap (unknown_in names) (take_all i rs le)
