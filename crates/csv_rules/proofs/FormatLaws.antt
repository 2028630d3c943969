-- The parts of a format, byte by byte.
use Rattle.std.proofs.Common.{◌≡◌, ℕ, ◌+◌, ◌<◌, ◌≤◌, true, false, List, [], ◌∷◌, ◌++◌, length, get_or, drop, Option, Some, None, refl, sym, ap, append_assoc}
use Rattle.std.proofs.lemmas.List.{append-nil, drop_all}
use Rattle.query_terms.proofs.Walks.{left_here}
use Rattle.csv_rules.specs.Formats.{format_from, next_part, with_next, is_done}
use Rattle.csv_rules.specs.declared.kinds.DatePart.{DatePart}
use Rattle.csv_rules.specs.declared.formats.Before.{Before}
use Rattle.csv_rules.specs.declared.formats.Before.TheVariants as before
use Rattle.csv_rules.specs.declared.formats.Next.TheVariants as next

-- parts before those that are read
abbrev pub behind : List DatePart → Option (List DatePart) → Option (List DatePart)
behind ps (Some more) = Some (ps ++ more)
behind ps None = None

behind_more : (ps : List DatePart) (p : DatePart) (rest : Option (List DatePart)) → behind ps (with_next (next.Part p) (λ n. rest)) ≡ behind (ps ++ p ∷ []) rest
behind_more ps p (Some more) = ap (λ l. Some l) (sym (append_assoc ps (p ∷ []) more))
behind_more ps p None = refl

pub one_more : (whole : Option (List DatePart)) (text : List ℕ) (i : ℕ) (c : ℕ) (ps : List DatePart) (b : Before) (p : DatePart) → whole ≡ behind ps (format_from b (drop i text)) → i < length text → c ≡ get_or text i c → next_part b c ≡ next.Part p
    → whole ≡ behind (ps ++ p ∷ []) (format_from before.Nothing (drop (i + 1) text))
one_more whole text i c ps b p e lt is said = rw (e, left_here text i c lt is, said) (behind_more ps p (format_from before.Nothing (drop (i + 1) text)))

pub goes_on : (whole : Option (List DatePart)) (text : List ℕ) (i : ℕ) (c : ℕ) (ps : List DatePart) (b n : Before) → whole ≡ behind ps (format_from b (drop i text)) → i < length text → c ≡ get_or text i c → next_part b c ≡ next.More n
    → whole ≡ behind ps (format_from n (drop (i + 1) text))
goes_on whole text i c ps b n e lt is said = rw (e, left_here text i c lt is, said) refl

pub stops : (whole : Option (List DatePart)) (text : List ℕ) (i : ℕ) (c : ℕ) (ps : List DatePart) (b : Before) → whole ≡ behind ps (format_from b (drop i text)) → i < length text → c ≡ get_or text i c → next_part b c ≡ next.Unknown
    → whole ≡ None
stops whole text i c ps b e lt is said = rw (e, left_here text i c lt is, said) refl

pub all_done : (whole : Option (List DatePart)) (text : List ℕ) (i : ℕ) (ps : List DatePart) (b : Before) → whole ≡ behind ps (format_from b (drop i text)) → length text ≤ i → is_done b ≡ true → whole ≡ Some ps
all_done whole text i ps b e le done = rw (e, drop_all i text le, done) (ap (λ l. Some l) (append-nil ps))

pub not_done : (whole : Option (List DatePart)) (text : List ℕ) (i : ℕ) (ps : List DatePart) (b : Before) → whole ≡ behind ps (format_from b (drop i text)) → length text ≤ i → is_done b ≡ false → whole ≡ None
not_done whole text i ps b e le done = rw (e, drop_all i text le, done) refl
