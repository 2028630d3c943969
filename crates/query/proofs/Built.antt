-- Terms that are read word by word, and regexes that are built one by one.
use Rattle.std.proofs.Common.{◌≡◌, ℕ, zero, suc, ◌+◌, ◌<◌, ◌≤◌, List, [], ◌∷◌, ◌++◌, length, get_or, take, drop, Option, Some, None, Result, Ok, Err, OnOk, refl, sym, ap, ◌∙◌, subst, arith, append_assoc, inl, inr}
use Rattle.std.proofs.lemmas.List.{drop_all}
use Rattle.std.proofs.lemmas.List.Elements.{All-nil, All-push}
use Rattle.regex.specs.declared.string.regex.Regex.{Regex}
use Rattle.query.specs.Building.{AreBuilt, AreDated, Grows, IsOneOf, IsRefusalOf, TellsWord, TellsWords}
use Rattle.query_terms.specs.Making.{Stays}
use Rattle.query_terms.specs.Reading.{HasDays, term_of, terms_of, and_then, kind_sources, sources_of}
use Rattle.query_terms.specs.declared.faults.MakeFault.{MakeFault}
use Rattle.query.specs.declared.faults.QueryFault.{QueryFault}
use Rattle.query.specs.declared.faults.QueryFault.TheVariants as query_fault
use Rattle.query_terms.specs.declared.kinds.Term.{Term}
use Rattle.query_terms.proofs.Built.{built_none}
use Rattle.query_terms.proofs.Walks.{left_here}

-- terms before those that are read
abbrev pub behind : List Term → Result (List Term) (List ℕ) → Result (List Term) (List ℕ)
behind ts (Ok more) = Ok (ts ++ more)
behind ts (Err word) = Err word

behind_more : (ts : List Term) (t : Term) (w : List ℕ) (rest : Result (List Term) (List ℕ)) → behind ts (and_then (Some t) rest w) ≡ behind (ts ++ t ∷ []) rest
behind_more ts t w (Ok more) = ap (λ l. Ok l) (sym (append_assoc ts (t ∷ []) more))
behind_more ts t w (Err other) = refl

pub read_more : (day : ℕ) (whole : Result (List Term) (List ℕ)) (ws : List (List ℕ)) (i : ℕ) (w : List ℕ) (ts : List Term) (t : Term) → whole ≡ behind ts (terms_of day (drop i ws)) → i < length ws → w ≡ get_or ws i w → term_of day w ≡ Some t → whole ≡ behind (ts ++ t ∷ []) (terms_of day (drop (i + 1) ws))
read_more day whole ws i w ts t e lt is read = rw (e, left_here ws i w lt is, read) (behind_more ts t w (terms_of day (drop (i + 1) ws)))

pub read_bad : (day : ℕ) (whole : Result (List Term) (List ℕ)) (ws : List (List ℕ)) (i : ℕ) (w : List ℕ) (ts : List Term) → whole ≡ behind ts (terms_of day (drop i ws)) → i < length ws → w ≡ get_or ws i w → term_of day w ≡ None → whole ≡ Err w
read_bad day whole ws i w ts e lt is read = rw (e, left_here ws i w lt is, read) refl

append_none : (ts : List Term) → ts ++ [] ≡ ts
append_none [] = refl
append_none (t ∷ ts) = ap (λ l. t ∷ l) (append_none ts)

pub read_all : (day : ℕ) (whole : Result (List Term) (List ℕ)) (ws : List (List ℕ)) (i : ℕ) (ts : List Term) → whole ≡ behind ts (terms_of day (drop i ws)) → length ws ≤ i → whole ≡ Ok ts
read_all day whole ws i ts e le = rw (e, drop_all i ws le) (ap (λ l. Ok l) (append_none ts))

-- every word that was read has its term
tail_read : (rest : Result (List Term) (List ℕ)) (t : Term) (w : List ℕ) (ts : List Term) → and_then (Some t) rest w ≡ Ok ts → (more : List Term) × (ts ≡ t ∷ more) × (rest ≡ Ok more)
tail_read (Ok more) t w ts e = (more, cc, refl)
tail_read (Err other) t w ts e = absurd cc

head_read : (day : ℕ) (found : Option Term) (rest : Result (List Term) (List ℕ)) (w : List ℕ) (ts : List Term) → and_then found rest w ≡ Ok ts → (t : Term) × (found ≡ Some t)
head_read day None rest w ts e = absurd cc
head_read day (Some t) rest w ts e = (t, refl)

split_read : (day : ℕ) (w : List ℕ) (ws : List (List ℕ)) (ts : List Term) → terms_of day (w ∷ ws) ≡ Ok ts → (t : Term) × (more : List Term) × (term_of day w ≡ Some t) × (ts ≡ t ∷ more) × (terms_of day ws ≡ Ok more)
split_read day w ws ts e =
    let first = head_read day (term_of day w) (terms_of day ws) w ts e in
    let same : and_then (Some first.0) (terms_of day ws) w ≡ Ok ts = subst (λ (o : Option Term). and_then o (terms_of day ws) w ≡ Ok ts) first.1 e in
    let rest = tail_read (terms_of day ws) first.0 w ts same in
    (first.0, rest.0, first.1, rest.1, rest.2)

pub as_many : (day : ℕ) (ws : List (List ℕ)) (ts : List Term) → terms_of day ws ≡ Ok ts → length ws ≡ length ts
as_many day [] ts e = let none : [] ≡ ts = cc in ap length none
as_many day (w ∷ ws) ts e =
    let s = split_read day w ws ts e in
    let n : length ws ≡ length (s.1) = as_many day ws s.1 s.4 in
    let k : length (w ∷ ws) ≡ length (s.0 ∷ s.1) = omega (arith, n) in
    k ∙ ap length (sym s.3)

pub read_at : (day : ℕ) (ws : List (List ℕ)) (ts : List Term) (i : ℕ) (w : List ℕ) (t : Term) → terms_of day ws ≡ Ok ts → i < length ws → w ≡ get_or ws i w → t ≡ get_or ts i t → term_of day w ≡ Some t
read_at day [] ts i w t e lt isw ist = absurd (omega arith)
read_at day (x ∷ ws) ts zero w t e lt isw ist =
    let s = split_read day x ws ts e in
    let here : t ≡ s.0 = subst (λ (l : List Term). t ≡ get_or l 0 t) s.3 ist in
    rw (isw, here) s.2
read_at day (x ∷ ws) ts (suc i) w t e lt isw ist =
    let s = split_read day x ws ts e in
    let there : t ≡ get_or (s.1) i t = subst (λ (l : List Term). t ≡ get_or l (suc i) t) s.3 ist in
    read_at day ws s.1 i w t s.4 (omega arith) isw there

-- the words before a place read as the terms before it
pub take_read : (day : ℕ) (ws : List (List ℕ)) (ts : List Term) (i : ℕ) → terms_of day ws ≡ Ok ts → terms_of day (take i ws) ≡ Ok (take i ts)
take_read day ws ts zero e = refl
take_read day [] ts (suc i) e = let none : [] ≡ ts = cc in subst (λ (l : List Term). terms_of day [] ≡ Ok (take (suc i) l)) none refl
take_read day (w ∷ ws) ts (suc i) e =
    let s = split_read day w ws ts e in
    let rest : terms_of day (take i ws) ≡ Ok (take i s.1) = take_read day ws s.1 i s.4 in
    subst (λ (l : List Term). terms_of day (take (suc i) (w ∷ ws)) ≡ Ok (take (suc i) l)) (sym s.3) (rw (s.2, rest) refl)

-- a list around the item at a place
pub around : (ws : List (List ℕ)) (i : ℕ) (w : List ℕ) → i < length ws → w ≡ get_or ws i w → ws ≡ take i ws ++ w ∷ drop (i + 1) ws
around ws i w lt is = sym (take_drop ws i) ∙ ap (λ l. take i ws ++ l) (left_here ws i w lt is)
  where
    take_drop : (xs : List (List ℕ)) (n : ℕ) → take n xs ++ drop n xs ≡ xs
    take_drop xs zero = refl
    take_drop [] (suc n) = refl
    take_drop (x ∷ xs) (suc n) = ap (λ l. x ∷ l) (take_drop xs n)

-- the bounds of terms that are read one by one
pub dated_none : AreDated []
dated_none = All-nil (λ (t : Term). HasDays t.kind)

pub dated_more : (ts : List Term) (t : Term) → AreDated ts → HasDays t.kind → AreDated (ts ++ t ∷ [])
dated_more ts t all one = All-push (λ (x : Term). HasDays x.kind) ts t all one

pub built_both : (sources more others : List (List ℕ)) (old : List Regex) → AreBuilt ((sources ++ more) ++ others) old → AreBuilt (sources ++ (more ++ others)) old
built_both sources more others old built = subst (λ s. AreBuilt s old) (append_assoc sources more others) built

-- which source was refused
pub one_left : {X : Type 0} (x : X) (xs ys : List X) → IsOneOf x xs → IsOneOf x (xs ++ ys)
one_left x [] ys h = absurd h
one_left x (y ∷ xs) ys (inl e) = inl e
one_left x (y ∷ xs) ys (inr h) = inr (one_left x xs ys h)

pub one_right : {X : Type 0} (x : X) (xs ys : List X) → IsOneOf x ys → IsOneOf x (xs ++ ys)
one_right x [] ys h = h
one_right x (y ∷ xs) ys h = inr (one_right x xs ys h)

pub refused_left : (xs ys : List (List ℕ)) (before now : ℕ) (last : Option (List ℕ)) → IsRefusalOf xs before now last → IsRefusalOf (xs ++ ys) before now last
refused_left xs ys before now last r = record { later = r.later; rose = r.rose; source = r.source; among = one_left r.source xs ys r.among; told = r.told }

pub refused_right : (xs ys : List (List ℕ)) (first before now : ℕ) (last : Option (List ℕ)) → before ≡ first → IsRefusalOf ys before now last → IsRefusalOf (xs ++ ys) first now last
refused_right xs ys first before now last e r =
    subst (λ (n : ℕ). IsRefusalOf (xs ++ ys) n now last) e (record { later = r.later; rose = r.rose; source = r.source; among = one_right r.source xs ys r.among; told = r.told })

pub grows_none : (old : List Regex) → Grows [] old old
grows_none old = λ sources built. built_none sources old built

pub grows_then : (more others : List (List ℕ)) (old middle new : List Regex) → Grows more old middle → Grows others middle new → Grows (more ++ others) old new
grows_then more others old middle new a b = λ sources built. built_both sources more others new (b (sources ++ more) (a sources built))

pub grows_tag : {T : Type 0} (r : Result T MakeFault) (more others : List (List ℕ)) (old middle new : List Regex) → Grows more old middle → OnOk r (Grows others middle new) → OnOk r (Grows (more ++ others) old new)
grows_tag (Ok x) more others old middle new a b = grows_then more others old middle new a b
grows_tag (Err f) more others old middle new a b = b

-- what is told of a word, told of all words, where those before it are read and built
pub words_told : (T U : Type 0) (day : ℕ) (words : List (List ℕ)) (ts : List Term) (i : ℕ) (word : List ℕ) (t : Term) (regexes : List Regex) (first before now : ℕ) (last_first last_before last_now : Option (List ℕ)) (fault : QueryFault)
    → Stays first before last_first last_before → terms_of day words ≡ Ok ts → i < length words → word ≡ get_or words i word → t ≡ get_or ts i t → AreBuilt (sources_of (take i ts)) regexes → TellsWord {T = T} word (kind_sources t.kind) before now last_before last_now (Err fault)
    → TellsWords {T = U} day words first now last_first last_now (Err fault)
words_told T U day words ts i word t regexes first before now last_first last_before last_now query_fault.Memory stays all lt isw ist built told = record { count = told.count ∙ stays.count; told = told.told ∙ stays.told }
words_told T U day words ts i word t regexes first before now last_first last_before last_now (query_fault.BadTerm other) stays all lt isw ist built told = told
words_told T U day words ts i word t regexes first before now last_first last_before last_now (query_fault.PatternRefused other) stays all lt isw ist built told = record {
  earlier = take i words;
  later = drop (i + 1) words;
  place = subst (λ (w : List ℕ). words ≡ take i words ++ w ∷ drop (i + 1) words) (sym told.0) (around words i word lt isw);
  terms = take i ts;
  read_earlier = take_read day words ts i all;
  regexes = regexes;
  built = built;
  term = t;
  read = subst (λ (w : List ℕ). term_of day w ≡ Some t) (sym told.0) (read_at day words ts i word t all lt isw ist);
  refusal = subst (λ (n : ℕ). IsRefusalOf (kind_sources t.kind) n now last_now) stays.count told.1;
}
