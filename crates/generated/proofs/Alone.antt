-- Terms that ask for accounts alone mean all postings of an account, or none.
use Rattle.std.proofs.Common.{◌≡◌, ℕ, Bool, true, false, ◌&&◌, ◌||◌, cond, List, [], ◌∷◌, Option, Some, None, Result, Ok, Err, refl, sym, ap, ap₂, ◌∙◌}
use Rattle.std.specs.List.{AllByRecursion, filter, list_all, list_any}
use Rattle.std.proofs.lemmas.Bool.{false≢true}
use Rattle.book.specs.declared.transaction.Posting.{Posting}
use Rattle.book.specs.declared.transaction.Txn.{Txn}
use Rattle.query.specs.Matching.{Own, kind_holds, matches, one_holds, term_holds, under}
use Rattle.query.specs.Words.{terms_mean}
use Rattle.query_terms.specs.Patterns.{Known, finds}
use Rattle.query_terms.specs.Reading.{and_then, sources_of, term_of, terms_of}
use Rattle.query_terms.specs.Readings.{known_by}
use Rattle.query_terms.specs.declared.kinds.Kind.{Kind}
use Rattle.query_terms.specs.declared.kinds.Kind.TheVariants as kinds
use Rattle.query_terms.specs.declared.kinds.Term.{Term}
use Rattle.generated.specs.Alone.{are_of_accounts, ask_accounts, asks_account, is_of_account}

-- ---- tests that agree on some terms

module _ (one other : Term → Bool) where
  abbrev Agree : List Term → Type 0
  Agree terms = AllByRecursion (λ (t : Term). one t ≡ other t) terms

  kept_by : (b : Bool) (t : Term) (rest : List Term) → one t ≡ other t → Agree rest → Agree (cond b (t ∷ rest) rest)
  kept_by true t rest same so = (same, so)
  kept_by false t rest same so = so

  kept : (test : Term → Bool) (terms : List Term) → Agree terms → Agree (filter test terms)
  kept test [] so = so
  kept test (t ∷ ts) so = kept_by (test t) t (filter test ts) so.0 (kept test ts so.1)

  any_same : (terms : List Term) → Agree terms → list_any one terms ≡ list_any other terms
  any_same [] so = refl
  any_same (t ∷ ts) so = ap₂ ◌||◌ so.0 (any_same ts so.1)

  all_same : (terms : List Term) → Agree terms → list_all one terms ≡ list_all other terms
  all_same [] so = refl
  all_same (t ∷ ts) so = ap₂ ◌&&◌ so.0 (all_same ts so.1)

  one_same : (terms : List Term) → Agree terms → one_holds one terms ≡ one_holds other terms
  one_same [] so = refl
  one_same (t ∷ ts) so = any_same (t ∷ ts) so

  -- of those that pass a test one holds, or there is none, and all hold
  one_of : (test : Term → Bool) (terms : List Term) → Agree terms → one_holds one (filter test terms) ≡ one_holds other (filter test terms)
  one_of test terms so = one_same (filter test terms) (kept test terms so)

  all_of : (test : Term → Bool) (terms : List Term) → Agree terms → list_all one (filter test terms) ≡ list_all other (filter test terms)
  all_of test terms so = all_same (filter test terms) (kept test terms so)

  match_same : (terms : List Term) → Agree terms → matches one terms ≡ matches other terms
  match_same terms so = ap₂ ◌&&◌ (one_of _ terms so) (ap₂ ◌&&◌ (one_of _ terms so) (ap₂ ◌&&◌ (one_of _ terms so) (all_of _ terms so)))

-- ---- terms that ask for accounts alone

both : (a b : Bool) → (a && b) ≡ true → (a ≡ true) × (b ≡ true)
both true b h = (refl, h)
both false b h = absurd (false≢true h)

module _ (known : Known) (one other : Own) (p q : Posting) (t u : Txn) (same : p.account ≡ q.account) where
  kind_same : (kind : Kind) → is_of_account kind ≡ true → kind_holds known one p t kind ≡ kind_holds known other q u kind
  kind_same (kinds.Said field pattern) alone = absurd (false≢true alone)
  kind_same (kinds.Account pattern) alone = ap (finds known pattern) same
  kind_same (kinds.Symbol pattern) alone = absurd (false≢true alone)
  kind_same (kinds.Amount test) alone = absurd (false≢true alone)
  kind_same (kinds.Date period) alone = absurd (false≢true alone)
  kind_same (kinds.Depth depth) alone = refl
  kind_same (kinds.Real real) alone = absurd (false≢true alone)
  kind_same (kinds.Status mark) alone = absurd (false≢true alone)
  kind_same (kinds.Tag name value) alone = absurd (false≢true alone)
  kind_same (kinds.Type letters) alone = absurd (false≢true alone)

  terms_agree : (terms : List Term) → are_of_accounts terms ≡ true
      → AllByRecursion (λ (term : Term). term_holds known one p t term ≡ term_holds known other q u term) terms
  terms_agree [] alone = tt
  terms_agree (term ∷ terms) alone =
      let parts = both (is_of_account term.kind) (are_of_accounts terms) alone in
      (ap (under term.nots) (kind_same term.kind parts.0), terms_agree terms parts.1)

pub mean_alike : (terms : List Term) (one other : Own) (p q : Posting) (t u : Txn) → are_of_accounts terms ≡ true → p.account ≡ q.account
    → terms_mean terms one p t ≡ terms_mean terms other q u
mean_alike terms one other p q t u alone same =
    let known = known_by (sources_of terms) in
    match_same (term_holds known one p t) (term_holds known other q u) terms (terms_agree known one other p q t u same terms alone)

-- ---- words that do

-- the terms that are read
abbrev ok_terms : List Term → Result (List Term) (List ℕ) → List Term
ok_terms other (Ok terms) = terms
ok_terms other (Err word) = other

read_alone : (word : List ℕ) (term : Option Term) (rest : Result (List Term) (List ℕ)) (terms : List Term) → and_then term rest word ≡ Ok terms
    → asks_account term ≡ true → ((more : List Term) → rest ≡ Ok more → are_of_accounts more ≡ true) → are_of_accounts terms ≡ true
read_alone word None rest terms read asks later = absurd (false≢true asks)
read_alone word (Some term) (Ok more) terms read asks later =
    ap are_of_accounts (sym (ap (ok_terms terms) read)) ∙ ap₂ ◌&&◌ asks (later more refl)
read_alone word (Some term) (Err bad) terms read asks later = let never : ⊥ = cc in absurd never

-- what words read as that ask for accounts alone
pub words_alone : (day : ℕ) (words : List (List ℕ)) (terms : List Term) → terms_of day words ≡ Ok terms → ask_accounts day words ≡ true
    → are_of_accounts terms ≡ true
words_alone day [] terms read alone = ap are_of_accounts (sym (ap (ok_terms terms) read))
words_alone day (word ∷ words) terms read alone =
    let parts = both (asks_account (term_of day word)) (ask_accounts day words) alone in
    read_alone word (term_of day word) (terms_of day words) terms read parts.0 (λ more is. words_alone day words more is parts.1)
