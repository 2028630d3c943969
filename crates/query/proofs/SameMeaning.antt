-- Queries whose regexes find the same mean the same.
use Rattle.std.proofs.Common.{◌≡◌, ℕ, zero, suc, Bool, not, ◌&&◌, ◌||◌, List, Option, Some, None, refl, ap, ap₂}
use Rattle.std.specs.List.{list_any}
use Rattle.book.specs.declared.amount.Amount.{Amount}
use Rattle.book.specs.declared.transaction.Posting.{Posting}
use Rattle.book.specs.declared.transaction.Tag.{Tag}
use Rattle.book.specs.declared.transaction.Txn.{Txn}
use Rattle.query.specs.Building.{AreBuilt}
use Rattle.query.specs.Matching.{Own, has_symbol, value_matches, tag_matches, has_tag, kind_holds, under, term_holds, holds_of_some, kind_holds_of, nots_hold_of, term_holds_of, matches, boundless, dateless, means_boundless, means_posting, means_undated, means_txn, said}
use Rattle.query.specs.Meaning.{of_boundless, of_posting, of_undated, of_txn}
use Rattle.query.specs.OwnLetters.{own_in}
use Rattle.query.specs.Words.{terms_mean, terms_mean_boundless, terms_mean_undated, terms_mean_txn}
use Rattle.query.specs.declared.account_types.Types.{Types}
use Rattle.query.specs.declared.queries.Query.{Query}
use Rattle.query.proofs.Alike.{known_alike}
use Rattle.query_terms.specs.Patterns.{Known, finds, is_found, is_whole, re_of}
use Rattle.query_terms.specs.Reading.{sources_of}
use Rattle.query_terms.specs.Readings.{known_by}
use Rattle.query_terms.specs.Sought.{known_of}
use Rattle.query_terms.specs.declared.kinds.Kind.{Kind}
use Rattle.query_terms.specs.declared.kinds.Kind.TheVariants as kinds
use Rattle.query_terms.specs.declared.kinds.Pattern.{Pattern}
use Rattle.query_terms.specs.declared.kinds.Pattern.TheVariants as patterns
use Rattle.query_terms.specs.declared.kinds.Term.{Term}

module _ (a b : Known) (alike : (source text : List ℕ) → is_found (re_of a source) text ≡ is_found (re_of b source) text) (own : Own) where
  same_finds : (pattern : Pattern) (text : List ℕ) → finds a pattern text ≡ finds b pattern text
  same_finds (patterns.Word word) text = refl
  same_finds (patterns.Special source) text = alike source text

  same_whole : (pattern : Pattern) (text : List ℕ) → is_whole a pattern text ≡ is_whole b pattern text
  same_whole (patterns.Word word) text = refl
  same_whole (patterns.Special source) text = alike source text

  same_symbol : (pattern : Pattern) (amount : Option Amount) → has_symbol a pattern amount ≡ has_symbol b pattern amount
  same_symbol pattern None = refl
  same_symbol pattern (Some amount) = same_whole pattern amount.symbol

  same_value : (value : Option Pattern) (text : List ℕ) → value_matches a value text ≡ value_matches b value text
  same_value None text = refl
  same_value (Some pattern) text = same_finds pattern text

  same_tag : (name : Pattern) (value : Option Pattern) (tag : Tag) → tag_matches a name value tag ≡ tag_matches b name value tag
  same_tag name value tag = ap₂ ◌&&◌ (same_finds name tag.name) (same_value value tag.value)

  same_tags : (name : Pattern) (value : Option Pattern) (tags : List Tag) → has_tag a name value tags ≡ has_tag b name value tags
  same_tags name value tags = λ i. list_any (λ tag. same_tag name value tag i) tags

  same_kind : (posting : Posting) (txn : Txn) (kind : Kind) → kind_holds a own posting txn kind ≡ kind_holds b own posting txn kind
  same_kind posting txn (kinds.Said field pattern) = same_finds pattern (said field txn)
  same_kind posting txn (kinds.Account pattern) = same_finds pattern posting.account
  same_kind posting txn (kinds.Symbol pattern) = same_symbol pattern posting.amount
  same_kind posting txn (kinds.Amount test) = refl
  same_kind posting txn (kinds.Date period) = refl
  same_kind posting txn (kinds.Depth depth) = refl
  same_kind posting txn (kinds.Real real) = refl
  same_kind posting txn (kinds.Status mark) = refl
  same_kind posting txn (kinds.Tag name value) = ap₂ ◌||◌ (same_tags name value posting.tags) (same_tags name value txn.tags)
  same_kind posting txn (kinds.Type letters) = refl

  same_term : (posting : Posting) (txn : Txn) (term : Term) → term_holds a own posting txn term ≡ term_holds b own posting txn term
  same_term posting txn term = ap (under term.nots) (same_kind posting txn term.kind)

  pub same_posting : (terms : List Term) (posting : Posting) (txn : Txn) → means_posting a own terms posting txn ≡ means_posting b own terms posting txn
  same_posting terms posting txn = λ i. matches (λ term. same_term posting txn term i) terms

  pub same_undated : (terms : List Term) (posting : Posting) (txn : Txn) → means_undated a own terms posting txn ≡ means_undated b own terms posting txn
  same_undated terms posting txn = same_posting (dateless terms) posting txn

  pub same_boundless : (terms : List Term) (posting : Posting) (txn : Txn) → means_boundless a own terms posting txn ≡ means_boundless b own terms posting txn
  same_boundless terms posting txn = same_posting (boundless terms) posting txn

  same_of_some : (txn : Txn) (nots : ℕ) (kind : Kind) → holds_of_some a own txn nots kind ≡ holds_of_some b own txn nots kind
  same_of_some txn nots kind = λ i. list_any (λ posting. under nots (same_kind posting txn kind i)) txn.postings

  same_of : (txn : Txn) (kind : Kind) → kind_holds_of a own txn kind ≡ kind_holds_of b own txn kind
  same_of txn (kinds.Said field pattern) = same_finds pattern (said field txn)
  same_of txn (kinds.Account pattern) = same_of_some txn 0 (kinds.Account pattern)
  same_of txn (kinds.Symbol pattern) = same_of_some txn 0 (kinds.Symbol pattern)
  same_of txn (kinds.Amount test) = same_of_some txn 0 (kinds.Amount test)
  same_of txn (kinds.Date period) = refl
  same_of txn (kinds.Depth depth) = refl
  same_of txn (kinds.Real real) = same_of_some txn 0 (kinds.Real real)
  same_of txn (kinds.Status mark) = refl
  same_of txn (kinds.Tag name value) = ap₂ ◌||◌ (same_tags name value txn.tags) (same_of_some txn 0 (kinds.Tag name value))
  same_of txn (kinds.Type letters) = same_of_some txn 0 (kinds.Type letters)

  same_nots : (txn : Txn) (nots : ℕ) (kind : Kind) → nots_hold_of a own txn nots kind ≡ nots_hold_of b own txn nots kind
  same_nots txn zero kind = same_of txn kind
  same_nots txn (suc nots) kind = ap not (same_of_some txn nots kind)

  pub same_txn : (terms : List Term) (txn : Txn) → means_txn a own terms txn ≡ means_txn b own terms txn
  same_txn terms txn = λ i. matches (λ term. same_nots txn term.nots term.kind i) terms

-- a query means what its terms do
module _ (query : Query) (types : Types) (built : AreBuilt (sources_of query.terms.items) query.regexes.items) where
  both : (source text : List ℕ) → is_found (re_of (known_of query.regexes.items) source) text ≡ is_found (re_of (known_by (sources_of query.terms.items)) source) text
  both source text = known_alike (sources_of query.terms.items) query.regexes.items built source text

  pub posting_by_terms : (posting : Posting) (txn : Txn) → of_posting query types posting txn ≡ terms_mean query.terms.items (own_in types) posting txn
  posting_by_terms posting txn = same_posting (known_of query.regexes.items) (known_by (sources_of query.terms.items)) both (own_in types) query.terms.items posting txn

  pub undated_by_terms : (posting : Posting) (txn : Txn) → of_undated query types posting txn ≡ terms_mean_undated query.terms.items (own_in types) posting txn
  undated_by_terms posting txn = same_undated (known_of query.regexes.items) (known_by (sources_of query.terms.items)) both (own_in types) query.terms.items posting txn

  pub boundless_by_terms : (posting : Posting) (txn : Txn) → of_boundless query types posting txn ≡ terms_mean_boundless query.terms.items (own_in types) posting txn
  boundless_by_terms posting txn = same_boundless (known_of query.regexes.items) (known_by (sources_of query.terms.items)) both (own_in types) query.terms.items posting txn

  pub txn_by_terms : (txn : Txn) → of_txn query types txn ≡ terms_mean_txn query.terms.items (own_in types) txn
  txn_by_terms txn = same_txn (known_of query.regexes.items) (known_by (sources_of query.terms.items)) both (own_in types) query.terms.items txn
