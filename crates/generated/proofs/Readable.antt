-- Automated rules of which queries were made.
use Rattle.std.proofs.Common.{◌≡◌, ℕ, List, [], ◌∷◌, ◌++◌, map, Result, Ok, Err, refl, sym, ap, ◌∙◌}
use Rattle.std.specs.List.{AllByRecursion}
use Rattle.std.proofs.lemmas.List.{map-append, append-nil}
use Rattle.book.specs.declared.rules.AutoRule.{AutoRule}
use Rattle.book.specs.declared.transaction.Posting.{Posting}
use Rattle.book.specs.declared.transaction.Txn.{Txn}
use Rattle.query.specs.Made.{IsQueryOf}
use Rattle.query.specs.Meaning.{of_posting}
use Rattle.query.specs.OwnLetters.{own_in}
use Rattle.query.specs.Words.{terms_mean}
use Rattle.query.specs.declared.account_types.Types.{Types}
use Rattle.query.specs.declared.queries.Query.{Query}
use Rattle.query_terms.specs.Reading.{terms_of}
use Rattle.query_terms.specs.declared.kinds.Term.{Term}
use Rattle.generated.specs.Asking.{AreQueries, IsQuery}
use Rattle.generated.specs.Queries.{AreRead, IsRead, asked_by}
use Rattle.generated.specs.Rules.{before_rest, read_rules, read_with, with_rest}
use Rattle.generated.specs.declared.rules.RuleQuery.{RuleQuery}
use Rattle.generated.proofs.Alone.{words_alone}

abbrev pub rule_of : RuleQuery → AutoRule
rule_of read = read.rule.now

pub read_all : (day : ℕ) (reads : List RuleQuery) → AllByRecursion (IsRead day) reads
    → read_rules day (map rule_of reads) ≡ Ok (map asked_by reads)
read_all day [] h = refl
read_all day (read ∷ reads) h =
    ap (λ (terms : Result (List Term) (List ℕ)). with_rest (read_with read.rule.now terms) (read_rules day (map rule_of reads))) (h.0).query.read
    ∙ ap (before_rest (asked_by read)) (read_all day reads h.1)

-- rules of which queries were made are read
pub are_read : (day : ℕ) (rules : List AutoRule) (reads : List RuleQuery) → AreRead day rules reads
    → read_rules day rules ≡ Ok (map asked_by reads)
are_read day rules reads so = ap (read_rules day) (sym so.kept) ∙ read_all day reads so.queries

fails_after : (day : ℕ) (reads : List RuleQuery) (rule : AutoRule) (later : List AutoRule) (word : List ℕ) → AllByRecursion (IsRead day) reads
    → terms_of day rule.words ≡ Err word → read_rules day (map rule_of reads ++ rule ∷ later) ≡ Err rule.line
fails_after day [] rule later word h bad =
    ap (λ (terms : Result (List Term) (List ℕ)). with_rest (read_with rule terms) (read_rules day later)) bad
fails_after day (read ∷ reads) rule later word h bad =
    ap (λ (terms : Result (List Term) (List ℕ)). with_rest (read_with read.rule.now terms) (read_rules day (map rule_of reads ++ rule ∷ later))) (h.0).query.read
    ∙ ap (before_rest (asked_by read)) (fails_after day reads rule later word h.1 bad)

-- a rule that isn't read behind rules that are
pub first_bad : (day : ℕ) (earlier : List AutoRule) (reads : List RuleQuery) (rule : AutoRule) (later : List AutoRule) (word : List ℕ) → AreRead day earlier reads
    → terms_of day rule.words ≡ Err word → read_rules day (earlier ++ rule ∷ later) ≡ Err rule.line
first_bad day earlier reads rule later word so bad =
    ap (λ (rs : List AutoRule). read_rules day (rs ++ rule ∷ later)) (sym so.kept) ∙ fails_after day reads rule later word so.queries bad

pushed : (day : ℕ) (reads : List RuleQuery) (read : RuleQuery) → AllByRecursion (IsRead day) reads → IsRead day read
    → AllByRecursion (IsRead day) (reads ++ read ∷ [])
pushed day [] read h is = (is, h)
pushed day (r ∷ reads) read h is = (h.0, pushed day reads read h.1 is)

-- one more rule is read
pub read_more : (day : ℕ) (earlier : List AutoRule) (reads : List RuleQuery) (rule : AutoRule) (read : RuleQuery) → AreRead day earlier reads
    → read.rule.now ≡ rule → IsRead day read → AreRead day (earlier ++ rule ∷ []) (reads ++ read ∷ [])
read_more day earlier reads rule read so same is = record {
  kept = map-append rule_of reads (read ∷ [])
      ∙ ap (λ (rs : List AutoRule). rs ++ read.rule.now ∷ []) so.kept
      ∙ ap (λ (r : AutoRule). earlier ++ r ∷ []) same;
  queries = pushed day reads read so.queries is;
}

-- no rule is there
pub read_same : (day : ℕ) (earlier : List AutoRule) (reads : List RuleQuery) → AreRead day earlier reads → AreRead day (earlier ++ []) reads
read_same day earlier reads so = record { kept = so.kept ∙ sym (append-nil earlier); queries = so.queries }

-- what is read means what its terms do
pub are_queries : (day : ℕ) (reads : List RuleQuery)
    → ((day : ℕ) (words : List (List ℕ)) (query : Query) (types : Types) (posting : Posting) (txn : Txn) → IsQueryOf day words query
    → of_posting query types posting txn ≡ terms_mean query.terms.items (own_in types) posting txn)
    → AllByRecursion (IsRead day) reads → AreQueries reads
are_queries day [] law h = h
are_queries day (read ∷ reads) law h =
    let is = h.0 in
    let one : IsQuery read = record {
      means = λ types posting txn. law day read.rule.now.words read.query types posting txn is.query;
      alone = λ so. words_alone day read.rule.now.words read.query.terms.items is.query.read (sym is.alone ∙ so);
    } in
    (one, are_queries day reads law h.1)
