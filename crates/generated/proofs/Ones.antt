-- One rule is read, or isn't.
use Rattle.std.proofs.Common.{◌≡◌, ℕ, List, [], ◌∷◌, ◌++◌, map, Option, Result, Ok, Err, IfErr, IfOk, OnOk, refl, sym, ap, ◌∙◌, subst}
use Rattle.book.specs.declared.rules.AutoRule.{AutoRule}
use Rattle.query.specs.Made.{IsQueryOf, Makes}
use Rattle.query.specs.declared.faults.QueryFault.{QueryFault}
use Rattle.query.specs.declared.queries.Query.{Query}
use Rattle.query.specs.declared.faults.QueryFault.TheVariants as query_fault
use Rattle.query_terms.specs.Making.{Stays}
use Rattle.generated.specs.Reading.{ReadsMore, ReadsOne, fault_at}
use Rattle.generated.specs.Alone.{ask_accounts}
use Rattle.generated.specs.Queries.{IsRead, asked_by}
use Rattle.generated.specs.declared.fault.GenFault.{GenFault}
use Rattle.generated.specs.declared.fault.GenFault.TheVariants as gen_fault
use Rattle.generated.specs.declared.rules.RuleQuery.{RuleQuery}
use Rattle.generated.proofs.Readable.{are_read, first_bad, read_more, read_same}

module _ (day : ℕ) (rule : AutoRule) (before now : ℕ) (last_before last_now : Option (List ℕ)) where
  fault_by : (fault : QueryFault) → Makes day rule.words before now last_before last_now (Err fault)
      → ReadsOne day rule before now last_before last_now (Err (fault_at rule.line fault))
  fault_by query_fault.Memory makes = makes
  fault_by (query_fault.BadTerm word) makes = (refl, ((word, makes.0), makes.1))
  fault_by (query_fault.PatternRefused word) makes = (refl, (word, makes))

  -- a rule has no query
  pub read_fault : (fault : QueryFault) (told : GenFault) (words : List (List ℕ)) → words ≡ rule.words → told ≡ fault_at rule.line fault
      → Makes day words before now last_before last_now (Err fault) → ReadsOne day rule before now last_before last_now (Err told)
  read_fault fault told words same is makes =
      subst (λ (f : GenFault). ReadsOne day rule before now last_before last_now (Err f)) (sym is)
      (fault_by fault (subst (λ (ws : List (List ℕ)). Makes day ws before now last_before last_now (Err fault)) same makes))

  -- it has one
  pub read_ok : (read : RuleQuery) (query : Query) (words : List (List ℕ)) → words ≡ rule.words → read.rule.now ≡ rule → read.query ≡ query
      → read.alone ≡ ask_accounts day rule.words
      → Makes day words before now last_before last_now (Ok query) → ReadsOne day rule before now last_before last_now (Ok read)
  read_ok read query words same is of alone makes =
      let own = ap (λ (r : AutoRule). r.words) (sym is) in
      let one : IsRead day read = record {
        query = subst (λ (q : Query). IsQueryOf day read.rule.now.words q) (sym of)
            (subst (λ (ws : List (List ℕ)). IsQueryOf day ws query) (same ∙ own) makes.0);
        alone = alone ∙ ap (ask_accounts day) own;
      } in
      (is, (one, makes.1))

  -- or there is no memory for it
  pub kept_read : (result : Result RuleQuery GenFault) (query : Query) (words : List (List ℕ)) → words ≡ rule.words
      → IfOk result (λ read. read.query ≡ query) → IfOk result (λ read. read.rule.now ≡ rule)
      → IfOk result (λ read. read.alone ≡ ask_accounts day rule.words) → IfErr result (λ e. e ≡ gen_fault.Memory)
      → Makes day words before now last_before last_now (Ok query) → ReadsOne day rule before now last_before last_now result
  kept_read (Ok read) query words same of is alone err makes = read_ok read query words same is of alone makes
  kept_read (Err fault) query words same of is alone err makes =
      subst (λ (f : GenFault). ReadsOne day rule before now last_before last_now (Err f)) (sym err) makes.1

  module _ (old : List RuleQuery) where
    -- it has one, which is put behind others
    pub more_read : (read : RuleQuery) → ReadsOne day rule before now last_before last_now (Ok read)
        → ReadsMore day (rule ∷ []) old before now last_before last_now (old ++ read ∷ []) (Ok tt)
    more_read read one = ((λ earlier so. read_more day earlier old rule read so one.0 (one.1).0), (one.1).1)

    -- or there is no memory for it
    pub more_pushed : (read : RuleQuery) (new : List RuleQuery) (result : Result (Unit {0}) GenFault) → ReadsOne day rule before now last_before last_now (Ok read)
        → OnOk result (new ≡ old ++ read ∷ []) → IfErr result (λ e. e ≡ gen_fault.Memory)
        → ReadsMore day (rule ∷ []) old before now last_before last_now new result
    more_pushed read new (Ok done) one ok err =
        subst (λ (rs : List RuleQuery). ReadsMore day (rule ∷ []) old before now last_before last_now rs (Ok done)) (sym ok) (more_read read one)
    more_pushed read new (Err fault) one ok err =
        subst (λ (f : GenFault). ReadsMore day (rule ∷ []) old before now last_before last_now new (Err f)) (sym err) (one.1).1

    -- it has none
    pub more_fault : (new : List RuleQuery) (fault : GenFault) → ReadsOne day rule before now last_before last_now (Err fault)
        → ReadsMore day (rule ∷ []) old before now last_before last_now new (Err fault)
    more_fault new gen_fault.Memory one = one
    more_fault new (gen_fault.BadTerm line) one =
        ((λ earlier later so. first_bad day earlier old rule later ((one.1).0).0 so ((one.1).0).1 ∙ ap Err one.0), (one.1).1)
    more_fault new (gen_fault.PatternRefused line) one = λ earlier later so. record {
      earlier = earlier;
      rule = rule;
      later = later;
      order = refl;
      asked = map asked_by old;
      read = are_read day earlier old so;
      at = one.0;
      word = (one.1).0;
      refused = (one.1).1;
    }
    more_fault new (gen_fault.Journal fault) one = absurd one
    more_fault new (gen_fault.TooMany count limit) one = absurd one

-- no rule is there
pub more_none : (day : ℕ) (old : List RuleQuery) (before now : ℕ) (last_before last_now : Option (List ℕ)) → Stays before now last_before last_now
    → ReadsMore day [] old before now last_before last_now old (Ok tt)
more_none day old before now last_before last_now stays = ((λ earlier so. read_same day earlier old so), stays)

pub more_none_in : (day : ℕ) (rules : List AutoRule) (old : List RuleQuery) (before now : ℕ) (last_before last_now : Option (List ℕ)) → rules ≡ []
    → Stays before now last_before last_now → ReadsMore day rules old before now last_before last_now old (Ok tt)
more_none_in day rules old before now last_before last_now none stays =
    subst (λ (rs : List AutoRule). ReadsMore day rs old before now last_before last_now old (Ok tt)) (sym none)
    (more_none day old before now last_before last_now stays)
