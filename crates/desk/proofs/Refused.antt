-- What is replied to a report, and what the maker of patterns tells then.
use Rattle.std.proofs.Common.{◌≡◌, inl, inr, ℕ, Bool, true, false, cond, if◌then◌else◌, List, [], ◌∷◌, ◌++◌, map, filter, Option, None, Result, Ok, Err, refl, ap, sym, subst, ◌∙◌}
use Rattle.book.specs.declared.fault.Fault.{Fault}
use Rattle.book.specs.declared.item.Book.{Book}
use Rattle.book.specs.declared.item.Placed.{Placed}
use Rattle.book.specs.declared.rules.AutoRule.{AutoRule}
use Rattle.balancing.specs.Load.{load}
use Rattle.generated.specs.Rules.{Asked as AskedOfRule, autos_of, read_rules, read_with, with_rest}
use Rattle.generated.specs.declared.fault.GenFault.{GenFault}
use Rattle.generated.specs.declared.fault.GenFault.TheVariants as gen_fault
use Rattle.journal_reader.specs.Items.{items_in}
use Rattle.query.specs.Building.{IsOneOf, IsRefusedWord}
use Rattle.query_terms.specs.Making.{IsRefusal}
use Rattle.query_terms.specs.Reading.{kind_sources, term_of, terms_of}
use Rattle.query_terms.specs.declared.kinds.Term.{Term}
use Rattle.query.specs.Matching.{dates_in}
use Rattle.report_commands.specs.Patterns.{Blames, has_pattern, has_some, pattern_words, sources_in}
use Rattle.report_commands.specs.declared.asked.Asked.{Asked}
use Rattle.report_commands.specs.declared.fault.WordsFault.{WordsFault}
use Rattle.report_commands.specs.declared.fault.WordsFault.TheVariants as words_fault
use Rattle.plan_commands.specs.Books.{with_forecast}
use Rattle.plan_commands.specs.Bounds.{given_bounds}
use Rattle.plan_commands.specs.Reports.{Report}
use Rattle.plan_commands.specs.declared.fault.PlanFault.TheVariants as plan_fault
use Rattle.desk.specs.declared.request.Request.{Request}
use Rattle.desk.specs.declared.request.Request.TheVariants as request
use Rattle.desk.specs.declared.reply.Reply.{Reply}
use Rattle.desk.specs.Reports.{IsRefusedPattern, IsRefusedRule, Reports, TellsRule, if_made, lines_by, pattern_line, refusable_lines, refusable_words, refusable_words_by, refusable_words_in, rule_lines, words_over}
use Rattle.desk.specs.States.{Replies, made_reply, refused_pattern, refused_rule, report_reply}
use Rattle.desk.specs.Steps.{TellsReply}

-- what is among some replies is so with others before or behind them
among_first : (r : Reply) (xs ys : List Reply) → IsOneOf r xs → IsOneOf r (xs ++ ys)
among_first r [] ys among = absurd among
among_first r (x ∷ xs) ys (inl is) = inl is
among_first r (x ∷ xs) ys (inr more) = inr (among_first r xs ys more)

among_later : (r : Reply) (xs ys : List Reply) → IsOneOf r ys → IsOneOf r (xs ++ ys)
among_later r [] ys among = among
among_later r (x ∷ xs) ys among = inr (among_later r xs ys among)

-- what passes a test is among those that do
kept_among : (p : List ℕ → Bool) (word : List ℕ) (earlier later : List (List ℕ)) → p word ≡ true
    → IsOneOf (refused_pattern word) (map refused_pattern (filter p (earlier ++ word ∷ later)))
kept_among p word [] later h = rw h (inl refl)
kept_among p word (x ∷ earlier) later h = by (p x) (kept_among p word earlier later h)
  where
    by : (v : Bool) → IsOneOf (refused_pattern word) (map refused_pattern (filter p (earlier ++ word ∷ later)))
        → IsOneOf (refused_pattern word) (map refused_pattern (cond v (x ∷ filter p (earlier ++ word ∷ later)) (filter p (earlier ++ word ∷ later))))
    by true more = inr more
    by false more = more

-- and there are some then
some_kept : (p : List ℕ → Bool) (word : List ℕ) (earlier later : List (List ℕ)) → p word ≡ true → has_some (filter p (earlier ++ word ∷ later)) ≡ true
some_kept p word [] later h = rw h refl
some_kept p word (x ∷ earlier) later h = by (p x) (some_kept p word earlier later h)
  where
    by : (v : Bool) → has_some (filter p (earlier ++ word ∷ later)) ≡ true
        → has_some (cond v (x ∷ filter p (earlier ++ word ∷ later)) (filter p (earlier ++ word ∷ later))) ≡ true
    by true more = refl
    by false more = more

has_one : (source : List ℕ) (sources : List (List ℕ)) → IsOneOf source sources → has_some sources ≡ true
has_one source [] among = absurd among
has_one source (x ∷ sources) among = refl

-- the sources of a refused word's term
sources_are : (day : ℕ) (words : List (List ℕ)) (word : List ℕ) (before now : ℕ) (last_now : Option (List ℕ)) (place : IsRefusedWord day words word before now last_now)
    → sources_in (term_of day word) ≡ kind_sources place.term.kind
sources_are day words word before now last_now place = ap sources_in place.read

has_source : (day : ℕ) (words : List (List ℕ)) (word : List ℕ) (before now : ℕ) (last_now : Option (List ℕ)) (place : IsRefusedWord day words word before now last_now)
    → has_pattern day word ≡ true
has_source day words word before now last_now place =
    ap has_some (sources_are day words word before now last_now place) ∙ has_one place.refusal.source (kind_sources place.term.kind) place.refusal.among

module _ (day : ℕ) (words : List (List ℕ)) (word : List ℕ) (before now : ℕ) (last_now : Option (List ℕ)) (h : IsRefusedPattern day words word before now last_now) where
  place : IsRefusedWord day h.asked.words word before now last_now
  place = h.refused.refused

  -- The word of a refused pattern is one of those that may be told.
  pub may_be_told : IsOneOf (refused_pattern word) (map refused_pattern (refusable_words day words))
  may_be_told =
      let P : List (List ℕ) → Type 0 = λ those. IsOneOf (refused_pattern word) (map refused_pattern those) in
      let those : refusable_words day words ≡ pattern_words day (place.earlier ++ word ∷ place.later) =
      ap (refusable_words_in day) h.is ∙ ap (refusable_words_by day h.asked.words) h.refused.read ∙ ap (pattern_words day) place.place in
      subst P (sym those) (kept_among (has_pattern day) word place.earlier place.later (has_source day h.asked.words word before now last_now place))

  -- and the maker's count rose by a pattern of it
  pub blames : Blames day word before now last_now
  blames = record {
    later = place.refusal.later;
    rose = place.refusal.rose;
    source = place.refusal.source;
    among = subst (IsOneOf place.refusal.source) (sym (sources_are day h.asked.words word before now last_now place)) place.refusal.among;
    told = place.refusal.told;
  }

-- ---- a rule of the text

-- a line behind others is among all
line_behind : (x : Reply) (xs ys : List ℕ) → IsOneOf x (map refused_rule ys) → IsOneOf x (map refused_rule (xs ++ ys))
line_behind x [] ys among = among
line_behind x (n ∷ xs) ys among = inr (line_behind x xs ys among)

-- the rule itself, of which a word has a pattern
rule_here : (day line : ℕ) (rule : AutoRule) (rest : List ℕ) (terms : List Term) → rule.line ≡ line → has_some (pattern_words day rule.words) ≡ true → terms_of day rule.words ≡ Ok terms
    → IsOneOf (refused_rule line) (map refused_rule (if_made (terms_of day rule.words) (λ (ts : List Term). pattern_line day rule ++ rest)))
rule_here day line rule rest terms at some read =
    let P : List ℕ → Type 0 = λ lines. IsOneOf (refused_rule line) (map refused_rule lines) in
    let here : P (rule.line ∷ rest) = inl (ap refused_rule at) in
    let by_words : P (pattern_line day rule ++ rest) = subst (λ (b : Bool). P ((if b then rule.line ∷ [] else []) ++ rest)) (sym some) here in
    subst (λ (r : Result (List Term) (List ℕ)). P (if_made r (λ (ts : List Term). pattern_line day rule ++ rest))) (sym read) by_words

-- where some rules are read, so is the first, and so are the others
read_first : (rule : AutoRule) (o : Result (List Term) (List ℕ)) (rest : Result (List AskedOfRule) ℕ) (asked : List AskedOfRule) → with_rest (read_with rule o) rest ≡ Ok asked
    → (terms : List Term) × (others : List AskedOfRule) × (o ≡ Ok terms) × (rest ≡ Ok others)
read_first rule (Ok terms) (Ok others) asked h = (terms, others, refl, refl)
read_first rule (Ok terms) (Err line) asked h = absurd (cc h)
read_first rule (Err word) rest asked h = absurd (cc h)

-- a rule with a pattern is among those that have one, where the rules before it are read
rule_among : (day line : ℕ) (rule : AutoRule) (earlier later : List AutoRule) (asked : List AskedOfRule) (terms : List Term) → read_rules day earlier ≡ Ok asked
    → rule.line ≡ line → has_some (pattern_words day rule.words) ≡ true → terms_of day rule.words ≡ Ok terms
    → IsOneOf (refused_rule line) (map refused_rule (rule_lines day (earlier ++ rule ∷ later)))
rule_among day line rule [] later asked terms read at some is = rule_here day line rule (rule_lines day later) terms at some is
rule_among day line rule (x ∷ earlier) later asked terms read at some is =
    let first = read_first x (terms_of day x.words) (read_rules day earlier) asked read in
    let P : List ℕ → Type 0 = λ lines. IsOneOf (refused_rule line) (map refused_rule lines) in
    let rest = rule_lines day (earlier ++ rule ∷ later) in
    let found : P rest = rule_among day line rule earlier later first.1 terms first.3 at some is in
    subst (λ (r : Result (List Term) (List ℕ)). P (if_made r (λ (ts : List Term). pattern_line day x ++ rest))) (sym first.2) (line_behind (refused_rule line) (pattern_line day x) rest found)

module _ (day : ℕ) (year : Option ℕ) (text : List ℕ) (words : List (List ℕ)) (line before now : ℕ) (last_now : Option (List ℕ)) (h : IsRefusedRule day year text words line before now last_now) where
  -- the lines of the text's rules, whose patterns may be refused
  lines_are : refusable_lines day year text words ≡ rule_lines day (autos_of h.items)
  lines_are =
      let terms = h.refused.terms in
      let later = h.refused.rule in
      ap (λ (r : Result Asked WordsFault). if_made r (λ asked. if_made (items_in year text) (λ items. if_made (load items) (λ book. if_made (terms_of day asked.words) (λ ts. lines_by asked day items book ts))))) h.is
      ∙ ap (λ (r : Result (List Placed) Fault). if_made r (λ items. if_made (load items) (λ book. if_made (terms_of day h.asked.words) (λ ts. lines_by h.asked day items book ts)))) h.read
      ∙ ap (λ (r : Result Book Fault). if_made r (λ book. if_made (terms_of day h.asked.words) (λ ts. lines_by h.asked day h.items book ts))) h.made
      ∙ ap (λ (r : Result (List Term) (List ℕ)). if_made r (λ ts. lines_by h.asked day h.items h.book ts)) h.refused.read
      ∙ ap (λ (b : Bool). if b then if_made (with_forecast h.asked.options.forecast (given_bounds h.asked.options (dates_in terms)) day h.items h.book) (λ made. rule_lines day (autos_of h.items)) else []) later.rule.is_asked
      ∙ ap (λ (r : Result Book GenFault). if_made r (λ made. rule_lines day (autos_of h.items))) later.is_made

  -- The line of a rule whose pattern was refused is one of those that may be told.
  pub line_may_be_told : IsOneOf (refused_rule line) (map refused_rule (refusable_lines day year text words))
  line_may_be_told =
      let r = h.refused.rule.rule.rule in
      let P : List ℕ → Type 0 = λ lines. IsOneOf (refused_rule line) (map refused_rule lines) in
      let word = r.refused.refused in
      let some : has_some (pattern_words day r.rule.words) ≡ true =
      ap (λ (ws : List (List ℕ)). has_some (pattern_words day ws)) word.place
      ∙ some_kept (has_pattern day) r.word word.earlier word.later (has_source day r.rule.words r.word before now last_now word) in
      let all : P (rule_lines day (r.earlier ++ r.rule ∷ r.later)) = rule_among day line r.rule r.earlier r.later r.asked r.refused.terms r.read r.at some r.refused.read in
      subst P (sym lines_are) (subst (λ (rules : List AutoRule). P (rule_lines day rules)) (sym r.order) all)

  -- and the maker's count rose by a pattern
  pub rose_by : (pattern : List ℕ) × IsRefusal before now last_now pattern
  rose_by =
      let refusal = h.refused.rule.rule.rule.refused.refused.refusal in
      (refusal.source, record { later = refusal.later; rose = refusal.rose; told = refusal.told })

-- ---- what is replied

module _ (revision day : ℕ) (year : Option ℕ) (text : List ℕ) (words : List (List ℕ)) (before now : ℕ) (last_before last_now : Option (List ℕ)) where
  own : (made : Report) → year ≡ None → words_over day year text words ≡ made → Replies revision day text words (report_reply revision made)
  own made no_year is = inr (inl (ap (report_reply revision) (sym is ∙ ap (λ (y : Option ℕ). words_over day y text words) no_year)))

  refused_line_of : (line : ℕ) → year ≡ None → IsRefusedRule day year text words line before now last_now → Replies revision day text words (refused_rule line)
  refused_line_of line no_year h =
      let told = line_may_be_told day year text words line before now last_now h in
      let at : IsOneOf (refused_rule line) (map refused_rule (refusable_lines day None text words)) =
      subst (λ (y : Option ℕ). IsOneOf (refused_rule line) (map refused_rule (refusable_lines day y text words))) no_year told in
      inr (inr (among_later (refused_rule line) (map refused_pattern (refusable_words day words)) (map refused_rule (refusable_lines day None text words)) at))

  -- what a report came out to is what is replied
  pub replies : (made : Report) → year ≡ None → Reports day year text words before now last_before last_now made
      → Replies revision day text words (made_reply revision made)
  replies (Ok bytes) no_year h = own (Ok bytes) no_year h.0
  replies (Err (plan_fault.Words (words_fault.NoCommand word))) no_year h = own (Err (plan_fault.Words (words_fault.NoCommand word))) no_year h.0
  replies (Err (plan_fault.Words (words_fault.BadOption word))) no_year h = own (Err (plan_fault.Words (words_fault.BadOption word))) no_year h.0
  replies (Err (plan_fault.Words (words_fault.Conflict a b))) no_year h = own (Err (plan_fault.Words (words_fault.Conflict a b))) no_year h.0
  replies (Err (plan_fault.Words (words_fault.BadTerm word))) no_year h = own (Err (plan_fault.Words (words_fault.BadTerm word))) no_year h.0
  replies (Err (plan_fault.Words (words_fault.PatternRefused word))) no_year h =
      inr (inr (among_first (refused_pattern word) (map refused_pattern (refusable_words day words)) (map refused_rule (refusable_lines day None text words)) (may_be_told day words word before now last_now h)))
  replies (Err (plan_fault.Words (words_fault.Report fault))) no_year h = own (Err (plan_fault.Words (words_fault.Report fault))) no_year h.0
  replies (Err (plan_fault.Words words_fault.Memory)) no_year h = inl refl
  replies (Err (plan_fault.Generated (gen_fault.Journal fault))) no_year h = own (Err (plan_fault.Generated (gen_fault.Journal fault))) no_year h.0
  replies (Err (plan_fault.Generated (gen_fault.BadTerm line))) no_year h = own (Err (plan_fault.Generated (gen_fault.BadTerm line))) no_year h.0
  replies (Err (plan_fault.Generated (gen_fault.PatternRefused line))) no_year h = refused_line_of line no_year h
  replies (Err (plan_fault.Generated (gen_fault.TooMany count limit))) no_year h = own (Err (plan_fault.Generated (gen_fault.TooMany count limit))) no_year h.0
  replies (Err (plan_fault.Generated gen_fault.Memory)) no_year h = inl refl
  replies (Err plan_fault.Memory) no_year h = inl refl

  -- and the maker tells what the reply says
  pub tells : (q : Request) (made : Report) → Reports day year text words before now last_before last_now made
      → TellsReply q day before now last_before last_now (made_reply revision made)
  tells q (Ok bytes) h = h.1
  tells q (Err (plan_fault.Words (words_fault.NoCommand word))) h = h.1
  tells q (Err (plan_fault.Words (words_fault.BadOption word))) h = h.1
  tells q (Err (plan_fault.Words (words_fault.Conflict a b))) h = h.1
  tells q (Err (plan_fault.Words (words_fault.BadTerm word))) h = h.1
  tells q (Err (plan_fault.Words (words_fault.PatternRefused word))) h = blames day words word before now last_now h
  tells q (Err (plan_fault.Words (words_fault.Report fault))) h = h.1
  tells q (Err (plan_fault.Words words_fault.Memory)) h = h.1
  tells q (Err (plan_fault.Generated (gen_fault.Journal fault))) h = h.1
  tells q (Err (plan_fault.Generated (gen_fault.BadTerm line))) h = h.1
  tells q (Err (plan_fault.Generated (gen_fault.PatternRefused line))) h = rose_by day year text words line before now last_now h
  tells q (Err (plan_fault.Generated (gen_fault.TooMany count limit))) h = h.1
  tells q (Err (plan_fault.Generated gen_fault.Memory)) h = h.1
  tells q (Err plan_fault.Memory) h = h

  -- and of which rule of the text a pattern was refused
  pub tells_rule : (made : Report) → year ≡ None → Reports day year text words before now last_before last_now made
      → TellsRule (request.Report words) text day before now last_now (made_reply revision made)
  tells_rule (Ok bytes) no_year h = tt
  tells_rule (Err (plan_fault.Words (words_fault.NoCommand word))) no_year h = tt
  tells_rule (Err (plan_fault.Words (words_fault.BadOption word))) no_year h = tt
  tells_rule (Err (plan_fault.Words (words_fault.Conflict a b))) no_year h = tt
  tells_rule (Err (plan_fault.Words (words_fault.BadTerm word))) no_year h = tt
  tells_rule (Err (plan_fault.Words (words_fault.PatternRefused word))) no_year h = tt
  tells_rule (Err (plan_fault.Words (words_fault.Report fault))) no_year h = tt
  tells_rule (Err (plan_fault.Words words_fault.Memory)) no_year h = tt
  tells_rule (Err (plan_fault.Generated (gen_fault.Journal fault))) no_year h = tt
  tells_rule (Err (plan_fault.Generated (gen_fault.BadTerm line))) no_year h = tt
  tells_rule (Err (plan_fault.Generated (gen_fault.PatternRefused line))) no_year h =
      subst (λ (y : Option ℕ). IsRefusedRule day y text words line before now last_now) no_year h
  tells_rule (Err (plan_fault.Generated (gen_fault.TooMany count limit))) no_year h = tt
  tells_rule (Err (plan_fault.Generated gen_fault.Memory)) no_year h = tt
  tells_rule (Err plan_fault.Memory) no_year h = tt

-- so of a request that is one for a report, and of each other nothing is owed
module _ (q : Request) (text : List ℕ) (day before now : ℕ) (last_now : Option (List ℕ)) (r : Reply) where
  same_rule : (x : Request) → q ≡ x → TellsRule x text day before now last_now r → TellsRule q text day before now last_now r
  same_rule x is h = subst (λ (x : Request). TellsRule x text day before now last_now r) (sym is) h

  pub rule_of_report : (words : List (List ℕ)) → q ≡ request.Report words → TellsRule (request.Report words) text day before now last_now r
      → TellsRule q text day before now last_now r
  rule_of_report words is h = same_rule (request.Report words) is h

  pub no_rule_of_download : q ≡ request.Download → TellsRule q text day before now last_now r
  no_rule_of_download is = same_rule request.Download is tt

  pub no_rule_of_add : (entry : List ℕ) → q ≡ request.Add entry → TellsRule q text day before now last_now r
  no_rule_of_add entry is = same_rule (request.Add entry) is tt

  pub no_rule_of_change : (base item : ℕ) (entry : List ℕ) → q ≡ request.Change base item entry → TellsRule q text day before now last_now r
  no_rule_of_change base item entry is = same_rule (request.Change base item entry) is tt

  pub no_rule_of_replace : (base : ℕ) (new_text : List ℕ) → q ≡ request.Replace base new_text → TellsRule q text day before now last_now r
  no_rule_of_replace base new_text is = same_rule (request.Replace base new_text) is tt

  pub no_rule_of_import : (name rules csv : List ℕ) → q ≡ request.Import name rules csv → TellsRule q text day before now last_now r
  no_rule_of_import name rules csv is = same_rule (request.Import name rules csv) is tt

  pub no_rule_of_check : (entry : List ℕ) → q ≡ request.Check entry → TellsRule q text day before now last_now r
  no_rule_of_check entry is = same_rule (request.Check entry) is tt

  pub no_rule_of_preview : (name rules csv : List ℕ) → q ≡ request.Preview name rules csv → TellsRule q text day before now last_now r
  no_rule_of_preview name rules csv is = same_rule (request.Preview name rules csv) is tt
