-- How a report ends: what was answered, and then written.
use Rattle.std.proofs.Common.{◌≡◌, ◌≢◌, inl, inr, ℕ, ◌++◌, List, [], ◌∷◌, Option, Some, None, Result, Ok, Err, IfSome, IsTrue, length, refl, ap, sym, ◌∙◌, subst, arith, append-nil}
use Rattle.hl_base.specs.Causes.{Rose}
use Rattle.query.specs.Building.{IsOneOf}
use Rattle.book_commands.specs.Answers.{Finds, MayRefuse, TellsMaker, Telling, WorkRule}
use Rattle.refusals.specs.Errors.{disk_fault_line, memory_line, pattern_line, read_fault_line}
use Rattle.refusals.specs.Outcomes.{Judged, Outcome, outcome_of, refused}
use Rattle.book_commands.specs.Works.{words_of}
use Rattle.book_commands.specs.declared.work.Work.{Work}
use Rattle.book_commands.specs.declared.work.Work.TheVariants as works
use Rattle.refusals.specs.declared.refusal.PatternOf.{PatternOf}
use Rattle.refusals.specs.declared.refusal.PatternOf.TheVariants as pattern_of
use Rattle.refusals.specs.declared.refusal.Refusal.{Refusal}
use Rattle.refusals.specs.declared.refusal.Refusal.TheVariants as refusal
use Rattle.command_words.specs.declared.task.Origin.{Origin}
use Rattle.command_words.specs.declared.task.Origin.TheVariants as origins
use Rattle.command_words.specs.declared.task.TextTask.{TextTask}
use Rattle.command_line.specs.Answers.{HasPattern, IsErrorLine, IsNamed, IsOfAnswer, IsSourceStatus, IsStatus, IsTextStatus, Says, Wrote, WrotePrefix, asks_auto, line_of, status_of}
use Rattle.command_line.specs.Runs.{AnswersText, RunsText, TextSoundly}
use Rattle.command_line.specs.Scenes.{FilesStay, OtherStays, RefusedIn, RuleIn, Scene, Soundness, SourceIsSound, SourceRose, judged_in, telling, year_in}

-- ---- statuses

pub text_apart : (status n : ℕ) → IsTextStatus status → status ≡ n → n ≢ 1 → n ≢ 7 → n ≢ 8 → ⊥
text_apart status n (inl h) e a b c = a (sym e ∙ h)
text_apart status n (inr (inl h)) e a b c = b (sym e ∙ h)
text_apart status n (inr (inr h)) e a b c = c (sym e ∙ h)

text_is : (status told : ℕ) → IsTextStatus told → status ≡ told → IsTextStatus status
text_is status told k e = subst (λ (n : ℕ). IsTextStatus n) (sym e) k

any_status : (origin : Origin) (status : ℕ) → IsSourceStatus origin status → IsTextStatus status
any_status origins.Input status (inl e) = inl e
any_status origins.Input status (inr e) = inr (inl e)
any_status (origins.File name) status k = k
any_status (origins.Store name) status k = k

-- there is no text under a name
named_status : (origin : Origin) (status : ℕ) → IsSourceStatus origin status → status ≡ 8 → IsNamed origin
named_status origins.Input status (inl h) e = omega (arith, h, e)
named_status origins.Input status (inr h) e = omega (arith, h, e)
named_status (origins.File name) status k e = tt
named_status (origins.Store name) status k e = tt

pub not_same : (status m n : ℕ) → status ≡ m → status ≡ n → m ≢ n → ⊥
not_same status m n a b apart = apart (sym a ∙ b)

-- a status that isn't one of a text
pub no_text : (status n : ℕ) → status ≡ n → n ≢ 1 → n ≢ 7 → n ≢ 8 → IsTextStatus status → ⊥
no_text status n e a b c k = text_apart status n k e a b c

-- ---- what is written

-- nothing written is a front of what was to be written
pub none_written : {A : Type 0} (told : Option A) (old new : Option (List ℕ)) (bytes : A → List ℕ) → new ≡ old → IfSome told (λ t. WrotePrefix old new (bytes t))
none_written None old new bytes e = tt
none_written (Some t) None new bytes e = tt
none_written (Some t) (Some before) new bytes e = (0, omega arith, e ∙ ap Some (sym (append-nil before)))

pub says_from : (status own : ℕ) (line : List ℕ) (old mid new : Option (List ℕ)) (fo fm fn : ℕ) → mid ≡ old → fm ≡ fo
    → Says status own line mid new fm fn → Says status own line old new fo fn
says_from status own line old mid new fo fm fn e f h =
    let F : Option (List ℕ) → Type 0 = λ o. Says status own line o new fm fn in
    let G : ℕ → Type 0 = λ n. Says status own line old new n fn in
    subst G f (subst F e h)

-- a status that is told to be 4 is 4
pub said_four : (status : ℕ) (line : List ℕ) (old new : Option (List ℕ)) (fo fn : ℕ) → Says status 4 line old new fo fn → status ≡ 4
said_four status line old new fo fn (inl h) = h.0
said_four status line old new fo fn (inr h) = h.0

-- ---- the maker of patterns

pub may_of : (day : ℕ) (words : List (List ℕ)) (OfRule : ℕ → Type 0) (t : Telling) (r : Result (List ℕ) Refusal) → TellsMaker day words OfRule t r
    → MayRefuse day words OfRule t
may_of day words OfRule t (Ok output) h = inl h
may_of day words OfRule t (Err (refusal.Line status line)) h = inl h
may_of day words OfRule t (Err (refusal.Pattern what line)) h = inr (what, h)
may_of day words OfRule t (Err refusal.ReadFault) h = inl h
may_of day words OfRule t (Err refusal.DiskFault) h = inl h
may_of day words OfRule t (Err refusal.Memory) h = h

among : (earlier later : List (List ℕ)) (word : List ℕ) → IsOneOf word (earlier ++ word ∷ later)
among [] later word = inl refl
among (x ∷ xs) later word = inr (among xs later word)

one_of : (words earlier later : List (List ℕ)) (word : List ℕ) → words ≡ earlier ++ word ∷ later → IsOneOf word words
one_of words earlier later word e = subst (λ (ws : List (List ℕ)). IsOneOf word ws) (sym e) (among earlier later word)

-- a rule's pattern is refused by a report alone that asks for what rules add
rule_asked : (work : Work) (day : ℕ) (year : Option ℕ) (text : List ℕ) (t : Telling) (line : ℕ) → WorkRule day year work text t line → IsTrue (asks_auto work)
rule_asked (works.Report asked) day year text t line h = h.rule.rule.rule.is_asked
rule_asked works.Text day year text t line h = absurd h
rule_asked (works.Hours form) day year text t line h = absurd h
rule_asked (works.Strict checks) day year text t line h = absurd h
rule_asked (works.Close asked) day year text t line h = absurd h
rule_asked works.Explain day year text t line h = absurd h
rule_asked works.Items day year text t line h = absurd h

refused_pattern : (given : TextTask) (day : ℕ) (old new : Scene) (what : PatternOf) → RefusedIn given day old new what → HasPattern given.work what
refused_pattern given day old new (pattern_of.Word word) h = one_of (words_of given.work) h.refused.earlier h.refused.later word h.refused.place
refused_pattern given day old new (pattern_of.Rule line) h =
    rule_asked given.work day (year_in given day) h.0 (telling old new) line h.2

-- ---- refusals

-- a scene in which the error output alone has changed
abbrev pub with_error : Scene → Option (List ℕ) → ℕ → Scene
with_error s error faults = record s { error = error; error_faults = faults }

other_on : (origin : Origin) (old mid : Scene) (error : Option (List ℕ)) (faults : ℕ) → OtherStays origin old mid → OtherStays origin old (with_error mid error faults)
other_on origins.Input old mid error faults h = h
other_on (origins.File name) old mid error faults h = h
other_on (origins.Store name) old mid error faults h = h

files_on : (origin : Origin) (old mid : Scene) (error : Option (List ℕ)) (faults : ℕ) → FilesStay origin old mid → FilesStay origin old (with_error mid error faults)
files_on origins.Input old mid error faults h = h
files_on (origins.File name) old mid error faults h = h
files_on (origins.Store name) old mid error faults h = h

rose_on : (origin : Origin) (old mid : Scene) (error : Option (List ℕ)) (faults : ℕ) → SourceRose origin old mid → SourceRose origin old (with_error mid error faults)
rose_on origins.Input old mid error faults h = h
rose_on (origins.File name) old mid error faults h = h
rose_on (origins.Store name) old mid error faults h = h

-- a refusal as an answer
abbrev pub failed : Refusal → Result (List ℕ) Refusal
failed r = Err r

-- what a refusal has of a definition
told_so : (told : Option Judged) (status own : ℕ) (line : List ℕ) (old new : Option (List ℕ)) → status ≡ own → Wrote old new line
    → IfSome told (λ t. outcome_of t ≡ refused own line) → IfSome told (λ t. ((outcome_of t).status ≡ status) × Wrote old new (outcome_of t).error)
told_so None status own line old new e w h = tt
told_so (Some t) status own line old new e w h =
    let F : Outcome → Type 0 = λ o. Wrote old new o.error in
    (ap (λ (o : Outcome). o.status) h ∙ sym e, subst F (sym h) w)

module _ (given : TextTask) (day status : ℕ) (old mid : Scene) (error : Option (List ℕ)) (faults : ℕ) where
  abbrev new : Scene
  new = with_error mid error faults

  abbrev told : Option Judged
  told = judged_in given day old

  -- the line of a refusal is one of those that may be said
  is_said : (r : Refusal) (t : Judged) → AnswersText given day (Err r) old mid → Finds (Err r) t
      → IsErrorLine given.work (outcome_of t) (line_of r)
  is_said (refusal.Line own line) t a found = inl (sym (ap (λ (o : Outcome). o.error) found))
  is_said (refusal.Pattern what line) t a found = inr (inr (inr (inr (what, refused_pattern given day old mid what a.maker, a.kind))))
  is_said refusal.ReadFault t a found = inr (inr (inl refl))
  is_said refusal.DiskFault t a found = inr (inr (inr (inl refl)))
  is_said refusal.Memory t a found = inr (inl refl)

  front_by : (r : Refusal) (judged : Option Judged) → AnswersText given day (Err r) old mid → IfSome judged (Finds (Err r))
      → WrotePrefix old.error error (line_of r)
      → IfSome judged (λ t. (line : List ℕ) × IsErrorLine given.work (outcome_of t) line × WrotePrefix old.error error line)
  front_by r None a found front = tt
  front_by r (Some t) a found front = (line_of r, is_said r t a found, front)

  unsaid : (r : Refusal) → AnswersText given day (Err r) old mid → status ≡ 4 → Rose old.error_faults faults → WrotePrefix old.error error (line_of r)
      → RunsText given day status old new
  unsaid r a four rose front = record {
    read = λ e. omega (arith, four, e);
    done = λ e. absurd (not_same status 4 0 four e (λ x. omega arith));
    refused = λ k. absurd (no_text status 4 four (λ x. omega arith) (λ x. omega arith) (λ x. omega arith) k);
    read_fault = λ e. absurd (not_same status 4 3 four e (λ x. omega arith));
    named = λ e. absurd (not_same status 4 8 four e (λ x. omega arith));
    disk_fault = λ e. absurd (not_same status 4 5 four e (λ x. omega arith));
    write_fault = λ e. inr ((rose, a.outputs.output), front_by r told a a.found front);
    memory = λ e. absurd (not_same status 4 6 four e (λ x. omega arith));
    maker = may_of day (words_of given.work) (RuleIn given day old (telling old mid)) (telling old mid) (Err r) a.maker;
    other = other_on given.origin old mid error faults a.other;
    files = files_on given.origin old mid error faults a.files;
  }

  said_line : (own : ℕ) (line : List ℕ) → AnswersText given day (Err (refusal.Line own line)) old mid → status ≡ own → Wrote old.error error line
      → RunsText given day status old new
  said_line own line a is wrote =
      let kind : IsTextStatus status = text_is status own (any_status given.origin own a.kind) is in
      record {
        read = λ e. text_apart status 2 kind e (λ x. omega arith) (λ x. omega arith) (λ x. omega arith);
        done = λ e. absurd (text_apart status 0 kind e (λ x. omega arith) (λ x. omega arith) (λ x. omega arith));
        refused = λ k. record { unwritten = a.outputs.output; cause = inl (told_so told status own line old.error error is wrote a.found, a.maker) };
        named = λ e. named_status given.origin own a.kind (sym is ∙ e);
        read_fault = λ e. absurd (text_apart status 3 kind e (λ x. omega arith) (λ x. omega arith) (λ x. omega arith));
        disk_fault = λ e. absurd (text_apart status 5 kind e (λ x. omega arith) (λ x. omega arith) (λ x. omega arith));
        write_fault = λ e. absurd (text_apart status 4 kind e (λ x. omega arith) (λ x. omega arith) (λ x. omega arith));
        memory = λ e. absurd (text_apart status 6 kind e (λ x. omega arith) (λ x. omega arith) (λ x. omega arith));
        maker = inl a.maker;
        other = other_on given.origin old mid error faults a.other;
        files = files_on given.origin old mid error faults a.files;
      }

  said_pattern : (what : PatternOf) (line : List ℕ) → AnswersText given day (Err (refusal.Pattern what line)) old mid → status ≡ 1 → Wrote old.error error line
      → RunsText given day status old new
  said_pattern what line a one wrote =
      let F : List ℕ → Type 0 = λ l. Wrote old.error error l in
      let is : line ≡ pattern_line what = a.kind in
      record {
        read = λ e. omega (arith, one, e);
        done = λ e. absurd (not_same status 1 0 one e (λ x. omega arith));
        refused = λ k. record { unwritten = a.outputs.output; cause = inr (what, a.maker, one, subst F is wrote, a.found) };
        named = λ e. absurd (not_same status 1 8 one e (λ x. omega arith));
        disk_fault = λ e. absurd (not_same status 1 5 one e (λ x. omega arith));
        read_fault = λ e. absurd (not_same status 1 3 one e (λ x. omega arith));
        write_fault = λ e. absurd (not_same status 1 4 one e (λ x. omega arith));
        memory = λ e. absurd (not_same status 1 6 one e (λ x. omega arith));
        maker = inr (what, a.maker);
        other = other_on given.origin old mid error faults a.other;
        files = files_on given.origin old mid error faults a.files;
      }

  said_unread : AnswersText given day (Err refusal.ReadFault) old mid → status ≡ 3 → Wrote old.error error read_fault_line → RunsText given day status old new
  said_unread a three wrote = record {
    read = λ e. omega (arith, three, e);
    done = λ e. absurd (not_same status 3 0 three e (λ x. omega arith));
    refused = λ k. absurd (no_text status 3 three (λ x. omega arith) (λ x. omega arith) (λ x. omega arith) k);
    read_fault = λ e. (rose_on given.origin old mid error faults (a.rose refl), a.maker, a.outputs.output, wrote);
    named = λ e. absurd (not_same status 3 8 three e (λ x. omega arith));
    disk_fault = λ e. absurd (not_same status 3 5 three e (λ x. omega arith));
    write_fault = λ e. absurd (not_same status 3 4 three e (λ x. omega arith));
    memory = λ e. absurd (not_same status 3 6 three e (λ x. omega arith));
    maker = inl a.maker;
    other = other_on given.origin old mid error faults a.other;
    files = files_on given.origin old mid error faults a.files;
  }

  said_disk : AnswersText given day (Err refusal.DiskFault) old mid → status ≡ 5 → Wrote old.error error disk_fault_line → RunsText given day status old new
  said_disk a five wrote = record {
    read = λ e. omega (arith, five, e);
    done = λ e. absurd (not_same status 5 0 five e (λ x. omega arith));
    refused = λ k. absurd (no_text status 5 five (λ x. omega arith) (λ x. omega arith) (λ x. omega arith) k);
    read_fault = λ e. absurd (not_same status 5 3 five e (λ x. omega arith));
    disk_fault = λ e. (a.kind, a.disk_rose refl, a.maker, a.outputs.output, wrote);
    named = λ e. absurd (not_same status 5 8 five e (λ x. omega arith));
    write_fault = λ e. absurd (not_same status 5 4 five e (λ x. omega arith));
    memory = λ e. absurd (not_same status 5 6 five e (λ x. omega arith));
    maker = inl a.maker;
    other = other_on given.origin old mid error faults a.other;
    files = files_on given.origin old mid error faults a.files;
  }

  said_memory : AnswersText given day (Err refusal.Memory) old mid → status ≡ 6 → Wrote old.error error memory_line → RunsText given day status old new
  said_memory a six wrote = record {
    read = λ e. omega (arith, six, e);
    done = λ e. absurd (not_same status 6 0 six e (λ x. omega arith));
    refused = λ k. absurd (no_text status 6 six (λ x. omega arith) (λ x. omega arith) (λ x. omega arith) k);
    read_fault = λ e. absurd (not_same status 6 3 six e (λ x. omega arith));
    named = λ e. absurd (not_same status 6 8 six e (λ x. omega arith));
    disk_fault = λ e. absurd (not_same status 6 5 six e (λ x. omega arith));
    write_fault = λ e. absurd (not_same status 6 4 six e (λ x. omega arith));
    memory = λ e. (a.outputs.output, wrote);
    maker = a.maker;
    other = other_on given.origin old mid error faults a.other;
    files = files_on given.origin old mid error faults a.files;
  }

  by_old : (r : Refusal) → AnswersText given day (Err r) old mid → Says status (status_of r) (line_of r) old.error error old.error_faults faults
      → RunsText given day status old new
  by_old r a (inr h) = unsaid r a h.0 h.1 h.2
  by_old (refusal.Line own line) a (inl h) = said_line own line a h.0 h.1
  by_old (refusal.Pattern what line) a (inl h) = said_pattern what line a h.0 h.1
  by_old refusal.ReadFault a (inl h) = said_unread a h.0 h.1
  by_old refusal.DiskFault a (inl h) = said_disk a h.0 h.1
  by_old refusal.Memory a (inl h) = said_memory a h.0 h.1

  -- a report was refused, and its line said
  pub refused_report : (r : Refusal) → AnswersText given day (Err r) old mid
      → Says status (status_of r) (line_of r) mid.error error mid.error_faults faults → RunsText given day status old new
  refused_report r a h =
      by_old r a (says_from status (status_of r) (line_of r) old.error mid.error error old.error_faults mid.error_faults faults a.outputs.error a.outputs.error_faults h)

  own_status : (r : Refusal) → IsOfAnswer given.origin (Err r) → IsStatus (status_of r)
  own_status (refusal.Line own line) k = inr (inl (inl (any_status given.origin own k)))
  own_status (refusal.Pattern what line) k = inr (inl (inl (inl refl)))
  own_status refusal.ReadFault k = inr (inr (inl refl))
  own_status refusal.DiskFault k = inr (inr (inr (inr (inl refl))))
  own_status refusal.Memory k = inr (inr (inr (inr (inr refl))))

  pub refused_status : (r : Refusal) → AnswersText given day (Err r) old mid
      → Says status (status_of r) (line_of r) mid.error error mid.error_faults faults → IsStatus status
  refused_status r a (inl h) = subst (λ (n : ℕ). IsStatus n) (sym h.0) (own_status r a.kind)
  refused_status r a (inr h) = inr (inr (inr (inl h.0)))

  -- which refusal has status 3
  own_three : (r : Refusal) → IsOfAnswer given.origin (Err r) → status_of r ≡ 3 → r ≡ refusal.ReadFault
  own_three (refusal.Line own line) k e = absurd (text_apart own 3 (any_status given.origin own k) e (λ x. omega arith) (λ x. omega arith) (λ x. omega arith))
  own_three (refusal.Pattern what line) k e = absurd (omega (arith, e))
  own_three refusal.ReadFault k e = refl
  own_three refusal.DiskFault k e = absurd (omega (arith, e))
  own_three refusal.Memory k e = absurd (omega (arith, e))

  three : (r : Refusal) → AnswersText given day (Err r) old mid
      → Says status (status_of r) (line_of r) mid.error error mid.error_faults faults → status ≡ 3 → r ≡ refusal.ReadFault
  three r a (inl h) e = own_three r a.kind (sym h.0 ∙ e)
  three r a (inr h) e = absurd (not_same status 4 3 h.0 e (λ x. omega arith))

  own_four : (r : Refusal) → IsOfAnswer given.origin (Err r) → status_of r ≡ 4 → ⊥
  own_four (refusal.Line own line) k e = text_apart own 4 (any_status given.origin own k) e (λ x. omega arith) (λ x. omega arith) (λ x. omega arith)
  own_four (refusal.Pattern what line) k e = omega (arith, e)
  own_four refusal.ReadFault k e = omega (arith, e)
  own_four refusal.DiskFault k e = omega (arith, e)
  own_four refusal.Memory k e = omega (arith, e)

  sound_by : (r : Refusal) (sound : Soundness) (judged : Option Judged) → AnswersText given day (Err r) old mid → IfSome judged (Finds (Err r))
      → (sound.error (length (line_of r)) → status ≡ status_of r)
      → IfSome judged (λ t. sound.output (length (outcome_of t).output)
      → ((line : List ℕ) → IsErrorLine given.work (outcome_of t) line → sound.error (length line)) → status ≢ 4)
  sound_by r sound None a found own = tt
  sound_by r sound (Some t) a found own = λ room lines e.
      own_four r a.kind (sym (own (lines (line_of r) (is_said r t a found))) ∙ e)

  -- and nothing is said to have failed that can't fail
  pub refused_soundly : (r : Refusal) (sound : Soundness) → AnswersText given day (Err r) old mid
      → Says status (status_of r) (line_of r) mid.error error mid.error_faults faults
      → (SourceIsSound given.origin sound → failed r ≢ failed refusal.ReadFault)
      → (sound.error (length (line_of r)) → status ≡ status_of r) → TextSoundly given day status old sound
  refused_soundly r sound a h unread own = record {
    source = λ s e. unread s (ap failed (three r a h e));
    outputs = sound_by r sound told a a.found own;
  }
