-- Lines that are read one after another, and the sources of their patterns.
use Rattle.std.proofs.Common.{◌≡◌, ℕ, ◌+◌, List, [], ◌∷◌, ◌++◌, length, Option, Some, None, Ok, Err, refl, sym, ap, ◌∙◌, subst, arith, append_assoc}
use Rattle.std.specs.List.{flat_map}
use Rattle.std.proofs.lemmas.List.{append-nil}
use Rattle.query_terms.specs.Making.{Stays}
use Rattle.query_terms.specs.Reading.{source_of}
use Rattle.entry_reader.specs.Lines.{contents_of}
use Rattle.regex.specs.declared.string.regex.Regex.{Regex}
use Rattle.csv_rules.specs.Building.{AreBuilt, block_sources, condition_sources, progress_sources, sheet_sources, form_sources, first_sources}
use Rattle.csv_rules.specs.Drafts.{Progress, start, put, closed, closed_at, opened, with_condition, without_block, block_of, finished, finished_at, sheet_of}
use Rattle.csv_rules.specs.Forms.{form_of}
use Rattle.csv_rules.specs.Reading.{or_line, read_from, sheet_in, ended, Reads, TakesLine, IsTaken, IsRefusedAt, IsRefusedLine, IsBadLine, AreBefore}
use Rattle.csv_rules.specs.declared.faults.RulesFault.{RulesFault}
use Rattle.csv_rules.specs.declared.faults.RulesFault.TheVariants as rules_fault
use Rattle.csv_rules.specs.declared.forms.Form.{Form}
use Rattle.csv_rules.specs.declared.forms.Form.TheVariants as forms
use Rattle.csv_rules.specs.declared.forms.Stage.{Stage}
use Rattle.csv_rules.specs.declared.forms.Stage.TheVariants as stages
use Rattle.csv_rules.specs.declared.kinds.Block.{Block}
use Rattle.csv_rules.specs.declared.kinds.Condition.{Condition}
use Rattle.csv_rules.specs.declared.kinds.Sheet.{Sheet}

-- ---- lines

read_step : (p q : Progress) (line : ℕ) (l : List ℕ) (ls : List (List ℕ)) → read_from p line (l ∷ ls) ≡ Ok q → (form : Form) × (form_of p.stage l ≡ Some form) × (read_from (put p form) (line + 1) ls ≡ Ok q)
read_step p q line l ls e =
    elim (form_of p.stage l) as (λ o. form_of p.stage l ≡ o → or_line line o (λ form. read_from (put p form) (line + 1) ls) ≡ Ok q → (form : Form) × (form_of p.stage l ≡ Some form) × (read_from (put p form) (line + 1) ls ≡ Ok q)) [
      | Some form ↦ λ is h. (form, is, h)
      | None ↦ λ is h. absurd (let never : ⊥ = cc in never)
    ] refl e

-- a line behind others
pub one_more : (p q : Progress) (line : ℕ) (ls : List (List ℕ)) (l : List ℕ) (form : Form) → read_from p line ls ≡ Ok q → form_of q.stage l ≡ Some form → read_from p line (ls ++ l ∷ []) ≡ Ok (put q form)
one_more p q line [] l form e said =
    let same : p ≡ q = cc in
    rw (subst (λ (r : Progress). form_of r.stage l ≡ Some form) (sym same) said) (ap (λ (r : Progress). Ok (put r form)) same)
one_more p q line (x ∷ xs) l form e said =
    let s = read_step p q line x xs e in
    rw s.1 (one_more (put p s.0) q (line + 1) xs l form s.2 said)

-- a line behind others that isn't of its form
pub bad_line : (p q : Progress) (line : ℕ) (ls : List (List ℕ)) (l : List ℕ) (more : List (List ℕ)) → read_from p line ls ≡ Ok q → form_of q.stage l ≡ None → read_from p line (ls ++ l ∷ more) ≡ Err (line + length ls)
bad_line p q line [] l more e said =
    let same : p ≡ q = cc in
    let here : line ≡ line + 0 = omega arith in
    rw (subst (λ (r : Progress). form_of r.stage l ≡ None) (sym same) said) (ap (λ (n : ℕ). Err n) here)
bad_line p q line (x ∷ xs) l more e said =
    let s = read_step p q line x xs e in
    let n : line + 1 + length xs ≡ line + length (x ∷ xs) = omega arith in
    rw s.1 (bad_line (put p s.0) q (line + 1) xs l more s.2 said ∙ ap (λ (k : ℕ). Err k) n)

-- The lines before what is left of a text were read, and say so much; the first one that is left has this number.
pub record IsReached (text rest : List ℕ) (line : ℕ) (p : Progress) : Type 0 where
  pub earlier : List (List ℕ)
  pub place : contents_of text ≡ earlier ++ contents_of rest
  pub number : line ≡ length earlier + 1
  pub read : read_from start 1 earlier ≡ Ok p

pub reached_start : (text : List ℕ) (p : Progress) → p ≡ start → IsReached text text 1 p
reached_start text p e = record { earlier = []; place = refl; number = refl; read = ap (λ (q : Progress). Ok q) (sym e) }

pub reached_by : (text rest content after : List ℕ) (line : ℕ) (p q : Progress) (form : Form) → IsReached text rest line p → contents_of rest ≡ content ∷ contents_of after → form_of p.stage content ≡ Some form → q ≡ put p form → IsReached text after (line + 1) q
reached_by text rest content after line p q form r cut said added = record {
  earlier = r.earlier ++ content ∷ [];
  place = r.place ∙ (ap (λ (ls : List (List ℕ)). r.earlier ++ ls) cut ∙ sym (append_assoc r.earlier (content ∷ []) (contents_of after)));
  number = omega (arith, r.number, length_push r.earlier content);
  read = one_more start p 1 r.earlier content form r.read said ∙ ap (λ (x : Progress). Ok x) (sym added);
}
  where
    length_push : (ls : List (List ℕ)) (l : List ℕ) → length (ls ++ l ∷ []) ≡ length ls + 1
    length_push [] l = refl
    length_push (x ∷ ls) l = let n = length_push ls l in omega (arith, n)

pub reached_more : (text rest content after : List ℕ) (line : ℕ) (p q : Progress) (old new : List Regex) → IsReached text rest line p → contents_of rest ≡ content ∷ contents_of after → IsTaken content p q old new → IsReached text after (line + 1) q
reached_more text rest content after line p q old new r cut taken = reached_by text rest content after line p q taken.form r cut taken.said taken.added

pub reached_bad : (text rest content after : List ℕ) (line : ℕ) (p : Progress) → IsReached text rest line p → contents_of rest ≡ content ∷ contents_of after → form_of p.stage content ≡ None → sheet_in (contents_of text) ≡ Err line
reached_bad text rest content after line p r cut said =
    let whole : contents_of text ≡ r.earlier ++ content ∷ contents_of after = r.place ∙ ap (λ (ls : List (List ℕ)). r.earlier ++ ls) cut in
    let n : 1 + length r.earlier ≡ line = omega (arith, r.number) in
    rw (whole, bad_line start p 1 r.earlier content (contents_of after) r.read said) (ap (λ (k : ℕ). Err k) n)

-- the lines before one that is left, whose patterns were built
pub reached_before : (text rest : List ℕ) (line : ℕ) (p : Progress) (regexes : List Regex) → IsReached text rest line p → AreBuilt (progress_sources p) regexes → AreBefore text line (contents_of rest) p
reached_before text rest line p regexes r built = record { earlier = r.earlier; place = r.place; number = r.number; read = r.read; regexes = regexes; built = built }

pub reached_refused : (text rest content after : List ℕ) (line : ℕ) (p : Progress) (regexes : List Regex) (first before now : ℕ) (last : Option (List ℕ)) → IsReached text rest line p → AreBuilt (progress_sources p) regexes → contents_of rest ≡ content ∷ contents_of after → before ≡ first → IsRefusedAt content p before now last → IsRefusedLine text line first now last
reached_refused text rest content after line p regexes first before now last r built cut e refused = subst (λ (n : ℕ). IsRefusedLine text line n now last) e (record {
  content = content;
  later = contents_of after;
  progress = p;
  earlier = subst (λ (ls : List (List ℕ)). AreBefore text line ls p) cut (reached_before text rest line p regexes r built);
  form = refused.form;
  said = refused.said;
  refusal = refused.refusal;
})

pub reached_end : (text rest : List ℕ) (line : ℕ) (p : Progress) → IsReached text rest line p → contents_of rest ≡ [] → sheet_in (contents_of text) ≡ ended line (finished p)
reached_end text rest line p r none =
    let whole : contents_of text ≡ r.earlier = r.place ∙ (ap (λ (ls : List (List ℕ)). r.earlier ++ ls) none ∙ append-nil r.earlier) in
    rw (whole, r.read) (ap (λ (n : ℕ). ended n (finished p)) (sym r.number))

pub stays_then : (first before now : ℕ) (last_first last_before last_now : Option (List ℕ)) → Stays first before last_first last_before → Stays before now last_before last_now → Stays first now last_first last_now
stays_then first before now last_first last_before last_now a b = record { count = b.count ∙ a.count; told = b.told ∙ a.told }

-- what is told of a line, told of the text, where the lines before it were read
pub line_told : (T : Type 0) (text rest content after : List ℕ) (line : ℕ) (p q : Progress) (old new : List Regex) (first before now : ℕ) (last_first last_before last_now : Option (List ℕ)) (fault : RulesFault)
    → IsReached text rest line p → AreBuilt (progress_sources p) old → contents_of rest ≡ content ∷ contents_of after → Stays first before last_first last_before → TakesLine {T = T} line content p q old new before now last_before last_now (Err fault)
    → Reads text first now last_first last_now (Err fault)
line_told T text rest content after line p q old new first before now last_first last_before last_now rules_fault.Memory r built cut stays told = stays_then first before now last_first last_before last_now stays told
line_told T text rest content after line p q old new first before now last_first last_before last_now (rules_fault.BadRule bad) r built cut stays told =
    (subst (λ (n : ℕ). IsBadLine text n) (sym told.0) (record { is = reached_bad text rest content after line p r cut told.1; later = contents_of rest; progress = p; before = reached_before text rest line p old r built }), stays_then first before now last_first last_before last_now stays told.2)
line_told T text rest content after line p q old new first before now last_first last_before last_now (rules_fault.PatternRefused refused) r built cut stays told =
    subst (λ (n : ℕ). IsRefusedLine text n first now last_now) (sym told.0) (reached_refused text rest content after line p old first before now last_now r built cut stays.count told.1)

-- ---- sources

flat_push : {A B : Type 0} (f : A → List B) (xs : List A) (x : A) → flat_map f (xs ++ x ∷ []) ≡ flat_map f xs ++ f x
flat_push f [] x = append-nil (f x)
flat_push f (y ∷ xs) x = ap (λ l. f y ++ l) (flat_push f xs x) ∙ sym (append_assoc (f y) (flat_map f xs) (f x))

closed_sources : (p : Progress) → progress_sources (without_block p) ≡ progress_sources p
closed_sources p = append-nil (block_sources (p.blocks ++ block_of p ∷ [])) ∙ flat_push (λ (b : Block). condition_sources b.conditions) p.blocks (block_of p)

closed_same : (stage : Stage) (p : Progress) → progress_sources (closed_at stage p) ≡ progress_sources p
closed_same stages.Outside p = refl
closed_same stages.Opened p = refl
closed_same stages.Asking p = refl
closed_same stages.Acting p = closed_sources p

with_one : (p : Progress) (c : Condition) → progress_sources (with_condition p c) ≡ progress_sources p ++ source_of c.pattern
with_one p c = ap (λ l. block_sources p.blocks ++ l) (flat_push (λ (x : Condition). source_of x.pattern) p.conditions c) ∙ sym (append_assoc (block_sources p.blocks) (condition_sources p.conditions) (source_of c.pattern))

opened_sources : (p : Progress) (condition : Option Condition) → progress_sources (opened p condition) ≡ progress_sources p ++ first_sources condition
opened_sources p None = sym (append-nil (progress_sources p))
opened_sources p (Some c) = with_one p c

pub put_sources : (p : Progress) (form : Form) → progress_sources (put p form) ≡ progress_sources p ++ form_sources form
put_sources p forms.Remark = sym (append-nil (progress_sources p))
put_sources p (forms.Ask condition) = with_one p condition
put_sources p (forms.Act action) = sym (append-nil (progress_sources p))
put_sources p (forms.Set setting) = closed_same p.stage p ∙ sym (append-nil (progress_sources p))
put_sources p (forms.Fields names) = closed_same p.stage p ∙ sym (append-nil (progress_sources p))
put_sources p (forms.DateFormat parts) = closed_same p.stage p ∙ sym (append-nil (progress_sources p))
put_sources p (forms.Assign a) = closed_same p.stage p ∙ sym (append-nil (progress_sources p))
put_sources p (forms.If condition) = opened_sources (closed p) condition ∙ ap (λ l. l ++ first_sources condition) (closed_same p.stage p)

pub built_more : (content : List ℕ) (p q : Progress) (old new : List Regex) → IsTaken content p q old new → AreBuilt (progress_sources p) old → AreBuilt (progress_sources q) new
built_more content p q old new taken built =
    subst (λ (s : List (List ℕ)). AreBuilt s new) (sym (ap progress_sources taken.added ∙ put_sources p taken.form)) (taken.grows (progress_sources p) built)

-- outside blocks no pattern waits
abbrev pub is_tidy : Stage → List Condition → Type 0
is_tidy stages.Outside conditions = conditions ≡ []
is_tidy _ conditions = Unit {0}

abbrev pub IsTidy : Progress → Type 0
IsTidy p = is_tidy p.stage p.conditions

closed_tidy : (stage : Stage) (p : Progress) → p.stage ≡ stage → IsTidy p → IsTidy (closed_at stage p)
closed_tidy stages.Outside p e t = t
closed_tidy stages.Opened p e t = t
closed_tidy stages.Asking p e t = t
closed_tidy stages.Acting p e t = refl

opened_tidy : (p : Progress) (condition : Option Condition) → IsTidy (opened p condition)
opened_tidy p None = tt
opened_tidy p (Some c) = tt

pub put_tidy : (p : Progress) (form : Form) → IsTidy p → IsTidy (put p form)
put_tidy p forms.Remark t = t
put_tidy p (forms.Ask condition) t = tt
put_tidy p (forms.Act action) t = tt
put_tidy p (forms.Set setting) t = closed_tidy p.stage p refl t
put_tidy p (forms.Fields names) t = closed_tidy p.stage p refl t
put_tidy p (forms.DateFormat parts) t = closed_tidy p.stage p refl t
put_tidy p (forms.Assign a) t = closed_tidy p.stage p refl t
put_tidy p (forms.If condition) t = opened_tidy (closed p) condition

pub tidy_more : (content : List ℕ) (p q : Progress) (old new : List Regex) → IsTaken content p q old new → IsTidy p → IsTidy q
tidy_more content p q old new taken t = subst IsTidy (sym taken.added) (put_tidy p taken.form t)

finished_by : (stage : Stage) (p : Progress) (sheet : Sheet) → p.stage ≡ stage → IsTidy p → finished_at stage p ≡ Some sheet → sheet_sources sheet ≡ progress_sources p
finished_by stages.Outside p sheet e t done =
    let none : p.conditions ≡ [] = subst (λ (s : Stage). is_tidy s p.conditions) e t in
    let same : sheet_of p ≡ sheet = cc in
    ap sheet_sources (sym same) ∙ sym (rw none (append-nil (block_sources p.blocks)))
finished_by stages.Opened p sheet e t done = absurd (let never : ⊥ = cc in never)
finished_by stages.Asking p sheet e t done = absurd (let never : ⊥ = cc in never)
finished_by stages.Acting p sheet e t done =
    let same : sheet_of (without_block p) ≡ sheet = cc in
    ap sheet_sources (sym same) ∙ flat_push (λ (b : Block). condition_sources b.conditions) p.blocks (block_of p)

pub finished_sources : (p : Progress) (sheet : Sheet) → IsTidy p → finished p ≡ Some sheet → sheet_sources sheet ≡ progress_sources p
finished_sources p sheet t done = finished_by p.stage p sheet refl t done
