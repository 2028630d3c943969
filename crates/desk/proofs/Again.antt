-- An import that was done is repeated.
use Rattle.std.proofs.Common.{◌≡◌, ◌⊎◌, inl, inr, ℕ, Bool, true, false, not, ◌&&◌, List, [], ◌∷◌, ◌++◌, map, Option, Some, None, Result, Ok, Err, refl, ap, sym, subst, ◌∙◌}
use Rattle.std.specs.List.{list_all}
use Rattle.std.specs.Option.{unwrap_or}
use Rattle.std.specs.Str.{bytes_eq}
use Rattle.hl_base.specs.declared.change.Latest.{Latest}
use Rattle.book.specs.declared.transaction.Txn.{Txn}
use Rattle.csv_rules.specs.Importing.{new_after, state_after, state_by}
use Rattle.csv_rules.proofs.NewOnes.{twice-new}
use Rattle.live_journal.specs.Loading.{first_of}
use Rattle.live_journal.specs.declared.edit.Edit.{Edit}
use Rattle.live_journal.specs.declared.edit.Edit.TheVariants as edits
use Rattle.query.specs.Building.{IsOneOf}
use Rattle.desk.specs.declared.csv_fault.CsvFault.{CsvFault}
use Rattle.desk.specs.declared.deed.Deed.{Deed}
use Rattle.desk.specs.declared.reply.Reply.{Reply}
use Rattle.desk.specs.declared.reply.Reply.TheVariants as reply
use Rattle.desk.specs.declared.request.Allow.{Allow}
use Rattle.desk.specs.declared.request.Allow.TheVariants as allow
use Rattle.desk.specs.declared.request.Request.{Request}
use Rattle.desk.specs.declared.request.Request.TheVariants as request
use Rattle.desk.specs.Entries.{Entry}
use Rattle.desk.specs.Histories.{AddsNothing, IsRepeated, Legal, imports}
use Rattle.desk.specs.Imports.{deed_for, entries_of, new_deed, pattern_lines, state_named}
use Rattle.desk.specs.States.{Answer, State, answer_to, deed_answer, deed_in, edited_state, file_answer, forbidden, import_answer, or_done, or_replies, plain, refusals, refused_line, states_with, stays, unless_forbidden}
use Rattle.desk.specs.Steps.{Gives, Stays, is_done}
use Rattle.desk.proofs.Named.{named_other, named_with}
use Rattle.desk.proofs.Served.{forbidden_undone, refusals_undone}

true_false : true ≡ false → ⊥
true_false h = cc

-- ---- what an import puts in

-- it has new entries, and the state that it leaves
deed_mark : (text : List ℕ) (new : List Txn) (mark : Option Latest) (d : Deed) → deed_for text new mark ≡ Some d → (n : Txn) × (ns : List Txn) × (new ≡ n ∷ ns) × (d.mark ≡ mark)
deed_mark text [] mark d h = absurd (cc h)
deed_mark text (n ∷ ns) mark d h = (n, ns, refl, (let e : Some mark ≡ Some d.mark = ap mark_in h in cc))
  where
    mark_in : Option Deed → Option (Option Latest)
    mark_in None = None
    mark_in (Some x) = Some x.mark

-- the state that is left is found under its name
remembered : (name : List ℕ) (states : List Latest) (ts : List Txn) (n : Txn) (ns : List Txn) (mark : Option Latest) → new_after (state_named name states) ts ≡ n ∷ ns
    → mark ≡ state_after name (state_named name states) ts
    → state_named name (unwrap_or (states_with mark states) states) ≡ state_after name (state_named name states) ts
remembered name states ts n ns mark new is =
    let by = ap (state_by name (state_named name states) ts) new in
    ap (λ (m : Option Latest). state_named name (unwrap_or (states_with m states) states)) (is ∙ by) ∙ named_with _ states ∙ sym by

-- under another name stands what stood there
other_stays : (name other : List ℕ) (states : List Latest) (ts : List Txn) (n : Txn) (ns : List Txn) (mark : Option Latest) → bytes_eq other name ≡ false
    → new_after (state_named other states) ts ≡ n ∷ ns → mark ≡ state_after other (state_named other states) ts
    → state_named name (unwrap_or (states_with mark states) states) ≡ state_named name states
other_stays name other states ts n ns mark differs new is =
    let by = ap (state_by other (state_named other states) ts) new in
    ap (λ (m : Option Latest). state_named name (unwrap_or (states_with m states) states)) (is ∙ by) ∙ named_other name _ states differs

-- ---- a state that remembers an import of some entries

record Remembers (name : List ℕ) (txns : List Txn) (s : State) : Type 0 where
  pub allowed : forbidden s.allowed allow.Add ≡ None
  pub none : new_after (state_named name s.latest) txns ≡ []

-- two states of which this is the same
record Alike (name : List ℕ) (old new : State) : Type 0 where
  pub allowed : new.allowed ≡ old.allowed
  pub states : state_named name new.latest ≡ state_named name old.latest

itself : (name : List ℕ) (s : State) → Alike name s s
itself name s = record { allowed = refl; states = refl }

alike_is : (name : List ℕ) (old mid new : State) → new ≡ mid → Alike name old mid → Alike name old new
alike_is name old mid new is alike = subst (λ (s : State). Alike name old s) (sym is) alike

remembers_on : (name : List ℕ) (txns : List Txn) (old new : State) → Alike name old new → Remembers name txns old → Remembers name txns new
remembers_on name txns old new alike r = record {
  allowed = ap (λ (a : Allow). forbidden a allow.Add) alike.allowed ∙ r.allowed;
  none = ap (λ (o : Option Latest). new_after o txns) alike.states ∙ r.none;
}

-- ---- a request that is no import of this name

plain_alike : (name : List ℕ) (s : State) (e : Edit) (o : Option Reply) → Alike name s (or_done s (plain e) o).state
plain_alike name s e None = record { allowed = refl; states = refl }
plain_alike name s e (Some r) = itself name s

put_alike : (name : List ℕ) (s : State) (d : Deed) (o : Option Reply) → state_named name (unwrap_or (states_with d.mark s.latest) s.latest) ≡ state_named name s.latest
    → Alike name s (or_done s d o).state
put_alike name s d None states = record { allowed = refl; states = states }
put_alike name s d (Some r) states = itself name s

deed_alike : (name other : List ℕ) (s : State) (txns : List Txn) (made : Option Deed) → bytes_eq other name ≡ false → new_deed s.text s.latest other txns ≡ made
    → Alike name s (deed_answer s made).state
deed_alike name other s txns None differs is = itself name s
deed_alike name other s txns (Some d) differs is =
    let m = deed_mark s.text (new_after (state_named other s.latest) txns) (state_after other (state_named other s.latest) txns) d is in
    put_alike name s d (first_of (refusals s allow.Add d)) (other_stays name other s.latest txns m.0 m.1 d.mark differs m.2 m.3)

file_alike : (name other : List ℕ) (s : State) (others : List Reply) (o : Option Reply) (entries : Result (List Txn) CsvFault) → bytes_eq other name ≡ false
    → Alike name s (unless_forbidden s o (or_replies others (file_answer s other entries))).state
file_alike name other s others (Some r) entries differs = itself name s
file_alike name other s others None (Err fault) differs = itself name s
file_alike name other s others None (Ok txns) differs = deed_alike name other s txns (new_deed s.text s.latest other txns) differs refl

differ_by : (b : Bool) → not b ≡ true → b ≡ false
differ_by true h = cc
differ_by false h = refl

answer_alike : (name : List ℕ) (s : State) (day : ℕ) (q : Request) → not (imports name q) ≡ true → Alike name s (answer_to s day q).state
unfolding answer_to
answer_alike name s day (request.Report words) h = itself name s
answer_alike name s day request.Download h = itself name s
answer_alike name s day (request.Add entry) h = plain_alike name s (edits.Add entry) (first_of (refusals s allow.Add (plain (edits.Add entry))))
answer_alike name s day (request.Change base item entry) h = plain_alike name s (edits.Change base item entry) (first_of (refusals s allow.Edit (plain (edits.Change base item entry))))
answer_alike name s day (request.Replace base text) h = plain_alike name s (edits.Replace base text) (first_of (refusals s allow.Edit (plain (edits.Replace base text))))
answer_alike name s day (request.Import other rules csv) h =
    file_alike name other s (map refused_line (pattern_lines rules)) (forbidden s.allowed allow.Add) (entries_of rules csv) (differ_by (bytes_eq other name) h)
answer_alike name s day (request.Check entry) h = itself name s
answer_alike name s day (request.Preview other rules csv) h = itself name s

stays_alike : (name : List ℕ) (s : State) (d : Option Deed) (new : State) → Stays s d new → Alike name s new
stays_alike name s d new (inl is) = alike_is name s s new is (itself name s)
stays_alike name s d new (inr is) = record { allowed = ap (λ (x : State). x.allowed) is; states = ap (λ (x : State). state_named name x.latest) is }

gives_alike : (name : List ℕ) (s : State) (answer : Answer) (d : Option Deed) (before : ℕ) (r : Reply) (new : State) (after : ℕ) → Alike name s answer.state
    → Gives answer d s before r new after → Alike name s new
gives_alike name s answer d before r new after alike (inl h) = alike_is name s answer.state new h.1 alike
gives_alike name s answer d before r new after alike (inr (inl h)) = stays_alike name s d new h.1
gives_alike name s answer d before r new after alike (inr (inr (inl h))) = stays_alike name s d new h.3
gives_alike name s answer d before r new after alike (inr (inr (inr h))) = alike_is name s s new h.1 (itself name s)

parts : (a b : Bool) → (a && b) ≡ true → (a ≡ true) × (b ≡ true)
parts true b h = (refl, h)
parts false b h = cc

-- a state remembers an import over a history without another of its name
through : (name : List ℕ) (txns : List Txn) (between : List Entry) (old : State) (faults : ℕ) (new : State) (faults_now : ℕ)
    → list_all (λ entry. not (imports name entry.request)) between ≡ true → Legal old faults between new faults_now → Remembers name txns old → Remembers name txns new
through name txns [] old faults new faults_now none legal r = subst (λ (s : State). Remembers name txns s) (sym legal.0) r
through name txns (entry ∷ between) old faults new faults_now none legal r =
    let both = parts (not (imports name entry.request)) (list_all (λ e. not (imports name e.request)) between) none in
    let alike = gives_alike name old (answer_to old entry.day.0 entry.request) (deed_in old entry.request) faults entry.reply legal.0 legal.1 (answer_alike name old entry.day.0 entry.request both.0) legal.2 in
    through name txns between legal.0 legal.1 new faults_now both.1 legal.4 (remembers_on name txns old legal.0 alike r)

-- ---- an import that was done

record IsPutIn (name : List ℕ) (s : State) (entries : Result (List Txn) CsvFault) (new : State) : Type 0 where
  pub txns : List Txn
  pub made : entries ≡ Ok txns
  pub allowed : forbidden s.allowed allow.Add ≡ None
  pub deed : Deed
  pub put : new_deed s.text s.latest name txns ≡ Some deed
  pub state : new ≡ edited_state s deed

deed_done : (name : List ℕ) (s : State) (txns : List Txn) (allowed : forbidden s.allowed allow.Add ≡ None) (d : Deed) (o : Option Reply) → new_deed s.text s.latest name txns ≡ Some d
    → first_of (refusals s allow.Add d) ≡ o → is_done (or_done s d o).reply ≡ true → IsPutIn name s (Ok txns) (or_done s d o).state
deed_done name s txns allowed d None put first done = record { txns = txns; made = refl; allowed = allowed; deed = d; put = put; state = refl }
deed_done name s txns allowed d (Some r) put first done = absurd (true_false (sym done ∙ refusals_undone s allow.Add d r first))

made_done : (name : List ℕ) (s : State) (txns : List Txn) (allowed : forbidden s.allowed allow.Add ≡ None) (made : Option Deed) → new_deed s.text s.latest name txns ≡ made
    → is_done (deed_answer s made).reply ≡ true → IsPutIn name s (Ok txns) (deed_answer s made).state
made_done name s txns allowed None put done = absurd (true_false (sym done))
made_done name s txns allowed (Some d) put done = deed_done name s txns allowed d (first_of (refusals s allow.Add d)) put refl done

import_done : (name : List ℕ) (s : State) (others : List Reply) (o : Option Reply) (entries : Result (List Txn) CsvFault) → forbidden s.allowed allow.Add ≡ o
    → is_done (unless_forbidden s o (or_replies others (file_answer s name entries))).reply ≡ true
    → IsPutIn name s entries (unless_forbidden s o (or_replies others (file_answer s name entries))).state
import_done name s others (Some r) entries is done = absurd (true_false (sym done ∙ forbidden_undone s.allowed allow.Add r is))
import_done name s others None (Err fault) is done = absurd (true_false (sym done))
import_done name s others None (Ok txns) is done = made_done name s txns is (new_deed s.text s.latest name txns) refl done

undone_line : (lines : List ℕ) (r : Reply) → IsOneOf r (map refused_line lines) → is_done r ≡ false
undone_line [] r among = absurd among
undone_line (line ∷ lines) r (inl is) = sym (ap is_done is)
undone_line (line ∷ lines) r (inr more) = undone_line lines r more

undone_other : (s : State) (o : Option Reply) (lines : List ℕ) (answer : Answer) (r : Reply) → IsOneOf r (unless_forbidden s o (or_replies (map refused_line lines) answer)).others → is_done r ≡ false
undone_other s None lines answer r among = undone_line lines r among
undone_other s (Some x) lines answer r among = absurd among

first_step : (name rules csv : List ℕ) (s : State) (d : Option Deed) (before : ℕ) (r : Reply) (new : State) (after : ℕ) → is_done r ≡ true
    → Gives (import_answer s name rules csv) d s before r new after → IsPutIn name s (entries_of rules csv) new
first_step name rules csv s d before r new after done (inl h) =
    subst (λ (x : State). IsPutIn name s (entries_of rules csv) x) (sym h.1)
    (import_done name s (map refused_line (pattern_lines rules)) (forbidden s.allowed allow.Add) (entries_of rules csv) refl (sym (ap is_done h.0) ∙ done))
first_step name rules csv s d before r new after done (inr (inl h)) = absurd (true_false (sym done ∙ ap is_done h.0))
first_step name rules csv s d before r new after done (inr (inr (inl h))) = absurd (true_false (sym done ∙ ap is_done h.0))
first_step name rules csv s d before r new after done (inr (inr (inr h))) =
    absurd (true_false (sym done ∙ undone_other s (forbidden s.allowed allow.Add) (pattern_lines rules) (file_answer s name (entries_of rules csv)) r h.0))

-- the state after it remembers it
put_remembers : (name : List ℕ) (s : State) (entries : Result (List Txn) CsvFault) (new : State) (p : IsPutIn name s entries new) → Remembers name p.txns new
put_remembers name s entries new p =
    let m = deed_mark s.text (new_after (state_named name s.latest) p.txns) (state_after name (state_named name s.latest) p.txns) p.deed p.put in
    let found = remembered name s.latest p.txns m.0 m.1 p.deed.mark m.2 m.3 in
    record {
      allowed = ap (λ (x : State). forbidden x.allowed allow.Add) p.state ∙ p.allowed;
      none =
          ap (λ (x : State). new_after (state_named name x.latest) p.txns) p.state
          ∙ ap (λ (o : Option Latest). new_after o p.txns) found
          ∙ twice-new name (state_named name s.latest) p.txns;
    }

-- ---- the import that is repeated

again_answer : (name rules csv : List ℕ) (s : State) (txns : List Txn) → entries_of rules csv ≡ Ok txns → Remembers name txns s
    → import_answer s name rules csv ≡ or_replies (map refused_line (pattern_lines rules)) (stays s (reply.Same s.revision))
again_answer name rules csv s txns made r =
    let others = map refused_line (pattern_lines rules) in
    ap (λ (o : Option Reply). unless_forbidden s o (or_replies others (file_answer s name (entries_of rules csv)))) r.allowed
    ∙ ap (λ (entries : Result (List Txn) CsvFault). or_replies others (file_answer s name entries)) made
    ∙ ap (λ (new : List Txn). or_replies others (deed_answer s (deed_for s.text new (state_after name (state_named name s.latest) txns)))) r.none

repeated : (rules : List ℕ) (s : State) (d : Option Deed) (before : ℕ) (r : Reply) (new : State) (after : ℕ)
    → Gives (or_replies (map refused_line (pattern_lines rules)) (stays s (reply.Same s.revision))) d s before r new after
    → (r ≡ reply.Same new.revision) ⊎ (IsOneOf r (map refused_line (pattern_lines rules)) ⊎ (r ≡ reply.Memory))
repeated rules s d before r new after (inl h) = inl (h.0 ∙ ap (λ (x : State). reply.Same x.revision) (sym h.1))
repeated rules s d before r new after (inr (inl h)) = inr (inr h.0)
repeated rules s d before r new after (inr (inr (inl h))) = absurd (true_false (sym h.1))
repeated rules s d before r new after (inr (inr (inr h))) = inr (inl h.0)

-- ---- the law

-- a history of two parts is one after another
split : (xs ys : List Entry) (old : State) (faults : ℕ) (new : State) (faults_now : ℕ) → Legal old faults (xs ++ ys) new faults_now
    → (mid : State) × (faults_mid : ℕ) × Legal old faults xs mid faults_mid × Legal mid faults_mid ys new faults_now
split [] ys old faults new faults_now legal = (old, faults, (refl, refl), legal)
split (x ∷ xs) ys old faults new faults_now legal =
    let rest = split xs ys legal.0 legal.1 new faults_now legal.4 in
    (rest.0, rest.1, (legal.0, legal.1, legal.2, legal.3, rest.2), rest.3)

import_step : (name rules csv : List ℕ) (s : State) (day : ℕ) (q : Request) (d : Option Deed) (before : ℕ) (r : Reply) (new : State) (after : ℕ) → q ≡ request.Import name rules csv
    → Gives (answer_to s day q) d s before r new after → Gives (import_answer s name rules csv) d s before r new after
unfolding answer_to
import_step name rules csv s day q d before r new after is h = subst (λ (x : Request). Gives (answer_to s day x) d s before r new after) is h

pub adds_nothing : (old new : State) (faults faults_now : ℕ) (earlier between later : List Entry) (first again : Entry) (name rules csv : List ℕ)
    → Legal old faults (earlier ++ (first ∷ between ++ again ∷ later)) new faults_now → IsRepeated name rules csv first between again → AddsNothing rules again
adds_nothing old new faults faults_now earlier between later first again name rules csv legal is =
    let a = split earlier (first ∷ between ++ again ∷ later) old faults new faults_now legal in
    let s = a.0 in
    let b = a.3 in
    let edit = deed_in s first.request in
    let put = first_step name rules csv s edit a.1 first.reply b.0 b.1 is.done (import_step name rules csv s first.day.0 first.request edit a.1 first.reply b.0 b.1 is.first_is b.2) in
    let c = split between (again ∷ later) b.0 b.1 new faults_now b.4 in
    let kept = through name put.txns between b.0 b.1 c.0 c.1 is.none c.2 (put_remembers name s (entries_of rules csv) b.0 put) in
    let d = c.3 in
    let edit_again = deed_in c.0 again.request in
    let step = import_step name rules csv c.0 again.day.0 again.request edit_again c.1 again.reply d.0 d.1 is.again_is d.2 in
    let same = repeated rules c.0 edit_again c.1 again.reply d.0 d.1 (subst (λ (x : Answer). Gives x edit_again c.0 c.1 again.reply d.0 d.1) (again_answer name rules csv c.0 put.txns put.made kept) step) in
    told same d.3
  where
    told : {revision : ℕ} → (again.reply ≡ reply.Same revision) ⊎ (IsOneOf again.reply (map refused_line (pattern_lines rules)) ⊎ (again.reply ≡ reply.Memory)) → again.revision ≡ revision → AddsNothing rules again
    told (inl h) revision = inl (h ∙ ap reply.Same (sym revision))
    told (inr h) revision = inr h
