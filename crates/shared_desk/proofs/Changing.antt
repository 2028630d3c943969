-- That an edit which a machine answers as done is the change of its deed.
use Rattle.std.proofs.Common.{◌≡◌, inl, inr, ℕ, zero, suc, ◌+◌, ◌-◌, ◌≤◌, ◌^◌, ◌==◌, min, Bool, true, false, cond, if◌then◌else◌, nat_lt, List, [], ◌∷◌, ◌++◌, map, length, take, Option, Some, None, Result, Ok, Err, refl, sym, ◌∙◌, ap, subst, arith, length-append}
use Rattle.std.specs.List.{concat, slice_get, AllByRecursion}
use Rattle.std.specs.Str.{bytes_eq}
use Rattle.std.proofs.lemmas.Bool.{false≢true}
use Rattle.hl_base.specs.Items.{cut_from, items_of, kind_of, lines_more}
use Rattle.hl_base.specs.Lines.{lines_of, onto}
use Rattle.hl_base.specs.declared.change.Latest.{Latest}
use Rattle.hl_base.specs.declared.disk.Disk.{Ghosts}
use Rattle.hl_base.specs.declared.items.Piece.{Piece}
use Rattle.book.specs.declared.transaction.Txn.{Txn}
use Rattle.live_journal.specs.declared.edit.Edit.{Edit}
use Rattle.live_journal.specs.declared.edit.Edit.TheVariants as edits
use Rattle.live_journal.specs.declared.fault.EditFault.{EditFault}
use Rattle.live_journal.specs.declared.fault.EditFault.TheVariants as refused
use Rattle.live_journal.specs.Edits.{applied, ended, replacing, splice_of}
use Rattle.live_journal.specs.Loading.{first_of}
use Rattle.live_journal.specs.Refusals.{refusal_of}
use Rattle.plan_commands.specs.Reports.{Report}
use Rattle.query.specs.Building.{IsOneOf}
use Rattle.text_store.specs.Edits.{edited, whole_size}
use Rattle.desk.specs.declared.csv_fault.CsvFault.{CsvFault}
use Rattle.desk.specs.declared.deed.Deed.{Deed}
use Rattle.desk.specs.declared.desk.Desk.{Desk}
use Rattle.desk.specs.declared.reply.Reply.{Reply}
use Rattle.desk.specs.declared.reply.Reply.TheVariants as reply
use Rattle.desk.specs.declared.request.Allow.{Allow}
use Rattle.desk.specs.declared.request.Allow.TheVariants as allow
use Rattle.desk.specs.declared.request.Request.{Request}
use Rattle.desk.specs.declared.request.Request.TheVariants as request
use Rattle.desk.specs.Desks.{IsServed, faults_of, shown_by, state_of}
use Rattle.desk.specs.Entries.{Entry}
use Rattle.desk.specs.Imports.{entries_of, new_deed, pattern_lines}
use Rattle.desk.specs.Reports.{refusable_lines, refusable_words, words_over}
use Rattle.desk.specs.Previews.{revision_line}
use Rattle.desk.specs.States.{Answer, State, added_by, answer_to, change_of, covers, deed_answer, deed_in, deed_of_file, dry_reply, edit_answer, file_answer, forbidden, image_of, import_answer, is_due, journal_of, last_revision, long_name, many_states, no_room, or_done, or_replies, plain, record_size, refusals, refused_line, refused_pattern, refused_rule, report_reply, states_with, unaccepted, unchanged, unless_forbidden}
use Rattle.desk.specs.Steps.{Gives, is_done}
use Rattle.desk.proofs.DryLaws.{dry_undone}
use Rattle.desk.proofs.Edited.{edited_is}
use Rattle.shared_desk.proofs.Freshness.{none_first}

-- ---- an edit's part lies in the text

concat_take : (n : ℕ) (ls : List (List ℕ)) → length (concat (take n ls)) ≤ length (concat ls)
concat_take zero ls = omega arith
concat_take (suc n) [] = omega arith
concat_take (suc n) (l ∷ ls) = omega (arith, concat_take n ls, length-append l (concat (take n ls)), length-append l (concat ls))

abbrev Ends : ℕ → Piece → Type 0
Ends most p = p.at + p.len ≤ most

all_same : (a b : ℕ) (ps : List Piece) → a ≡ b → AllByRecursion (Ends a) ps → AllByRecursion (Ends b) ps
all_same a b ps e h = subst (λ (n : ℕ). AllByRecursion (Ends n) ps) e h

within_cut : (taken at line : ℕ) (ls : List (List ℕ)) → AllByRecursion (Ends (at + length (concat ls))) (cut_from taken at line ls)
within_cut taken at line [] = tt
within_cut (suc taken) at line (l ∷ ls) =
    all_same (at + length l + length (concat ls)) (at + length (concat (l ∷ ls))) (cut_from taken (at + length l) (line + 1) ls) (omega (arith, length-append l (concat ls))) (within_cut taken (at + length l) (line + 1) ls)
within_cut zero at line (l ∷ ls) =
    let n = lines_more (kind_of l) ls in (
      omega (arith, concat_take n ls, length-append l (concat ls)),
      all_same (at + length l + length (concat ls)) (at + length (concat (l ∷ ls))) (cut_from n (at + length l) (line + 1) ls) (omega (arith, length-append l (concat ls))) (within_cut n (at + length l) (line + 1) ls),
    )

concat_onto : (b : ℕ) (ls : List (List ℕ)) → concat (onto b ls) ≡ b ∷ concat ls
concat_onto b [] = refl
concat_onto b (l ∷ ls) = refl

concat_lines : (text : List ℕ) → concat (lines_of text) ≡ text
concat_lines [] = refl
concat_lines (b ∷ bs) = by (b == 10) (concat_lines bs)
  where
    by : (t : Bool) → concat (lines_of bs) ≡ bs → concat (cond t ((b ∷ []) ∷ lines_of bs) (onto b (lines_of bs))) ≡ b ∷ bs
    by true rest = ap (λ (xs : List ℕ). b ∷ xs) rest
    by false rest = concat_onto b (lines_of bs) ∙ ap (λ (xs : List ℕ). b ∷ xs) rest

within_text : (text : List ℕ) → AllByRecursion (Ends (length text)) (items_of text)
within_text text =
    all_same (0 + length (concat (lines_of text))) (length text) (items_of text) (same (concat (lines_of text)) (concat_lines text)) (within_cut 0 0 1 (lines_of text))
  where
    same : (xs : List ℕ) → xs ≡ text → 0 + length xs ≡ length text
    same xs e = omega (arith, ap length e)

piece_lies : (most n : ℕ) (ps : List Piece) (bytes : List ℕ) → AllByRecursion (Ends most) ps
    → (replacing (slice_get ps n) bytes).at + (replacing (slice_get ps n) bytes).removed ≤ most
piece_lies most n [] bytes h = omega arith
piece_lies most zero (p ∷ ps) bytes h = h.0
piece_lies most (suc n) (p ∷ ps) bytes h = piece_lies most n ps bytes h.1

item_lies : (text : List ℕ) (item : ℕ) (bytes : List ℕ) (none : Bool)
    → (replacing (if none then None else slice_get (items_of text) (item - 1)) bytes).at
    + (replacing (if none then None else slice_get (items_of text) (item - 1)) bytes).removed ≤ length text
item_lies text item bytes true = omega arith
item_lies text item bytes false = piece_lies (length text) (item - 1) (items_of text) bytes (within_text text)

inside : (text : List ℕ) (e : Edit) → (splice_of text e).at + (splice_of text e).removed ≤ length text
inside text (edits.Add entry) = omega arith
inside text (edits.Change base item entry) = item_lies text item (ended entry) (item == 0)
inside text (edits.Replace base new) = omega arith

-- ---- no refusal is an edit that stands

abbrev IfNotDone : Option Reply → Type 0
IfNotDone None = Unit {0}
IfNotDone (Some r) = is_done r ≡ false

allowed_not : (covered : Bool) (need have : Allow) → IfNotDone (if covered then None else Some (reply.Forbidden need have))
allowed_not true need have = tt
allowed_not false need have = refl

same_not : (same : Bool) (revision : ℕ) → IfNotDone (if same then Some (reply.Same revision) else None)
same_not true revision = refl
same_not false revision = tt

room_not : (due past : Bool) (size limit : ℕ) → IfNotDone (if due then (if past then Some (reply.Full size limit) else None) else None)
room_not true true size limit = refl
room_not true false size limit = tt
room_not false past size limit = tt

full_not : (within : Bool) (size limit : ℕ) → IfNotDone (if within then None else Some (reply.Full size limit))
full_not true size limit = tt
full_not false size limit = refl

name_not : (mark : Option Latest) → IfNotDone (long_name mark)
name_not None = tt
name_not (Some mark) = full_not (nat_lt (length mark.name) (2 ^ 32)) (length mark.name) (2 ^ 32 - 1)

states_not : (states : Option (List Latest)) → IfNotDone (many_states states)
states_not None = tt
states_not (Some states) = full_not (nat_lt (length states) (2 ^ 32)) (length states) (2 ^ 32 - 1)

accepted_not : (o : Option EditFault) → IfNotDone (unaccepted o)
accepted_not None = tt
accepted_not (Some (refused.BadBase base current)) = refl
accepted_not (Some (refused.Stale base current)) = refl
accepted_not (Some (refused.NoSuchItem n count)) = refl
accepted_not (Some (refused.NotTransactions line)) = refl
accepted_not (Some (refused.TooLarge limit size)) = refl
accepted_not (Some (refused.Load fault)) = refl
accepted_not (Some refused.Memory) = refl

next_not : (o : Option Reply) (rest : List (Option Reply)) → IfNotDone o → IfNotDone (first_of rest) → IfNotDone (first_of (o ∷ rest))
next_not None rest h more = more
next_not (Some r) rest h more = h

refusals_not : (s : State) (need : Allow) (d : Deed) → IfNotDone (first_of (refusals s need d))
refusals_not s need d =
    let refused_by = unaccepted (refusal_of (journal_of s) d.edit) in
    let whole = unchanged (applied s.text d.edit) s.text s.revision in
    let room = no_room s (record_size (change_of s.text d)) in
    let last = last_revision s.revision in
    let name = long_name d.mark in
    let states = many_states (states_with d.mark s.latest) in
    let r = record_size (change_of s.text d) in
    let most = whole_size (image_of s) + r in
    next_not (forbidden s.allowed need) (refused_by ∷ whole ∷ room ∷ last ∷ name ∷ states ∷ []) (allowed_not (covers s.allowed need) need s.allowed)
    (next_not refused_by (whole ∷ room ∷ last ∷ name ∷ states ∷ []) (accepted_not (refusal_of (journal_of s) d.edit))
    (next_not whole (room ∷ last ∷ name ∷ states ∷ []) (same_not (bytes_eq (applied s.text d.edit) s.text) s.revision)
    (next_not room (last ∷ name ∷ states ∷ []) (room_not (is_due s r) (nat_lt s.limit most) (min most (2 ^ 64 - 1)) s.limit)
    (next_not last (name ∷ states ∷ []) (full_not (nat_lt s.revision (2 ^ 62)) (min (s.revision + 1) (2 ^ 64 - 1)) (2 ^ 62))
    (next_not name (states ∷ []) (name_not d.mark)
    (next_not states [] (states_not (states_with d.mark s.latest)) tt))))))

unlike : (r : Reply) → is_done r ≡ false → is_done r ≡ true → ⊥
unlike r lacks h = false≢true (sym lacks ∙ h)

-- ---- what stands is the change of the deed

-- where nothing is refused, there are few enough states
few_states : (s : State) (need : Allow) (d : Deed) → first_of (refusals s need d) ≡ None → many_states (states_with d.mark s.latest) ≡ None
few_states s need d e =
    let refused_by = unaccepted (refusal_of (journal_of s) d.edit) in
    let whole = unchanged (applied s.text d.edit) s.text s.revision in
    let room = no_room s (record_size (change_of s.text d)) in
    let last = last_revision s.revision in
    let name = long_name d.mark in
    let states = many_states (states_with d.mark s.latest) in
    let a = none_first (forbidden s.allowed need) (refused_by ∷ whole ∷ room ∷ last ∷ name ∷ states ∷ []) e in
    let b = none_first refused_by (whole ∷ room ∷ last ∷ name ∷ states ∷ []) a.1 in
    let c = none_first whole (room ∷ last ∷ name ∷ states ∷ []) b.1 in
    let f = none_first room (last ∷ name ∷ states ∷ []) c.1 in
    let h = none_first last (name ∷ states ∷ []) f.1 in
    let k = none_first name (states ∷ []) h.1 in
    (none_first states [] k.1).0

abbrev pub IsMade : State → Deed → State → Type 0
IsMade s d new = edited (image_of s) (change_of s.text d) ≡ Some (image_of new)

done_made : (s : State) (need : Allow) (d : Deed) (o : Option Reply) → first_of (refusals s need d) ≡ o → IfNotDone o
    → is_done (or_done s d o).reply ≡ true → IsMade s d (or_done s d o).state
done_made s need d None e lacks h = edited_is s d.edit d.mark (inside s.text d.edit) (few_states s need d e)
done_made s need d (Some r) e lacks h = absurd (unlike r lacks h)

edit_made : (s : State) (need : Allow) (d : Deed) → is_done (edit_answer s need d).reply ≡ true → IsMade s d (edit_answer s need d).state
edit_made s need d h = done_made s need d (first_of (refusals s need d)) refl (refusals_not s need d) h

-- an edit is asked for, and the image after it is that of its change
abbrev pub IsDeedMade : State → Option Deed → State → Type 0
IsDeedMade s o new = (d : Deed) × (o ≡ Some d) × IsMade s d new

new_made : (s : State) (o : Option Deed) → is_done (deed_answer s o).reply ≡ true → IsDeedMade s o (deed_answer s o).state
new_made s None h = absurd (false≢true h)
new_made s (Some d) h = (d, refl, edit_made s allow.Add d h)

file_made : (s : State) (name : List ℕ) (file : Result (List Txn) CsvFault) → is_done (file_answer s name file).reply ≡ true
    → IsDeedMade s (deed_of_file s name file) (file_answer s name file).state
file_made s name (Ok txns) h = new_made s (new_deed s.text s.latest name txns) h
file_made s name (Err fault) h = absurd (false≢true h)

unless_made : (s : State) (o : Option Reply) (answer : Answer) (deed : Option Deed) → IfNotDone o
    → (is_done answer.reply ≡ true → IsDeedMade s deed answer.state)
    → is_done (unless_forbidden s o answer).reply ≡ true → IsDeedMade s deed (unless_forbidden s o answer).state
unless_made s None answer deed lacks made h = made h
unless_made s (Some r) answer deed lacks made h = absurd (unlike r lacks h)

no_report : (revision : ℕ) (made : Report) → is_done (report_reply revision made) ≡ true → ⊥
no_report revision (Ok bytes) h = false≢true h
no_report revision (Err fault) h = false≢true h

answer_made : (s : State) (day : ℕ) (q : Request) → is_done (answer_to s day q).reply ≡ true → IsDeedMade s (deed_in s q) (answer_to s day q).state
unfolding answer_to
answer_made s day (request.Report words) h = absurd (no_report s.revision (words_over day None s.text words) h)
answer_made s day request.Download h = absurd (false≢true h)
answer_made s day (request.Add entry) h = (plain (edits.Add entry), refl, edit_made s allow.Add (plain (edits.Add entry)) h)
answer_made s day (request.Change base item entry) h =
    (plain (edits.Change base item entry), refl, edit_made s allow.Edit (plain (edits.Change base item entry)) h)
answer_made s day (request.Replace base text) h = (plain (edits.Replace base text), refl, edit_made s allow.Edit (plain (edits.Replace base text)) h)
answer_made s day (request.Import name rules csv) h =
    unless_made s (forbidden s.allowed allow.Add) (or_replies (map refused_line (pattern_lines rules)) (file_answer s name (entries_of rules csv)))
    (deed_of_file s name (entries_of rules csv)) (allowed_not (covers s.allowed allow.Add) allow.Add s.allowed)
    (λ done. file_made s name (entries_of rules csv) done) h
answer_made s day (request.Check entry) h =
    let own = (edit_answer s allow.Add (plain (edits.Add entry))).reply in
    absurd (unlike (dry_reply s.revision (revision_line (s.revision + 1)) own) (dry_undone s.revision (revision_line (s.revision + 1)) own) h)
answer_made s day (request.Preview name rules csv) h =
    let answer = import_answer s name rules csv in
    absurd (unlike (dry_reply s.revision (added_by s answer) answer.reply) (dry_undone s.revision (added_by s answer) answer.reply) h)

-- ---- no other reply stands

rule_not : (lines : List ℕ) (r : Reply) → IsOneOf r (map refused_rule lines) → is_done r ≡ false
rule_not [] r among = absurd among
rule_not (line ∷ lines) r (inl is) = subst (λ (x : Reply). is_done x ≡ false) is refl
rule_not (line ∷ lines) r (inr more) = rule_not lines r more

word_not : (words : List (List ℕ)) (lines : List ℕ) (r : Reply) → IsOneOf r (map refused_pattern words ++ map refused_rule lines) → is_done r ≡ false
word_not [] lines r among = rule_not lines r among
word_not (word ∷ words) lines r (inl is) = subst (λ (x : Reply). is_done x ≡ false) is refl
word_not (word ∷ words) lines r (inr more) = word_not words lines r more

line_not : (lines : List ℕ) (r : Reply) → IsOneOf r (map refused_line lines) → is_done r ≡ false
line_not [] r among = absurd among
line_not (line ∷ lines) r (inl is) = subst (λ (x : Reply). is_done x ≡ false) is refl
line_not (line ∷ lines) r (inr more) = line_not lines r more

import_not : (s : State) (o : Option Reply) (lines : List ℕ) (answer : Answer) (r : Reply)
    → IsOneOf r (unless_forbidden s o (or_replies (map refused_line lines) answer)).others → is_done r ≡ false
import_not s None lines answer r among = line_not lines r among
import_not s (Some x) lines answer r among = absurd among

or_done_not : (s : State) (d : Deed) (o : Option Reply) (r : Reply) → IsOneOf r (or_done s d o).others → is_done r ≡ false
or_done_not s d None r among = absurd among
or_done_not s d (Some x) r among = absurd among

others_not : (s : State) (day : ℕ) (q : Request) (r : Reply) → IsOneOf r (answer_to s day q).others → is_done r ≡ false
unfolding answer_to
others_not s day (request.Report words) r among = word_not (refusable_words day words) (refusable_lines day None s.text words) r among
others_not s day request.Download r among = absurd among
others_not s day (request.Add entry) r among = or_done_not s (plain (edits.Add entry)) (first_of (refusals s allow.Add (plain (edits.Add entry)))) r among
others_not s day (request.Change base item entry) r among =
    or_done_not s (plain (edits.Change base item entry)) (first_of (refusals s allow.Edit (plain (edits.Change base item entry)))) r among
others_not s day (request.Replace base text) r among =
    or_done_not s (plain (edits.Replace base text)) (first_of (refusals s allow.Edit (plain (edits.Replace base text)))) r among
others_not s day (request.Import name rules csv) r among =
    import_not s (forbidden s.allowed allow.Add) (pattern_lines rules) (file_answer s name (entries_of rules csv)) r among
others_not s day (request.Check entry) r among = or_done_not s (plain (edits.Add entry)) (first_of (refusals s allow.Add (plain (edits.Add entry)))) r among
others_not s day (request.Preview name rules csv) r among =
    import_not s (forbidden s.allowed allow.Add) (pattern_lines rules) (file_answer s name (entries_of rules csv)) r among

-- ---- a step

step_made : (s : State) (day : ℕ) (q : Request) (before : ℕ) (r : Reply) (new : State) (after : ℕ)
    → Gives (answer_to s day q) (deed_in s q) s before r new after → is_done r ≡ true → IsDeedMade s (deed_in s q) new
step_made s day q before r new after (inl is) h =
    subst (λ (x : State). IsDeedMade s (deed_in s q) x) (sym is.1) (answer_made s day q (ap is_done (sym is.0) ∙ h))
step_made s day q before r new after (inr (inl memory)) h = absurd (unlike r (ap is_done memory.0) h)
step_made s day q before r new after (inr (inr (inl fault))) h = absurd (unlike r (ap is_done fault.0) h)
step_made s day q before r new after (inr (inr (inr other))) h = absurd (unlike r (others_not s day q r other.0) h)

module _ {D : Type 0} {g : Ghosts D} where
  pub done_change : (before after : Desk D g) (entry : Entry) → IsServed before entry after → is_done entry.reply ≡ true
      → (deed : Deed) × (deed_in (state_of before) entry.request ≡ Some deed)
      × (edited (shown_by before) (change_of (state_of before).text deed) ≡ Some (shown_by after))
  done_change before after entry served h =
      step_made (state_of before) entry.day.0 entry.request (faults_of before) entry.reply (state_of after) (faults_of after) served.serves.gives h
